use Rattle.std.proofs.Common.{sym, ap, ◌∙◌, ◌∷◌, ◌+◌, drop}
use Rattle.front_yaml.specs.Scanning.{ends_from}
use Rattle.front_yaml.proofs.ExtentLaws.{quote_passed}
use Rattle.front_yaml.proofs.extents.Scan.step.Goals as goal

pub returns-in-Some-clause-value : goal.returns-in-Some-clause-value
returns-in-Some-clause-value c =
    let s = c.args.self in
    quote_passed s.before s.gap s.comment s.depth c.args.c c.args.rest.now c.in-Some.len c.if-self.false (sym c.starts_comment.ensures ∙ c.if-starts_comment.false) (sym c.starts_quote.ensures ∙ c.if-starts_quote.true) (sym c.in-Some.ensures.value)
    ∙ ap (λ t. ends_from t (drop (c.in-Some.len + 2) (c.args.c ∷ c.args.rest.now))) (sym c.past.ensures)
