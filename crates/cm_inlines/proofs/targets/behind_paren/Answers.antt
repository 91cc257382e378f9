use Rattle.std.proofs.Common.{List, None, ℕ, Option, IfOk, ap, drop, option_map, subst, sym, ◌≡◌, ◌∙◌}
use Rattle.markdown_grammar.specs.Links.{Reached, closing_paren}
use Rattle.cm_inlines.specs.Targets.{reached_pair}
use Rattle.cm_inlines.proofs.TargetLaws.{behind_none, behind_some}
use Rattle.cm_inlines.proofs.targets.behind_paren.Goals as goal

pub returns-in-Some-clause-value : goal.returns-in-Some-clause-value
returns-in-Some-clause-value c =
    let same = behind_some c.args.text.now c.range_from-inside.result.now c.range_from.result.now c.white_gap-gap.result c.in-Some.url c.range_from-inside.ensures.value c.range_from.ensures.value c.white_gap-gap.ensures.value (sym c.in-Some.is ∙ c.in_ok-url.ensures.value) in
    subst (λ (x : Option Reached). IfOk c.with_title.result (λ found. option_map reached_pair found ≡ x)) same c.with_title.ensures.value

pub returns-in-None-clause-value : goal.returns-in-None-clause-value
returns-in-None-clause-value c =
    c.closing_paren.ensures.value ∙ ap (λ (url : List ℕ). closing_paren (url, None) 1 (drop 1 c.args.text.now)) c.new.ensures
    ∙ behind_none c.args.text.now c.range_from-inside.result.now c.range_from.result.now c.white_gap-gap.result c.range_from-inside.ensures.value c.range_from.ensures.value c.white_gap-gap.ensures.value (sym c.in-None.is ∙ c.in_ok-url.ensures.value)
