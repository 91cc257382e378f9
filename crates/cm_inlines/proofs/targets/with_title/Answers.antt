use Rattle.std.proofs.Common.{sym, ◌∙◌}
use Rattle.cm_inlines.proofs.TargetLaws.{titled}
use Rattle.cm_inlines.proofs.targets.with_title.Goals as goal

pub returns-in-Some-clause-value : goal.returns-in-Some-clause-value
returns-in-Some-clause-value c =
    c.closing_paren-in-Some.ensures.value
    ∙ titled c.args.url c.args.text.now c.range_from-rest.result.now c.range_from.result.now c.args.n c.white_gap-gap.result c.in-Some.title c.range_from-rest.ensures.value c.range_from.ensures.value c.if-gap-eq0.false c.white_gap-gap.ensures.value
    (sym c.in-Some.is ∙ c.in_ok-title.ensures.value)
