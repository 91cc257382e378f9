use Rattle.std.proofs.Common.{◌∙◌, sym, arith}
use Rattle.text_filters.proofs.StretchLaws.{front_some, front_none}
use Rattle.text_filters.proofs.stretches.begun.Goals as goal

pub returns-in-Some : goal.returns-in-Some
returns-in-Some c =
    sym c.loop-kinds.invariant ∙ front_some c.loop-kinds.kinds.now c.name.result.now c.args.text.now c.in-Some.inside.now (omega (arith, c.in-len1-up.len_at_least)) c.name.ensures c.in-Some.ensures.cases

pub loop-kinds-preserved : goal.loop-kinds-preserved
loop-kinds-preserved c =
    front_none c.loop-kinds.kinds.now c.name.result.now c.args.text.now (omega (arith, c.in-len1-up.len_at_least)) c.name.ensures c.in_default-strip_prefix.ensures.cases ∙ c.loop-kinds.invariant
