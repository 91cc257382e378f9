use Rattle.std.proofs.Common.{◌∙◌}
use Rattle.liquid_tags.proofs.ConditionLaws.{right_none, right_one}
use Rattle.liquid_tags.proofs.conditions.right_of.Goals as goal

pub returns-in-len1 : goal.returns-in-len1
returns-in-len1 c =
    c.step_right.ensures ∙ right_one c.args.operand.now c.steps.result.now c.steps.ensures c.only-item.result c.in-len1.len_at_least c.in-len1.len_below c.only-item.is

pub returns-in_default : goal.returns-in_default
returns-in_default c = right_none c.args.operand.now c.steps.result.now c.steps.ensures c.in_default.len_below
