use Rattle.site_base.specs.View.{plain}
use Rattle.liquid_tags.proofs.ConditionLaws.{same_is}
use Rattle.liquid_tags.proofs.conditions.is_same.Goals as goal

pub returns : goal.returns
returns c = same_is c.equals.result (plain c.args.value.now) (plain c.args.other.now) c.equals.ensures
