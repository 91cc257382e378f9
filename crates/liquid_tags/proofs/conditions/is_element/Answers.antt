use Rattle.std.proofs.Common.{◌∙◌, rules, tests}
use Rattle.std.proofs.lemmas.Iterator.Search.{any_from_yields_List}
use Rattle.std.proofs.lemmas.Iterator.{YieldsList-from_slice}
use Rattle.site_base.specs.View.{plain}
use Rattle.list_filters.specs.Choosing.{same_value}
use Rattle.liquid_tags.proofs.ConditionLaws.{any_in_list}
use Rattle.liquid_tags.proofs.conditions.is_element.Goals as goal

pub returns : goal.returns
returns c =
    any_from_yields_List (λ v. same_value (plain c.args.value.now) (plain v)) _ _ c.any.result c.any.ensures.ran (YieldsList-from_slice _ c.iter.ensures.rest) (λ x b q k. search (rules, tests))
    ∙ any_in_list (same_value (plain c.args.value.now)) c.args.list.now _ c.as_slice.ensures
