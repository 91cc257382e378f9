use Rattle.std.proofs.Common.{◌∙◌, rules, tests}
use Rattle.std.proofs.lemmas.Iterator.Search.{any_from_yields_List}
use Rattle.std.proofs.lemmas.Iterator.{YieldsList-from_slice}
use Rattle.site_base.specs.View.{plain}
use Rattle.site_config.specs.Forms.{is_same_text}
use Rattle.site_config.proofs.ListLaws.{any_in_list}
use Rattle.site_config.proofs.forms.has_text.Goals as goal

pub returns : goal.returns
returns c =
    any_from_yields_List (λ v. is_same_text c.args.text.now (plain v)) _ _ c.any.result c.any.ensures.ran (YieldsList-from_slice _ c.iter.ensures.rest) (λ x b q k. search (rules, tests))
    ∙ any_in_list (is_same_text c.args.text.now) c.args.list.now _ c.as_slice.ensures
