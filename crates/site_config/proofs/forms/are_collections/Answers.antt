use Rattle.std.proofs.Common.{◌∙◌, rules, tests}
use Rattle.std.proofs.lemmas.Iterator.Search.{all_from_yields_List}
use Rattle.std.proofs.lemmas.Iterator.{YieldsList-from_slice}
use Rattle.site_base.specs.View.{plain}
use Rattle.site_config.specs.Forms.{is_named_collection}
use Rattle.site_config.proofs.ListLaws.{all_in_hash}
use Rattle.site_config.proofs.forms.are_collections.Goals as goal

pub returns : goal.returns
returns c =
    all_from_yields_List (λ v. is_named_collection (v.key, plain v.value)) _ _ c.all.result c.all.ensures.ran (YieldsList-from_slice _ c.iter.ensures.rest) (λ x b q k. search (rules, tests))
    ∙ all_in_hash is_named_collection c.args.hash.now _ c.as_slice.ensures
