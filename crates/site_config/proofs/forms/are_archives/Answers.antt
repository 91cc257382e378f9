use Rattle.std.proofs.Common.{◌∙◌, rules, tests}
use Rattle.std.proofs.lemmas.Iterator.Search.{all_from_yields_List}
use Rattle.std.proofs.lemmas.Iterator.{YieldsList-from_slice}
use Rattle.site_base.specs.View.{plain}
use Rattle.site_config.specs.Forms.{is_archive}
use Rattle.site_config.proofs.ListLaws.{all_in_list}
use Rattle.site_config.proofs.forms.are_archives.Goals as goal

pub returns : goal.returns
returns c =
    all_from_yields_List (λ v. is_archive (plain v)) _ _ c.all.result c.all.ensures.ran (YieldsList-from_slice _ c.iter.ensures.rest) (λ x b q k. search (rules, tests))
    ∙ all_in_list is_archive c.args.list.now _ c.as_slice.ensures
