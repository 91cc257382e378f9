use Rattle.std.proofs.Common.{◌∙◌, ap}
use Rattle.std.proofs.lemmas.Int.{to_z-of_z}
use Rattle.std.specs.Int.{w32}
use Rattle.site_base.specs.View.{plain}
use Rattle.site_config.specs.Config.{count_of, offset_of, flag}
use Rattle.site_config.proofs.ConfigLaws.{of_parts}
use Rattle.site_config.proofs.reading.read.Goals as goal

pub returns-clause-made : goal.returns-clause-made
returns-clause-made c =
    of_parts (plain c.args.value) c.in_ok-addresses.addresses c.in_ok-choices.choices c.in_ok-documents.documents c.in_ok-breaks.breaks c.in_ok-generated.generated _ _ _ _ _ _
    c.in_ok-addresses.ensures c.in_ok-choices.ensures c.in_ok-documents.ensures c.in_ok-breaks.ensures c.in_ok-generated.ensures
    (c.count_of.ensures ∙ ap count_of c.setting.ensures)
    (to_z-of_z w32 c.offset_of.result (record { sfits = c.offset_of.type_inv }) ∙ c.offset_of.ensures.is ∙ ap offset_of c.setting-2.ensures)
    (c.flag.ensures ∙ ap flag c.setting-3.ensures) (c.flag-2.ensures ∙ ap flag c.setting-4.ensures) (c.flag-3.ensures ∙ ap flag c.setting-5.ensures)
    c.into_hash.ensures
