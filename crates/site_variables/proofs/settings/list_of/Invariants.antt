use Rattle.std.proofs.Common.{◌≡◌, drop}
use Rattle.site_base.specs.Plain.{onto}
use Rattle.site_items.specs.Labels.{text_items}
use Rattle.site_variables.proofs.settings.list_of.Given as goal

abbrev pub invariant-loop-text : goal.invariant-loop-text
invariant-loop-text l = onto l.list (text_items (drop l.text-index l.texts)) ≡ text_items l.texts
