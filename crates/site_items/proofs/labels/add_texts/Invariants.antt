use Rattle.std.proofs.Common.{◌≡◌, drop, map}
use Rattle.std.specs.Prelude.{fold}
use Rattle.site_base.specs.Plain.{item_list}
use Rattle.site_base.specs.Values.{value_text}
use Rattle.site_base.specs.View.{items_of}
use Rattle.site_items.specs.Labels.{add_name}
use Rattle.site_items.proofs.labels.add_texts.Given as goal

abbrev pub invariant-loop-value : goal.invariant-loop-value
invariant-loop-value l = fold add_name l.names (map value_text (item_list (items_of (drop l.value-index l.value-items)))) ≡ fold add_name l.initial.names (map value_text (item_list (items_of l.value-items)))
