use Rattle.std.proofs.Common.{◌≡◌, drop}
use Rattle.site_base.specs.Plain.{key_list, onto}
use Rattle.site_base.specs.View.{pairs_of}
use Rattle.site_items.specs.Labels.{text_items}
use Rattle.site_items.proofs.labels.name_list.Given as goal

abbrev pub invariant-loop-pair : goal.invariant-loop-pair
invariant-loop-pair l = onto l.list (text_items (key_list (pairs_of (drop l.pair-index l.pair-items)))) ≡ text_items (key_list (pairs_of l.pair-items))
