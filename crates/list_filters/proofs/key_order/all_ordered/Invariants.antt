use Rattle.std.proofs.Common.{◌≡◌, drop}
use Rattle.std.specs.Prelude.{is_some}
use Rattle.std.specs.List.{filter, list_all}
use Rattle.site_base.specs.Plain.{item_list}
use Rattle.site_base.specs.Values.{order}
use Rattle.site_base.specs.View.{plain, items_of}
use Rattle.list_filters.specs.Choosing.{is_filled}
use Rattle.list_filters.proofs.key_order.all_ordered.Given as goal

abbrev pub invariant-loop-key : goal.invariant-loop-key
invariant-loop-key l = list_all (λ key. is_some (order (plain l.first) key)) (filter is_filled (item_list (items_of (drop l.key-index l.keys))))
    ≡ list_all (λ key. is_some (order (plain l.first) key)) (filter is_filled (item_list (items_of l.keys)))
