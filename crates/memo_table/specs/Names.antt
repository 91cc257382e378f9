-- The order of names, and whether one stands in a list.
use Rattle.std.specs.Prelude.{Bool, List}
use Rattle.std.specs.List.{list_any}
use Rattle.std.specs.Ordering.{nat_cmp, ordering_then, eq_by_cmp}
use Rattle.std.specs.declared.cmp.Ordering.{Ordering}
use Rattle.site_base.specs.Places.{path_cmp}
use Rattle.site_base.specs.declared.item_name.ItemName.{ItemName}

-- by their paths, and then by their parts
abbrev pub name_cmp : ItemName → ItemName → Ordering
name_cmp a b = ordering_then (path_cmp a.path b.path) (nat_cmp a.part b.part)

abbrev pub same_name : ItemName → ItemName → Bool
same_name = eq_by_cmp name_cmp

abbrev pub is_among : List ItemName → ItemName → Bool
is_among names name = list_any (same_name name) names
