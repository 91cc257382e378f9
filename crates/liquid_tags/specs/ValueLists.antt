-- Lists of values, by which contracts see what a loop goes over.
use Rattle.std.specs.Prelude.{◌≡◌, List, [], ◌∷◌, refl}
use Rattle.std.proofs.Common.{ap}
use Rattle.std.specs.Coded.{Coded, code_by}
use Rattle.site_base.specs.Flat.{flat_items}
use Rattle.site_base.specs.Plain.{Plain, Items, no_items, item, item_list}

abbrev pub Values : Type 0
Values = List Plain

abbrev pub items_from : Values → Items
items_from [] = no_items
items_from (v ∷ vs) = item v (items_from vs)

pub items-back : (vs : Values) → item_list (items_from vs) ≡ vs
items-back [] = refl
items-back (v ∷ vs) = ap (λ (ws : Values). v ∷ ws) (items-back vs)

-- a proof tells them apart by their items
abbrev pub values_code : Coded Values
values_code = code_by Items flat_items items_from item_list items-back
