-- Plain trees as flat lists of tokens, as the one element of a list.
use Rattle.std.specs.Prelude.{refl}
use Rattle.std.specs.Coded.{Coded, code_by}
use Rattle.site_base.specs.Flat.{flat_items}
use Rattle.site_base.specs.Plain.{Plain, nil, Items, no_items, item}

abbrev pub first_item : Items → Plain
first_item no_items = nil
first_item (item v is) = v

abbrev pub flat_plain : Coded Plain
flat_plain = code_by Items flat_items (λ v. item v no_items) first_item (λ v. refl)
