-- The item that a file itself is, by its place.
use Rattle.std.proofs.Common.{◌≡◌, ℕ, Bool, true, false, cond, ◌&&◌, ◌==◌, nat_lt, List, length, slice_get, Option, Some, None, refl, sym, ap, ◌∙◌}
use Rattle.std.specs.List.{find, position, position_or_len}
use Rattle.std.specs.Option.{option_and_then}
use Rattle.std.specs.Str.{bytes_eq}
use Rattle.std.proofs.lemmas.Bool.{ltb-false}
use Rattle.std.proofs.lemmas.List.Folds.{find_at}
use Rattle.std.proofs.lemmas.Option.{slice_get_past}
use Rattle.memo_table.specs.Names.{same_name}
use Rattle.memo_table.proofs.EntryLaws.{equal-names}
use Rattle.site_base.specs.declared.item_name.ItemName.{ItemName}
use Rattle.site_reader.specs.declared.site_item.SiteItem.{SiteItem}
use Rattle.site_world.specs.Sights.{source_at}

-- what passes first stands at the first place that does
found : {X : Type 0} (test : X → Bool) (xs : List X) → find test xs ≡ option_and_then (slice_get xs) (position test xs)
found test xs = find_at test xs ∙ at (nat_lt (position_or_len test xs) (length xs)) refl
  where
    at : (b : Bool) → nat_lt (position_or_len test xs) (length xs) ≡ b → slice_get xs (position_or_len test xs) ≡ option_and_then (slice_get xs) (cond b (Some (position_or_len test xs)) None)
    at true e = refl
    at false e = slice_get_past xs (position_or_len test xs) (ltb-false (position_or_len test xs) (length xs) e)

pub source-at_place : (path : List ℕ) (items : List SiteItem) (place : Option ℕ) → place ≡ position (λ item. same_name item.name (record { path = path; part = 0 })) items
    → option_and_then (slice_get items) place ≡ source_at path items
source-at_place path items place at =
    ap (option_and_then (slice_get items)) at
    ∙ sym (found (λ (item : SiteItem). same_name item.name (record { path = path; part = 0 })) items)
    ∙ ap (λ (test : SiteItem → Bool). find test items) (λ i item. sym (equal-names item.name (record { path = path; part = 0 })) i)
