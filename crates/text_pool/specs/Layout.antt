-- How a table keeps its texts: each with its number, and each number with the place of its text.
use Rattle.std.specs.Prelude.{◌≡◌, ℕ, ◌<◌, List, map, option_map, slice_get, Some}
use Rattle.std.specs.FinMap.{from_entries}
use Rattle.std.specs.Option.{option_map_or}
use Rattle.slab.specs.Slab.{Slab, get}
use Rattle.text_pool.specs.declared.text_key.TextKey.{TextKey}
use Rattle.text_pool.specs.declared.text_table.Slot.{Slot}
use Rattle.text_pool.specs.TextKeys.{bytes_in}
use Rattle.text_pool.specs.Texts.{Texts, HeldText}

-- how many ids of a number are held
abbrev pub count_in : Slab Slot → ℕ → ℕ
count_in slots number = option_map_or (λ slot. slot.count) (get slots number) 0

abbrev pub text_in : Slab Slot → TextKey × ℕ → HeldText
text_in slots entry = record { bytes = bytes_in entry.0; count = count_in slots entry.1 }

abbrev pub as_texts : List (TextKey × ℕ) → Slab Slot → Texts
as_texts numbers slots = from_entries (map (λ entry. (entry.1, text_in slots entry)) numbers)

-- places and numbers lead to each other
pub record IsSound (numbers : List (TextKey × ℕ)) (slots : Slab Slot) : Type 0 where
  pub placed : (place : ℕ) (entry : TextKey × ℕ) → slice_get numbers place ≡ Some entry → option_map (λ (slot : Slot). slot.place) (get slots entry.1) ≡ Some place
  pub numbered : (number : ℕ) (slot : Slot) → get slots number ≡ Some slot → option_map (λ (entry : TextKey × ℕ). entry.1) (slice_get numbers slot.place) ≡ Some number
  pub counted : (number : ℕ) (slot : Slot) → get slots number ≡ Some slot → 0 < slot.count
