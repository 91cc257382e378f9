-- Texts by their numbers, each with how many ids of it are held.
use Rattle.std.specs.Prelude.{◌≡◌, ◌≢◌, ◌↔◌, ℕ, ◌+◌, ◌-◌, ◌<◌, List, [], if◌then◌else◌, nat_lt, refl}
use Rattle.std.specs.Coded.{Coded, code_by, coded×, coded_list, coded_ℕ}
use Rattle.std.specs.FinMap.{FinMap, entries, get, insert, remove}
use Rattle.std.specs.List.{sum_by}
use Rattle.std.specs.Option.{option_map_or}
use Rattle.std.specs.Ordering.{nat_cmp}

-- a text, and how many ids of it are held
pub record HeldText : Type 0 where
  pub bytes : List ℕ
  pub count : ℕ

abbrev pub held_code : Coded HeldText
held_code = code_by (List ℕ × ℕ) (coded× (coded_list coded_ℕ) coded_ℕ) (λ t. (t.bytes, t.count)) (λ p. record { bytes = p.0; count = p.1 }) (λ _. refl)

-- from numbers to texts
abbrev pub Texts : Type 0
Texts = FinMap nat_cmp HeldText

-- the bytes of a number
abbrev pub bytes_of : Texts → ℕ → List ℕ
bytes_of texts number = option_map_or (λ t. t.bytes) (get texts number) []

-- how many ids of a number are held
abbrev pub count_of : Texts → ℕ → ℕ
count_of texts number = option_map_or (λ t. t.count) (get texts number) 0

abbrev pub IsHeld : Texts → ℕ → Type 0
IsHeld texts number = 0 < count_of texts number

-- how many ids are held of all numbers
abbrev pub held_ids : Texts → ℕ
held_ids texts = sum_by (λ e. e.1.count) (entries texts)

-- with one more id of a number that has, or gets, these bytes
abbrev pub with_id : Texts → ℕ → List ℕ → Texts
with_id texts number bytes = insert texts number (record { bytes = bytes; count = count_of texts number + 1 })

-- with one id of a number less; the last takes the text along
abbrev pub without_id : Texts → ℕ → Texts
without_id texts number =
    if nat_lt 1 (count_of texts number) then insert texts number (record { bytes = bytes_of texts number; count = count_of texts number - 1 }) else remove texts number

-- no number has this text
abbrev pub Lacks : Texts → List ℕ → Type 0
Lacks texts bytes = (number : ℕ) → IsHeld texts number → bytes_of texts number ≢ bytes

-- numbers that are held and have the same bytes are one
abbrev pub HaveOneNumber : Texts → Type 0
HaveOneNumber texts = (a b : ℕ) → IsHeld texts a → IsHeld texts b → bytes_of texts a ≡ bytes_of texts b → a ≡ b

-- of the numbers that are held, those that have these bytes are this one
abbrev pub IsNumberOf : Texts → List ℕ → ℕ → Type 0
IsNumberOf texts bytes number = (other : ℕ) → IsHeld texts other → (number ≡ other) ↔ (bytes_of texts other ≡ bytes)

-- a number that stays held keeps its bytes
abbrev pub KeepBytes : Texts → Texts → Type 0
KeepBytes old new = (number : ℕ) → IsHeld old number → IsHeld new number → bytes_of new number ≡ bytes_of old number
