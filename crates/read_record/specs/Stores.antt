-- Keys and codes under numbers, each kept once, with how often each is held.
use Rattle.std.specs.Prelude.{◌≡◌, ℕ, ◌+◌, ◌<◌, ◌≤◌, ◌==◌, List, [], ◌∷◌, map, Option, None, IsSome, slice_index_or, if◌then◌else◌, refl}
use Rattle.std.specs.Coded.{Coded, code_by, coded×, coded_list, coded_option, coded_ℕ}
use Rattle.std.specs.FinMap as numbered
use Rattle.std.specs.Option.{option_map_or}
use Rattle.text_pool.specs.Texts.{Texts, held_code, bytes_of, count_of}
use Rattle.read_record.specs.declared.key.Key.{Key}
use Rattle.read_record.specs.declared.key.Key.TheVariants.{Moment}
use Rattle.read_record.specs.Queries.{Reads}

-- ---- keys

-- a key, and how many reads have it
pub record HeldKey : Type 0 where
  pub key : Key
  pub count : ℕ

abbrev pub held_key_code : Coded Key → Coded HeldKey
held_key_code key = code_by (Key × ℕ) (coded× key coded_ℕ) (λ h. (h.key, h.count)) (λ p. record { key = p.0; count = p.1 }) (λ _. refl)

-- the keys by their numbers, from 0 on
abbrev pub Keys : Type 0
Keys = List (Option HeldKey)

-- the key of a number; where no read has the number, it says nothing
abbrev pub key_of : Keys → ℕ → Key
key_of keys number = option_map_or (λ h. h.key) (slice_index_or keys number None) Moment

-- how many reads have a number
abbrev pub uses_of : Keys → ℕ → ℕ
uses_of keys number = option_map_or (λ h. h.count) (slice_index_or keys number None) 0

-- a number has a key
abbrev pub IsThere : Keys → ℕ → Type 0
IsThere keys number = IsSome (slice_index_or keys number None)

-- a number has this key
abbrev pub IsAt : Keys → ℕ → Key → Type 0
IsAt keys number key = IsThere keys number × (key_of keys number ≡ key)

-- ---- what is held under numbers

-- how often a number stands there
abbrev pub times : ℕ → List ℕ → ℕ
times number [] = 0
times number (n ∷ ns) = (if number == n then 1 else 0) + times number ns

-- how often each number is held, and what it stands for
pub record Held (V : Type 0) : Type 0 where
  pub count : ℕ → ℕ
  pub value : ℕ → V

abbrev pub held_keys : Keys → Held Key
held_keys keys = record { count = uses_of keys; value = key_of keys }

abbrev pub held_codes : Texts → Held (List ℕ)
held_codes codes = record { count = count_of codes; value = bytes_of codes }

module _ {V : Type 0} where
  -- the one holds these numbers beside those of the other, and what both hold stands for the same
  pub record HoldsMore (fewer more : Held V) (numbers : List ℕ) : Type 0 where
    pub counts : (number : ℕ) → more.count number ≡ fewer.count number + times number numbers
    pub same : (number : ℕ) → 0 < fewer.count number → 0 < more.count number → more.value number ≡ fewer.value number

  -- each number is held at least as often as it stands there
  abbrev pub HoldsAll : Held V → List ℕ → Type 0
  HoldsAll held numbers = (number : ℕ) → times number numbers ≤ held.count number

-- ---- reads by numbers

-- keys and codes
pub record Store : Type 0 where
  pub keys : Keys
  pub codes : Texts

abbrev pub store_code : Coded Key → Coded Store
store_code key =
    code_by (Keys × Texts) (coded× (coded_list (coded_option (held_key_code key))) (numbered.code coded_ℕ held_code)) (λ s. (s.keys, s.codes)) (λ p. record { keys = p.0; codes = p.1 }) (λ _. refl)

-- the numbers of a key and of a code, for each read
abbrev pub Numbers : Type 0
Numbers = List (ℕ × ℕ)

abbrev pub key_numbers : Numbers → List ℕ
key_numbers numbers = map (λ n. n.0) numbers

abbrev pub code_numbers : Numbers → List ℕ
code_numbers numbers = map (λ n. n.1) numbers

-- the reads that numbers stand for
abbrev pub resolved : Store → Numbers → Reads
resolved store numbers = map (λ n. (key_of store.keys n.0, bytes_of store.codes n.1)) numbers

-- the one store holds these reads beside those of the other
pub record HasMore (fewer more : Store) (numbers : Numbers) : Type 0 where
  pub keys : HoldsMore (held_keys fewer.keys) (held_keys more.keys) (key_numbers numbers)
  pub codes : HoldsMore (held_codes fewer.codes) (held_codes more.codes) (code_numbers numbers)

-- these reads are among those that the store holds
pub record Has (store : Store) (numbers : Numbers) : Type 0 where
  pub keys : HoldsAll (held_keys store.keys) (key_numbers numbers)
  pub codes : HoldsAll (held_codes store.codes) (code_numbers numbers)
