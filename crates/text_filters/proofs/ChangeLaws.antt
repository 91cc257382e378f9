-- Texts whose first character is no ASCII one.
use Rattle.std.proofs.Common.{◌≡◌, ℕ, ◌≤◌, false, List, [], ◌∷◌, map, nat_lt, refl, ap, sym, inl, inr, rules}
use Rattle.std.specs.Char.{to_ascii_lowercase, to_ascii_uppercase}
use Rattle.std.specs.Str.{IsCharBoundary, IsUtf8}
use Rattle.std.proofs.lemmas.Bool.{cases_lt}
use Rattle.std.proofs.lemmas.Str.{IsCharBoundary-after_ascii}
use Rattle.text_filters.specs.Changes.{capitalized}

-- above ASCII no case changes
no_case : (b : ℕ) → 128 ≤ b → to_ascii_uppercase b ≡ to_ascii_lowercase b
no_case b high =
    let a : nat_lt b 97 ≡ false = search (rules, high) in
    let c : nat_lt b 123 ≡ false = search (rules, high) in
    let d : nat_lt b 65 ≡ false = search (rules, high) in
    let e : nat_lt b 91 ≡ false = search (rules, high) in
    rw (a, c, d, e) refl

-- a text that cannot be cut behind its first byte does not begin with an ASCII letter
pub no_capital : (s : List ℕ) → IsUtf8 s → (IsCharBoundary s 1 → ⊥) → map to_ascii_lowercase s ≡ capitalized s
no_capital [] utf8 none = refl
no_capital (b ∷ s) utf8 none = elim (cases_lt b 128) [
  | inl low ↦ absurd (none (IsCharBoundary-after_ascii (b ∷ s) 0 utf8 (search rules) low))
  | inr high ↦ ap (λ n. n ∷ map to_ascii_lowercase s) (sym (no_case b high))
]
