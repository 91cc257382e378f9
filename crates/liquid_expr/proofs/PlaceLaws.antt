-- Tokens at their places.
use Rattle.std.proofs.Common.{◌≡◌, ℕ, ◌+◌, ◌<◌, ◌≤◌, Bool, true, false, ltb, eqb, List, [], ◌∷◌, length, drop, get_or, Some, None, refl, sym, ap, ◌∙◌, arith}
use Rattle.std.specs.Str.{IsCharBoundary}
use Rattle.std.proofs.lemmas.Bool.{ltb-true, ltb-false, ne_eqb}
use Rattle.std.proofs.lemmas.Bool.Decides.{nat_tests}
use Rattle.std.proofs.lemmas.List.{drop_all, drop_more}
use Rattle.std.proofs.lemmas.Str.{IsCharBoundary-before_ascii}
use Rattle.liquid_grammar.specs.Tokens.{Token, large, whole_len, short_mark, long_mark, mark_at, token_at}
use Rattle.site_text.specs.Bytes.{is_digit, is_name_start}
use Rattle.liquid_expr.specs.Tokens.{found_token, token_in}

pub true_false : true ≡ false → ⊥
true_false e = absurd cc

-- ---- No token starts with a byte that is not ASCII

other : (c k : ℕ) → 128 ≤ c → k < 128 → eqb c k ≡ false
other c k high low = ne_eqb c k (λ e. absurd (omega (arith, e, high, low)))

no_start : (c : ℕ) → 128 ≤ c → is_name_start c ≡ false
no_start c high = grind (arith, nat_tests)

no_digit : (c : ℕ) → 128 ≤ c → is_digit c ≡ false
no_digit c high = grind (arith, nat_tests)

no_short : (c : ℕ) → 128 ≤ c → short_mark c ≡ None
no_short c high =
    let dot : eqb c 46 ≡ false = other c 46 high (omega arith) in
    let opens : eqb c 91 ≡ false = other c 91 high (omega arith) in
    let close : eqb c 93 ≡ false = other c 93 high (omega arith) in
    let left : eqb c 40 ≡ false = other c 40 high (omega arith) in
    let right : eqb c 41 ≡ false = other c 41 high (omega arith) in
    let bar : eqb c 124 ≡ false = other c 124 high (omega arith) in
    let colon : eqb c 58 ≡ false = other c 58 high (omega arith) in
    let comma : eqb c 44 ≡ false = other c 44 high (omega arith) in
    let equal : eqb c 61 ≡ false = other c 61 high (omega arith) in
    let less : eqb c 60 ≡ false = other c 60 high (omega arith) in
    let more : eqb c 62 ≡ false = other c 62 high (omega arith) in
    rw (dot, opens, close, left, right, bar, colon, comma, equal, less, more) refl

no_long : (c d : ℕ) → 128 ≤ c → long_mark c d ≡ None
no_long c d high =
    let dot : eqb c 46 ≡ false = other c 46 high (omega arith) in
    let equal : eqb c 61 ≡ false = other c 61 high (omega arith) in
    let bang : eqb c 33 ≡ false = other c 33 high (omega arith) in
    let less : eqb c 60 ≡ false = other c 60 high (omega arith) in
    let more : eqb c 62 ≡ false = other c 62 high (omega arith) in
    rw (dot, equal, bang, less, more) refl

no_mark : (c : ℕ) (cs : List ℕ) → 128 ≤ c → mark_at (c ∷ cs) ≡ None
no_mark c [] high = rw (no_short c high) refl
no_mark c (d ∷ cs) high = rw (no_long c d high, no_short c high) refl

no_whole : (c : ℕ) (cs : List ℕ) → 128 ≤ c → whole_len (c ∷ cs) ≡ 0
no_whole c cs high =
    let sign : eqb c 45 ≡ false = other c 45 high (omega arith) in
    rw (sign, no_digit c high) refl

high_byte : (c : ℕ) (cs : List ℕ) → 128 ≤ c → token_at (c ∷ cs) ≡ None
high_byte c cs high =
    let double : eqb c 34 ≡ false = other c 34 high (omega arith) in
    let single : eqb c 39 ≡ false = other c 39 high (omega arith) in
    rw (no_start c high, double, single, no_whole c cs high) (no_mark c cs high)

pub no_token : (bytes : List ℕ) (place : ℕ) → (IsCharBoundary bytes place → ⊥) → token_at (drop place bytes) ≡ None
no_token bytes place uncut = at (ltb place (length bytes)) refl where
  there : (b : Bool) → place < length bytes → ltb (get_or bytes place 0) 128 ≡ b → token_at (drop place bytes) ≡ None
  there true lt e = absurd (uncut (IsCharBoundary-before_ascii bytes place lt (ltb-true (get_or bytes place 0) 128 e)))
  there false lt e = ap token_at (drop_more bytes place 0 lt) ∙ high_byte (get_or bytes place 0) (drop (place + 1) bytes) (ltb-false (get_or bytes place 0) 128 e)

  at : (b : Bool) → ltb place (length bytes) ≡ b → token_at (drop place bytes) ≡ None
  at true e = there (ltb (get_or bytes place 0) 128) (ltb-true place (length bytes) e) refl
  at false e = ap token_at (drop_all place bytes (ltb-false place (length bytes) e))

-- ---- What stands at a place

module _ (bytes rest : List ℕ) (place : ℕ) (same : token_at rest ≡ token_at (drop place bytes)) where
  pub found_in : (t : Token) (n : ℕ) → token_at rest ≡ Some (t, n) → t ≡ token_in bytes place
  unfolding token_in
  found_in t n e = ap found_token (sym e ∙ same)

  pub none_in : token_at rest ≡ None → large ≡ token_in bytes place
  unfolding token_in
  none_in e = ap found_token (sym e ∙ same)

  pub empty_in : length rest ≡ 0 → large ≡ token_in bytes place
  empty_in e = none_in (empty rest e) where
    empty : (xs : List ℕ) → length xs ≡ 0 → token_at xs ≡ None
    empty [] e = refl
    empty (x ∷ xs) e = absurd (omega (arith, e))
