-- Pipes in cells, and the backslashes before them.
use Rattle.std.proofs.Common.{Bool, List, [], ap, append_assoc, arith, codes, drop, drop-cons, drop_of_length-le, false, get_or, length, nat_eq, refl, slice_range, suc, sym, take, true, ℕ, ◌&&◌, ◌+◌, ◌-◌, ◌++◌, ◌<◌, ◌==◌, ◌∙◌, ◌∷◌, ◌≡◌, ◌≤◌, ◌||◌}
use Rattle.std.specs.List.{list_any, starts_with}
use Rattle.markdown_grammar.specs.Tables.{pipe, unescaped}
use Rattle.cm_tables.specs.Cells.{plain_len}

abbrev escapes : List ℕ → Bool
escapes t = starts_with nat_eq t (codes "\\|")

-- a byte that no escape begins at
pub plain_passed : (t : List ℕ) (i : ℕ) → i < length t → escapes (drop i t) ≡ false → i + plain_len (drop i t) ≡ i + 1 + plain_len (drop (i + 1) t)
plain_passed t i lt plain = step (drop i t) (get_or t i 0) (drop (suc i) t) (drop-cons t i 0 lt) plain ∙ ap (λ k. suc i + plain_len (drop k t)) one ∙ same where
  one : suc i ≡ i + 1
  one = omega arith

  same : suc i + plain_len (drop (i + 1) t) ≡ i + 1 + plain_len (drop (i + 1) t)
  same = omega arith

  step : (u : List ℕ) (c : ℕ) (cs : List ℕ) → u ≡ c ∷ cs → escapes u ≡ false → i + plain_len u ≡ suc i + plain_len cs
  step u c cs e h = ap (λ v. i + plain_len v) e ∙ go (escapes (c ∷ cs)) (ap escapes (sym e) ∙ h) where
    go : (b : Bool) → b ≡ false → i + elim b as (λ x. ℕ) [ true ↦ 0 | false ↦ suc (plain_len cs) ] ≡ suc i + plain_len cs
    go true h = absurd cc
    go false h = omega arith

-- up to the first backslash before a pipe all stays, and that backslash goes
pub unescaped_first : (t : List ℕ) → take (plain_len t) t ++ unescaped (drop (plain_len t + 1) t) ≡ unescaped t
unescaped_first [] = refl
unescaped_first (c ∷ cs) = go (escapes (c ∷ cs)) (unescaped_first cs) where
  go : (b : Bool) → take (plain_len cs) cs ++ unescaped (drop (plain_len cs + 1) cs) ≡ unescaped cs
      → take (elim b as (λ x. ℕ) [ true ↦ 0 | false ↦ suc (plain_len cs) ]) (c ∷ cs) ++ unescaped (drop (elim b as (λ x. ℕ) [ true ↦ 0 | false ↦ suc (plain_len cs) ] + 1) (c ∷ cs))
      ≡ elim b as (λ x. List ℕ) [ true ↦ unescaped cs | false ↦ c ∷ unescaped cs ]
  go true h = refl
  go false h =
      let more : suc (plain_len cs) + 1 ≡ suc (plain_len cs + 1) = omega arith in
      ap (λ k. c ∷ (take (plain_len cs) cs ++ unescaped (drop k (c ∷ cs)))) more ∙ ap (λ u. c ∷ u) h

-- without a pipe no backslash goes
pub no_pipe : (t : List ℕ) → list_any (λ c. c == pipe) t ≡ false → unescaped t ≡ t
no_pipe [] h = refl
no_pipe (c ∷ cs) h = go (escapes (c ∷ cs)) (no_escape cs (rest (c == pipe) _ h)) (no_pipe cs (rest (c == pipe) _ h)) where
  rest : (a b : Bool) → (a || b) ≡ false → b ≡ false
  rest true b h = absurd cc
  rest false b h = h

  both : (a b : Bool) → b ≡ false → (a && b) ≡ false
  both true b h = h
  both false b h = refl

  no_escape : (ds : List ℕ) → list_any (λ c. c == pipe) ds ≡ false → escapes (c ∷ ds) ≡ false
  no_escape [] h = both (nat_eq 92 c) false refl
  no_escape (d ∷ ds) h = both (nat_eq 92 c) (nat_eq 124 d && true) (last (nat_eq 124 d) (other (front (d == pipe) _ h))) where
    front : (a b : Bool) → (a || b) ≡ false → a ≡ false
    front true b h = absurd cc
    front false b h = refl

    other : (d == pipe) ≡ false → nat_eq 124 d ≡ false
    other e = grind (arith, e)

    last : (a : Bool) → a ≡ false → (a && true) ≡ false
    last true h = absurd cc
    last false h = refl

  go : (b : Bool) → b ≡ false → unescaped cs ≡ cs → elim b as (λ x. List ℕ) [ true ↦ unescaped cs | false ↦ c ∷ unescaped cs ] ≡ c ∷ cs
  go true e h = absurd cc
  go false e h = ap (λ u. c ∷ u) h

-- a step of the loop that takes the backslashes away
pub escape_taken : (made t all : List ℕ) → made ++ unescaped t ≡ all → (made ++ slice_range t 0 (plain_len t)) ++ unescaped (drop (plain_len t + 1) t) ≡ all
escape_taken made t all so_far =
    let none : plain_len t - 0 ≡ plain_len t = omega arith in
    ap (λ k. (made ++ take k t) ++ unescaped (drop (plain_len t + 1) t)) none
    ∙ append_assoc made (take (plain_len t) t) (unescaped (drop (plain_len t + 1) t)) ∙ ap (λ u. made ++ u) (unescaped_first t) ∙ so_far

-- its last step
pub rest_taken : (made t all : List ℕ) → length t ≤ plain_len t → made ++ unescaped t ≡ all → (made ++ slice_range t 0 (plain_len t)) ++ [] ≡ all
rest_taken made t all past so_far =
    let none : drop (plain_len t + 1) t ≡ [] = drop_of_length-le t (omega (arith, past)) in
    ap (λ u. (made ++ slice_range t 0 (plain_len t)) ++ unescaped u) (sym none) ∙ escape_taken made t all so_far
