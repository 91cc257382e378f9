-- What stands behind a place.
use Rattle.std.proofs.Common.{◌≡◌, ◌∙◌, Bool, List, [], add-one, ap, arith, cond, drop, false, get_or, length, nat_lt, refl, replicate, suc, sym, take, true, zero, ℕ, ◌++◌, ◌+◌, ◌-◌, ◌<◌, ◌∷◌, ◌≤◌}
use Rattle.std.proofs.lemmas.List.{drop_more}
use Rattle.markdown_grammar.specs.Columns.{tab_width}
use Rattle.cm_containers.specs.Rests.{behind_byte, column_behind, text_from}
use Rattle.cm_containers.specs.Spots.{IsSpot, text_at}
use Rattle.cm_containers.specs.declared.spots.Spot.{Spot}

pub text_whole : (start at col : ℕ) (line : List ℕ) → col ≤ start → text_from start at col line ≡ drop at line
text_whole start at col line h =
    let e : nat_lt start col ≡ false = grind (arith, h) in
    ap (λ (b : Bool). cond b (replicate (tab_width col) 32 ++ drop (at + 1) line) (drop at line)) e

pub text_part : (start at col : ℕ) (line : List ℕ) → start < col → text_from start at col line ≡ replicate (tab_width col) 32 ++ drop (at + 1) line
text_part start at col line h =
    let e : nat_lt start col ≡ true = grind (arith, h) in
    ap (λ (b : Bool). cond b (replicate (tab_width col) 32 ++ drop (at + 1) line) (drop at line)) e

-- one byte more
column_next : (col : ℕ) (line : List ℕ) (i : ℕ) → i < length line → column_behind col (take (suc i) line) ≡ behind_byte (column_behind col (take i line)) (get_or line i 0)
column_next col [] i lt = absurd (omega (arith, lt))
column_next col (c ∷ cs) zero lt = refl
column_next col (c ∷ cs) (suc i) lt = column_next (behind_byte col c) cs i (omega (arith, lt))

pub column_more : (line : List ℕ) (i : ℕ) → i < length line → column_behind 0 (take (i + 1) line) ≡ behind_byte (column_behind 0 (take i line)) (get_or line i 0)
column_more line i lt = ap (λ (n : ℕ). column_behind 0 (take n line)) (add-one i) ∙ column_next 0 line i lt

drop_past : (line : List ℕ) (n : ℕ) → length line ≤ n → drop n line ≡ []
drop_past [] zero h = refl
drop_past [] (suc n) h = refl
drop_past (c ∷ cs) zero h = absurd (omega (arith, h))
drop_past (c ∷ cs) (suc n) h = drop_past cs n (omega (arith, h))

-- a byte other than a tab is not taken in part
pub not_in_tab : (line : List ℕ) (s : Spot) → IsSpot line s → (get_or line s.at 0 ≡ 9 → ⊥) → s.column ≡ s.start
not_in_tab line s h other = go (nat_lt s.start s.column) refl where
  go : (b : Bool) → nat_lt s.start s.column ≡ b → s.column ≡ s.start
  go true e = let lt : s.start < s.column = grind (arith, e) in absurd (other (h.in_tab lt).1)
  go false e = let le : s.column ≤ s.start = grind (arith, e) in omega (arith, le, h.order)

pub text_end : (line : List ℕ) (s : Spot) → IsSpot line s → s.at ≡ length line → text_at line s ≡ []
text_end line s h e = go (nat_lt s.start s.column) refl where
  go : (b : Bool) → nat_lt s.start s.column ≡ b → text_at line s ≡ []
  go true f = let lt : s.start < s.column = grind (arith, f) in absurd (omega (arith, (h.in_tab lt).0, e))
  go false f = let le : s.column ≤ s.start = grind (arith, f) in text_whole s.start s.at s.column line le ∙ drop_past line s.at (omega (arith, e))

-- behind a place, up to the end, something stands
pub text_some : (line : List ℕ) (s : Spot) → IsSpot line s → s.at < length line → text_at line s ≡ [] → ⊥
text_some line s h lt e = go (nat_lt s.start s.column) refl where
  go : (b : Bool) → nat_lt s.start s.column ≡ b → ⊥
  go true f =
      let part : s.start < s.column = grind (arith, f) in
      let w : tab_width s.column ≡ suc (tab_width s.column - 1) = omega arith in
      let shown = sym (ap (λ (n : ℕ). replicate n 32 ++ drop (s.at + 1) line) w) ∙ sym (text_part s.start s.at s.column line part) ∙ e in
      absurd cc
  go false f =
      let le : s.column ≤ s.start = grind (arith, f) in
      let shown = sym (drop_more line s.at 0 lt) ∙ sym (text_whole s.start s.at s.column line le) ∙ e in
      absurd cc

-- a byte other than a tab, and what follows it
pub text_byte : (line : List ℕ) (s : Spot) → IsSpot line s → s.at < length line → (get_or line s.at 0 ≡ 9 → ⊥) → text_at line s ≡ get_or line s.at 0 ∷ drop (s.at + 1) line
text_byte line s h lt other =
    text_whole s.start s.at s.column line (omega (arith, not_in_tab line s h other)) ∙ drop_more line s.at 0 lt
