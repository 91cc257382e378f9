-- One column further.
use Rattle.std.proofs.Common.{◌≡◌, ◌∙◌, Bool, IsUtf8, List, None, Some, add-one, ap, arith, cond, drop, false, get_or, length, nat_lt, refl, replicate, subst, suc, sym, take, true, ℕ, ◌++◌, ◌+◌, ◌%◌, ◌-◌, ◌<◌, ◌==◌, ◌∷◌, ◌≤◌}
use Rattle.std.proofs.lemmas.Str.{IsCharBoundary-after_ascii}
use Rattle.std.proofs.lemmas.List.{drop_more}
use Rattle.markdown_grammar.specs.Columns.{Line, own_line, shifted, tab_width}
use Rattle.cm_containers.specs.Rests.{behind_byte, column_behind}
use Rattle.cm_containers.specs.Spots.{IsSpot, TakesColumn, further_in_tab, text_at}
use Rattle.cm_containers.specs.declared.spots.Spot.{Spot}
use Rattle.cm_containers.proofs.Texts.{column_more, not_in_tab, text_byte, text_end, text_part, text_whole}

abbrev cases : ℕ → ℕ → ℕ → List ℕ → Bool → Bool → Line
cases k col c cs s t = elim s as (λ x. Line) [
  | true ↦ shifted k (suc col) cs
  | false ↦ elim t as (λ x. Line) [ true ↦ shifted k (suc col) (replicate (tab_width col - 1) 32 ++ cs) | false ↦ own_line col (c ∷ cs) ]
]

shifted_other : (k col c : ℕ) (cs : List ℕ) → (c == 32) ≡ false → (c == 9) ≡ false → shifted (suc k) col (c ∷ cs) ≡ own_line col (c ∷ cs)
shifted_other k col c cs s t = ap (λ (b : Bool). cases k col c cs b (c == 9)) s ∙ ap (λ (b : Bool). cases k col c cs false b) t

-- no white space stands at the end, or at another byte
pub takes_none_at_end : (line : List ℕ) (s : Spot) → IsSpot line s → s.at ≡ length line → TakesColumn line s None
takes_none_at_end line s h e k = let t = text_end line s h e in ap (λ (t : List ℕ). shifted (suc k) s.column t) t ∙ ap (λ (t : List ℕ). own_line s.column t) (sym t)

pub takes_none : (line : List ℕ) (s : Spot) → IsSpot line s → s.at < length line → (get_or line s.at 0 ≡ 32 → ⊥) → (get_or line s.at 0 ≡ 9 → ⊥) → TakesColumn line s None
takes_none line s h lt space tab k =
    let a : (get_or line s.at 0 == 32) ≡ false = grind (arith, space) in
    let b : (get_or line s.at 0 == 9) ≡ false = grind (arith, tab) in
    let t = text_byte line s h lt tab in
    ap (λ (t : List ℕ). shifted (suc k) s.column t) t ∙ shifted_other k s.column (get_or line s.at 0) (drop (s.at + 1) line) a b ∙ ap (λ (t : List ℕ). own_line s.column t) (sym t)

-- the place behind an ASCII byte other than a tab
pub spot_behind : (line : List ℕ) (s t : Spot) → IsUtf8 line → IsSpot line s → s.at < length line → get_or line s.at 0 < 128 → (get_or line s.at 0 ≡ 9 → ⊥)
    → t ≡ record { at = s.at + 1; start = s.column + 1; column = s.column + 1 } → IsSpot line t
spot_behind line s t u h lt ascii other e =
    let whole = not_in_tab line s h other in
    let not_tab : (get_or line s.at 0 == 9) ≡ false = grind (arith, other) in
    let far : behind_byte s.start (get_or line s.at 0) ≡ s.column + 1 =
    ap (λ (b : Bool). elim b as (λ x. ℕ) [ true ↦ s.start + tab_width s.start | false ↦ suc s.start ]) not_tab ∙ omega (arith, whole) in
    let near : s.column + 1 ≡ column_behind 0 (take (s.at + 1) line) =
    sym (column_more line s.at lt ∙ ap (λ (n : ℕ). behind_byte n (get_or line s.at 0)) (sym h.start) ∙ far) in
    subst (IsSpot line) (sym e) (record {
      within = omega (arith, lt);
      start = near;
      small = omega (arith, whole, h.small);
      order = omega arith;
      near = omega arith;
      cut = IsCharBoundary-after_ascii line s.at u lt ascii;
      in_tab = λ bad. absurd (omega (arith, bad));
    })

pub takes_space : (line : List ℕ) (s t : Spot) → IsUtf8 line → IsSpot line s → s.at < length line → get_or line s.at 0 ≡ 32
    → t ≡ record { at = s.at + 1; start = s.column + 1; column = s.column + 1 } → TakesColumn line s (Some t)
takes_space line s t u h lt space e =
    let other : get_or line s.at 0 ≡ 9 → ⊥ = λ bad. absurd (omega (arith, bad, space)) in
    let text : text_at line s ≡ 32 ∷ drop (s.at + 1) line = text_byte line s h lt other ∙ ap (λ (c : ℕ). c ∷ drop (s.at + 1) line) space in
    let after : text_at line t ≡ drop (s.at + 1) line = ap (text_at line) e ∙ text_whole (s.column + 1) (s.at + 1) (s.column + 1) line (omega arith) in
    let col : t.column ≡ suc s.column = ap (λ (x : Spot). x.column) e ∙ add-one s.column in (
      spot_behind line s t u h lt (omega (arith, space)) other e,
      λ k. ap (λ (x : List ℕ). shifted (suc k) s.column x) text ∙ sym (ap (λ (n : ℕ). shifted k n (text_at line t)) col ∙ ap (λ (x : List ℕ). shifted k (suc s.column) x) after),
    )

-- what is left of a tab behind one more column
abbrev left_of_tab : List ℕ → Spot → List ℕ
left_of_tab line s = replicate (tab_width s.column - 1) 32 ++ drop (s.at + 1) line

tab_goes : (line : List ℕ) (s : Spot) → IsSpot line s → s.at < length line → get_or line s.at 0 ≡ 9 → (k : ℕ) → shifted (suc k) s.column (text_at line s) ≡ shifted k (suc s.column) (left_of_tab line s)
tab_goes line s h lt tab k = go (nat_lt s.start s.column) refl where
  go : (b : Bool) → nat_lt s.start s.column ≡ b → shifted (suc k) s.column (text_at line s) ≡ shifted k (suc s.column) (left_of_tab line s)
  go true e =
      let part : s.start < s.column = grind (arith, e) in
      let w : tab_width s.column ≡ suc (tab_width s.column - 1) = omega arith in
      ap (λ (x : List ℕ). shifted (suc k) s.column x) (text_part s.start s.at s.column line part ∙ ap (λ (n : ℕ). replicate n 32 ++ drop (s.at + 1) line) w)
  go false e =
      let le : s.column ≤ s.start = grind (arith, e) in
      ap (λ (x : List ℕ). shifted (suc k) s.column x) (text_whole s.start s.at s.column line le ∙ drop_more line s.at 0 lt ∙ ap (λ (c : ℕ). c ∷ drop (s.at + 1) line) tab)

-- the place behind one more column of a tab
tab_spot : (line : List ℕ) (s : Spot) (b : Bool) → ((s.column + 1) % 4 == 0) ≡ b → IsUtf8 line → IsSpot line s → s.at < length line → get_or line s.at 0 ≡ 9
    → s.column < s.start + tab_width s.start → IsSpot line (further_in_tab s)
tab_spot line s true e u h lt tab near =
    let stop : (s.column + 1) % 4 ≡ 0 = grind (arith, e) in
    let far : s.start + tab_width s.start ≡ s.column + 1 = omega (arith, stop, near, h.order) in
    let start : s.column + 1 ≡ column_behind 0 (take (s.at + 1) line) =
    sym (column_more line s.at lt ∙ ap (λ (n : ℕ). behind_byte n (get_or line s.at 0)) (sym h.start) ∙ ap (λ (c : ℕ). behind_byte s.start c) tab ∙ far) in
    let t : Spot = record { at = s.at + 1; start = s.column + 1; column = s.column + 1 } in
    let is : IsSpot line t = record {
      within = omega (arith, lt);
      start = start;
      small = omega (arith, near, h.small);
      order = omega arith;
      near = omega arith;
      cut = IsCharBoundary-after_ascii line s.at u lt (omega (arith, tab));
      in_tab = λ bad. absurd (omega (arith, bad));
    } in
    subst (IsSpot line) (sym (ap (λ (b : Bool). cond b t (record { at = s.at; start = s.start; column = s.column + 1 })) e)) is
tab_spot line s false e u h lt tab near =
    let stop : (s.column + 1) % 4 ≡ 0 → ⊥ = grind (arith, e) in
    let more : s.column + 1 < s.start + tab_width s.start = omega (arith, stop, near, h.order) in
    let t : Spot = record { at = s.at; start = s.start; column = s.column + 1 } in
    let is : IsSpot line t = record {
      within = h.within;
      start = h.start;
      small = h.small;
      order = omega (arith, h.order);
      near = omega (arith, more);
      cut = h.cut;
      in_tab = λ some. (lt, tab, more);
    } in
    subst (IsSpot line) (sym (ap (λ (b : Bool). cond b (record { at = s.at + 1; start = s.column + 1; column = s.column + 1 }) t) e)) is

tab_text : (line : List ℕ) (s : Spot) (b : Bool) → ((s.column + 1) % 4 == 0) ≡ b → s.start ≤ s.column → text_at line (further_in_tab s) ≡ left_of_tab line s
tab_text line s true e order =
    let stop : (s.column + 1) % 4 ≡ 0 = grind (arith, e) in
    let w : 0 ≡ tab_width s.column - 1 = omega (arith, stop) in
    ap (λ (b : Bool). text_at line (cond b (record { at = s.at + 1; start = s.column + 1; column = s.column + 1 }) (record { at = s.at; start = s.start; column = s.column + 1 }))) e
    ∙ text_whole (s.column + 1) (s.at + 1) (s.column + 1) line (omega arith) ∙ ap (λ (n : ℕ). replicate n 32 ++ drop (s.at + 1) line) w
tab_text line s false e order =
    let stop : (s.column + 1) % 4 ≡ 0 → ⊥ = grind (arith, e) in
    let w : tab_width (s.column + 1) ≡ tab_width s.column - 1 = omega (arith, stop) in
    ap (λ (b : Bool). text_at line (cond b (record { at = s.at + 1; start = s.column + 1; column = s.column + 1 }) (record { at = s.at; start = s.start; column = s.column + 1 }))) e
    ∙ text_part s.start s.at (s.column + 1) line (omega (arith, order)) ∙ ap (λ (n : ℕ). replicate n 32 ++ drop (s.at + 1) line) w

tab_column : (s : Spot) (b : Bool) → ((s.column + 1) % 4 == 0) ≡ b → (further_in_tab s).column ≡ suc s.column
tab_column s true e = ap (λ (b : Bool). (cond b (let x : Spot = record { at = s.at + 1; start = s.column + 1; column = s.column + 1 } in x) (record { at = s.at; start = s.start; column = s.column + 1 })).column) e ∙ add-one s.column
tab_column s false e = ap (λ (b : Bool). (cond b (let x : Spot = record { at = s.at + 1; start = s.column + 1; column = s.column + 1 } in x) (record { at = s.at; start = s.start; column = s.column + 1 })).column) e ∙ add-one s.column

near_stop : (line : List ℕ) (s : Spot) → IsSpot line s → s.column < s.start + tab_width s.start
near_stop line s h = go (nat_lt s.start s.column) refl where
  go : (b : Bool) → nat_lt s.start s.column ≡ b → s.column < s.start + tab_width s.start
  go true e = let part : s.start < s.column = grind (arith, e) in (h.in_tab part).2
  go false e = let le : s.column ≤ s.start = grind (arith, e) in omega (arith, le)

pub takes_tab : (line : List ℕ) (s t : Spot) → IsUtf8 line → IsSpot line s → s.at < length line → get_or line s.at 0 ≡ 9 → t ≡ further_in_tab s → TakesColumn line s (Some t)
takes_tab line s t u h lt tab e =
    let b : Bool = (s.column + 1) % 4 == 0 in
    let is : IsSpot line t = subst (IsSpot line) (sym e) (tab_spot line s b refl u h lt tab (near_stop line s h)) in
    let text : text_at line t ≡ left_of_tab line s = ap (text_at line) e ∙ tab_text line s b refl h.order in
    let col : t.column ≡ suc s.column = ap (λ (x : Spot). x.column) e ∙ tab_column s b refl in (
      is,
      λ k. tab_goes line s h lt tab k ∙ sym (ap (λ (n : ℕ). shifted k n (text_at line t)) col ∙ ap (λ (x : List ℕ). shifted k (suc s.column) x) text),
    )
