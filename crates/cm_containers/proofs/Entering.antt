-- Which lines enter a container by its own rule.
use Rattle.std.proofs.Common.{◌≡◌, ◌∙◌, Bool, List, None, Some, [], ap, arith, cond, drop, false, get_or, length, min, nat_le, nat_lt, refl, replicate, suc, sym, true, ℕ, ◌&&◌, ◌++◌, ◌+◌, ◌-◌, ◌<◌, ◌==◌, ◌∷◌, ◌≤◌}
use Rattle.std.proofs.lemmas.List.{drop_more}
use Rattle.markdown_grammar.specs.Columns.{Line, indent, line_text, shifted, tab_width}
use Rattle.markdown_grammar.specs.Containers.{item_entry, lazily, quote_entry}
use Rattle.markdown_grammar.specs.Extents.{Entry, goes_in, goes_in_if_filled}
use Rattle.markdown_grammar.specs.Fronts.{is_empty}
use Rattle.markdown_grammar.specs.Lines.{is_blank, trim_front}
use Rattle.markdown_grammar.specs.LineStarts.{start_of}
use Rattle.markdown_grammar.specs.Places.{beside_paragraph}
use Rattle.markdown_grammar.specs.Starts.{Start, atx_start, blank_start, break_start, fence_start, html_start, indented_start, item_start, quote_start, text_start, underline_start}
use Rattle.cm_containers.specs.Spots.{IsSpot, kept_line, rest_at, text_at}
use Rattle.cm_containers.specs.declared.spots.Spot.{Spot}
use Rattle.cm_containers.proofs.Shifting.{line_column, shifted_column, shifted_text}
use Rattle.cm_containers.proofs.Texts.{text_byte, text_end, text_part, text_some, text_whole}

-- a lazy line does not go in by the container's own rule
lazily_out : (t : List ℕ) (s : Start) → kept_line (lazily t s) ≡ None
lazily_out t text_start = refl
lazily_out t blank_start = refl
lazily_out t quote_start = refl
lazily_out t (atx_start level u) = refl
lazily_out t (fence_start i mark len info) = refl
lazily_out t (html_start kind) = refl
lazily_out t (underline_start level) = refl
lazily_out t break_start = refl
lazily_out t (item_start kind number digits) = refl
lazily_out t indented_start = refl

-- ---- items

abbrev item_cases : ℕ → ℕ → List ℕ → Bool → Bool → Entry Line
item_cases content col t blank wide = cond blank (goes_in_if_filled (shifted content col t)) (cond wide (goes_in (shifted content col t)) (lazily t (start_of beside_paragraph col t)))

item_wide : (content col : ℕ) (t : List ℕ) → content ≤ indent col t → kept_line (item_entry content col t) ≡ Some (shifted content col t)
item_wide content col t h = go (is_blank t) (nat_le content (indent col t)) (grind (arith, h)) where
  go : (b w : Bool) → w ≡ true → kept_line (item_cases content col t b w) ≡ Some (shifted content col t)
  go true w e = refl
  go false true e = refl
  go false false e = absurd cc

item_blank : (content col : ℕ) (t : List ℕ) → is_blank t ≡ true → kept_line (item_entry content col t) ≡ Some (shifted content col t)
item_blank content col t h = ap (λ (b : Bool). kept_line (item_cases content col t b (nat_le content (indent col t)))) h

item_out : (content col : ℕ) (t : List ℕ) → is_blank t ≡ false → indent col t < content → kept_line (item_entry content col t) ≡ None
item_out content col t h lt =
    let e : nat_le content (indent col t) ≡ false = grind (arith, lt) in
    ap (λ (b : Bool). kept_line (item_cases content col t b (nat_le content (indent col t)))) h ∙ ap (λ (w : Bool). kept_line (item_cases content col t false w)) e ∙ lazily_out t (start_of beside_paragraph col t)

not_empty : (t : List ℕ) → (t ≡ [] → ⊥) → is_empty t ≡ false
not_empty [] h = absurd (h refl)
not_empty (c ∷ cs) h = refl

-- how many columns stand before a place, which has come as far as it may
pub columns_before : (line : List ℕ) (s t : Spot) (k : ℕ) → rest_at line t ≡ shifted k s.column (text_at line s) → t.column ≡ s.column + min k (indent s.column (text_at line s))
columns_before line s t k e = ap line_column e ∙ shifted_column k s.column (text_at line s)

pub text_before : (line : List ℕ) (s t : Spot) (k : ℕ) → rest_at line t ≡ shifted k s.column (text_at line s) → indent s.column (text_at line s) < k → text_at line t ≡ trim_front (text_at line s)
text_before line s t k e lt = ap line_text e ∙ shifted_text k s.column (text_at line s) lt

-- the white space was as wide as the item's indent
pub item_kept_wide : (line : List ℕ) (s t : Spot) (k : ℕ) → rest_at line t ≡ shifted k s.column (text_at line s) → t.column - s.column ≡ k
    → Some (rest_at line t) ≡ kept_line (item_entry k s.column (text_at line s))
item_kept_wide line s t k e moved =
    let wide : k ≤ indent s.column (text_at line s) = omega (arith, moved, columns_before line s t k e) in
    ap (λ (l : Line). Some l) e ∙ sym (item_wide k s.column (text_at line s) wide)

-- or nothing else stood on the line
pub item_kept_blank : (line : List ℕ) (s t : Spot) (k : ℕ) → IsSpot line t → rest_at line t ≡ shifted k s.column (text_at line s) → (t.column - s.column ≡ k → ⊥) → t.at ≡ length line
    → Some (rest_at line t) ≡ kept_line (item_entry k s.column (text_at line s))
item_kept_blank line s t k is e moved end =
    let less : indent s.column (text_at line s) < k = omega (arith, moved, columns_before line s t k e) in
    let none : trim_front (text_at line s) ≡ [] = sym (text_before line s t k e less) ∙ text_end line t is end in
    ap (λ (l : Line). Some l) e ∙ sym (item_blank k s.column (text_at line s) (ap (λ (u : List ℕ). is_empty u) none))

pub item_left : (line : List ℕ) (s t : Spot) (k : ℕ) → IsSpot line t → rest_at line t ≡ shifted k s.column (text_at line s) → (t.column - s.column ≡ k → ⊥) → (t.at ≡ length line → ⊥)
    → None ≡ kept_line (item_entry k s.column (text_at line s))
item_left line s t k is e moved end =
    let less : indent s.column (text_at line s) < k = omega (arith, moved, columns_before line s t k e) in
    let some : text_at line t ≡ [] → ⊥ = text_some line t is (omega (arith, end, is.within)) in
    let full : is_blank (text_at line s) ≡ false = ap (λ (u : List ℕ). is_empty u) (sym (text_before line s t k e less)) ∙ not_empty (text_at line t) some in
    sym (item_out k s.column (text_at line s) full less)

-- ---- quotes

abbrev quote_cases : ℕ → List ℕ → List ℕ → Bool → Entry Line
quote_cases col t cs b = cond b (goes_in (shifted 1 (col + indent col t + 1) cs)) (lazily t (start_of beside_paragraph col t))

quote_far : (col : ℕ) (t u : List ℕ) → 4 ≤ indent col t → kept_line (quote_entry col t u) ≡ None
quote_far col t [] far = refl
quote_far col t (c ∷ cs) far =
    let e : nat_lt (indent col t) 4 ≡ false = grind (arith, far) in
    ap (λ (b : Bool). kept_line (quote_cases col t cs (b && (c == 62)))) e ∙ lazily_out t (start_of beside_paragraph col t)

quote_other : (col : ℕ) (t : List ℕ) (c : ℕ) (cs : List ℕ) → (c ≡ 62 → ⊥) → kept_line (quote_entry col t (c ∷ cs)) ≡ None
quote_other col t c cs h = go (nat_lt (indent col t) 4) (c == 62) (grind (arith, h)) where
  go : (a b : Bool) → b ≡ false → kept_line (quote_cases col t cs (a && b)) ≡ None
  go true true e = absurd cc
  go true false e = lazily_out t (start_of beside_paragraph col t)
  go false b e = lazily_out t (start_of beside_paragraph col t)

quote_mark : (col : ℕ) (t cs : List ℕ) → indent col t < 4 → kept_line (quote_entry col t (62 ∷ cs)) ≡ Some (shifted 1 (col + indent col t + 1) cs)
quote_mark col t cs lt =
    let e : nat_lt (indent col t) 4 ≡ true = grind (arith, lt) in
    ap (λ (b : Bool). kept_line (quote_cases col t cs (b && true))) e

-- four columns of white space
pub quote_left_far : (line : List ℕ) (s t : Spot) → rest_at line t ≡ shifted 4 s.column (text_at line s) → t.column - s.column ≡ 4
    → None ≡ kept_line (quote_entry s.column (text_at line s) (trim_front (text_at line s)))
quote_left_far line s t e moved = sym (quote_far s.column (text_at line s) (trim_front (text_at line s)) (omega (arith, moved, columns_before line s t 4 e)))

-- nothing but white space
pub quote_left_end : (line : List ℕ) (s t : Spot) → IsSpot line t → rest_at line t ≡ shifted 4 s.column (text_at line s) → (t.column - s.column ≡ 4 → ⊥) → t.at ≡ length line
    → None ≡ kept_line (quote_entry s.column (text_at line s) (trim_front (text_at line s)))
quote_left_end line s t is e moved end =
    let less : indent s.column (text_at line s) < 4 = omega (arith, moved, columns_before line s t 4 e) in
    sym (ap (λ (u : List ℕ). kept_line (quote_entry s.column (text_at line s) u)) (sym (text_before line s t 4 e less) ∙ text_end line t is end))

-- the byte that is no white space comes first, and is no tab
text_front : (line : List ℕ) (s t : Spot) → IsSpot line t → rest_at line t ≡ shifted 4 s.column (text_at line s) → (t.column - s.column ≡ 4 → ⊥) → t.at < length line → (get_or line t.at 0 ≡ 9 → ⊥)
    → trim_front (text_at line s) ≡ get_or line t.at 0 ∷ drop (t.at + 1) line
text_front line s t is e moved lt other =
    let less : indent s.column (text_at line s) < 4 = omega (arith, moved, columns_before line s t 4 e) in
    sym (text_before line s t 4 e less) ∙ text_byte line t is lt other

pub quote_kept : (line : List ℕ) (s t u v : Spot) → IsSpot line t → rest_at line t ≡ shifted 4 s.column (text_at line s) → (t.column - s.column ≡ 4 → ⊥) → t.at < length line → get_or line t.at 0 ≡ 62
    → u ≡ record { at = t.at + 1; start = t.column + 1; column = t.column + 1 } → rest_at line v ≡ shifted 1 u.column (text_at line u)
    → Some (rest_at line v) ≡ kept_line (quote_entry s.column (text_at line s) (trim_front (text_at line s)))
quote_kept line s t u v is e moved lt mark behind inside =
    let before = columns_before line s t 4 e in
    let less : indent s.column (text_at line s) < 4 = omega (arith, moved, before) in
    let front : trim_front (text_at line s) ≡ 62 ∷ drop (t.at + 1) line =
    text_front line s t is e moved lt (λ bad. absurd (omega (arith, bad, mark))) ∙ ap (λ (c : ℕ). c ∷ drop (t.at + 1) line) mark in
    let text : text_at line u ≡ drop (t.at + 1) line = ap (text_at line) behind ∙ text_whole (t.column + 1) (t.at + 1) (t.column + 1) line (omega arith) in
    let col : u.column ≡ s.column + indent s.column (text_at line s) + 1 = ap (λ (x : Spot). x.column) behind ∙ omega (arith, before, less) in
    ap (λ (l : Line). Some l) (inside ∙ ap (λ (n : ℕ). shifted 1 n (text_at line u)) col ∙ ap (λ (x : List ℕ). shifted 1 (s.column + indent s.column (text_at line s) + 1) x) text)
    ∙ sym (ap (λ (x : List ℕ). kept_line (quote_entry s.column (text_at line s) x)) front ∙ quote_mark s.column (text_at line s) (drop (t.at + 1) line) less)

-- another byte
pub quote_left_other : (line : List ℕ) (s t : Spot) → IsSpot line t → rest_at line t ≡ shifted 4 s.column (text_at line s) → (t.column - s.column ≡ 4 → ⊥) → t.at < length line → (get_or line t.at 0 ≡ 62 → ⊥)
    → None ≡ kept_line (quote_entry s.column (text_at line s) (trim_front (text_at line s)))
quote_left_other line s t is e moved lt other = go (get_or line t.at 0 == 9) refl where
  less : indent s.column (text_at line s) < 4
  less = omega (arith, moved, columns_before line s t 4 e)

  go : (b : Bool) → (get_or line t.at 0 == 9) ≡ b → None ≡ kept_line (quote_entry s.column (text_at line s) (trim_front (text_at line s)))
  go false f =
      let no_tab : get_or line t.at 0 ≡ 9 → ⊥ = grind (arith, f) in
      sym (ap (λ (u : List ℕ). kept_line (quote_entry s.column (text_at line s) u)) (text_front line s t is e moved lt no_tab) ∙ quote_other s.column (text_at line s) (get_or line t.at 0) (drop (t.at + 1) line) other)
  go true f = in_tab (nat_lt t.start t.column) refl (grind (arith, f)) where
    in_tab : (b : Bool) → nat_lt t.start t.column ≡ b → get_or line t.at 0 ≡ 9 → None ≡ kept_line (quote_entry s.column (text_at line s) (trim_front (text_at line s)))
    in_tab true g tab =
        let part : t.start < t.column = grind (arith, g) in
        let w : tab_width t.column ≡ suc (tab_width t.column - 1) = omega arith in
        let space : 32 ≡ 62 → ⊥ = λ bad. omega (arith, bad) in
        sym (ap (λ (u : List ℕ). kept_line (quote_entry s.column (text_at line s) u)) (sym (text_before line s t 4 e less) ∙ text_part t.start t.at t.column line part ∙ ap (λ (n : ℕ). replicate n 32 ++ drop (t.at + 1) line) w)
        ∙ quote_other s.column (text_at line s) 32 (replicate (tab_width t.column - 1) 32 ++ drop (t.at + 1) line) space)
    in_tab false g tab =
        let whole : t.column ≤ t.start = grind (arith, g) in
        let mark : 9 ≡ 62 → ⊥ = λ bad. omega (arith, bad) in
        sym (ap (λ (u : List ℕ). kept_line (quote_entry s.column (text_at line s) u)) (sym (text_before line s t 4 e less) ∙ text_whole t.start t.at t.column line whole ∙ drop_more line t.at 0 lt ∙ ap (λ (c : ℕ). c ∷ drop (t.at + 1) line) tab)
        ∙ quote_other s.column (text_at line s) 9 (drop (t.at + 1) line) mark)
