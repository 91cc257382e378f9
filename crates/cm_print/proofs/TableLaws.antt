-- The rows and cells of a table, printed one after another.
use Rattle.std.proofs.Common.{List, [], ap, add-one, append-nil, append_assoc, arith, codes, drop, drop-cons, drop_of_length-le, false, flat_map, get_or, length, length-append, map, refl, suc, sym, true, ℕ, ◌+◌, ◌++◌, ◌<◌, ◌≤◌, ◌∙◌, ◌∷◌, ◌≡◌}
use Rattle.markdown_grammar.specs.Definitions.{Definition}
use Rattle.markdown_grammar.specs.Fronts.{is_empty}
use Rattle.markdown_grammar.specs.TableHtml.{body_html, cell_html, cells_html, row_html}
use Rattle.markdown_grammar.specs.Tables.{filled, unescaped}
use Rattle.markdown_grammar.specs.declared.align.Align.{Align}
use Rattle.cm_print.specs.Tables.{rows_of}

-- a piece of all that is to be printed stands there, and the rest is still to come
pub piece_taken : (before after piece rest all whole : List ℕ) → after ≡ before ++ piece → all ≡ piece ++ rest → before ++ all ≡ whole → after ++ rest ≡ whole
piece_taken before after piece rest all whole put split so_far = ap (λ t. t ++ rest) put ∙ append_assoc before piece rest ∙ ap (λ t. before ++ t) (sym split) ∙ so_far

-- a piece that does not fit
pub piece_refused : (before piece rest all whole : List ℕ) (most : ℕ) → all ≡ piece ++ rest → before ++ all ≡ whole → most < length (before ++ piece) → most < length whole
piece_refused before piece rest all whole most split so_far over =
    let is : (before ++ piece) ++ rest ≡ whole = piece_taken before (before ++ piece) piece rest all whole refl split so_far in
    omega (arith, over, ap (λ (t : List ℕ). length t) is, length-append (before ++ piece) rest)

-- nothing is still to come
pub all_taken : (before all whole : List ℕ) → all ≡ [] → before ++ all ≡ whole → before ≡ whole
all_taken before all whole none so_far = sym (append-nil before) ∙ ap (λ t. before ++ t) (sym none) ∙ so_far

-- what is printed of a row's cells, which are written so
abbrev pub cells_text : List Definition → List ℕ → List Align → List (List ℕ) → List ℕ
cells_text defs name aligns written = cells_html defs name aligns (filled (length aligns) (map unescaped written))

-- the cell of a column, and those behind it
pub cells_first : (defs : List Definition) (name : List ℕ) (aligns : List Align) (i : ℕ) (other : Align) (old new : List (List ℕ)) (cell : List ℕ) → i < length aligns
    → ((n : ℕ) → filled (1 + n) (map unescaped old) ≡ unescaped cell ∷ filled n (map unescaped new))
    → cells_text defs name (drop i aligns) old ≡ cell_html defs name (get_or aligns i other) (unescaped cell) ++ cells_text defs name (drop (i + 1) aligns) new
cells_first defs name aligns i other old new cell lt taken =
    ap (λ rest. cells_text defs name rest old) split
    ∙ ap (λ texts. cells_html defs name (get_or aligns i other ∷ drop (i + 1) aligns) texts) (ap (λ k. filled k (map unescaped old)) one ∙ taken (length (drop (i + 1) aligns))) where
      split : drop i aligns ≡ get_or aligns i other ∷ drop (i + 1) aligns
      split = rw add-one (drop-cons aligns i other lt)

      one : suc (length (drop (i + 1) aligns)) ≡ 1 + length (drop (i + 1) aligns)
      one = omega arith

-- behind the last column
pub cells_none : (defs : List Definition) (name : List ℕ) (aligns : List Align) (i : ℕ) (written : List (List ℕ)) → length aligns ≤ i → cells_text defs name (drop i aligns) written ≡ []
cells_none defs name aligns i written past = ap (λ rest. cells_text defs name rest written) (drop_of_length-le aligns past)

-- what is printed of rows
abbrev pub rows_text : List Definition → List Align → List (List ℕ) → List ℕ
rows_text defs aligns lines = flat_map (row_html defs (codes "td") aligns) (rows_of (length aligns) lines)

-- rows below a header
pub body_some : (defs : List Definition) (aligns : List Align) (lines : List (List ℕ)) → is_empty lines ≡ false
    → codes "<tbody>\n" ++ (rows_text defs aligns lines ++ codes "</tbody>\n") ≡ body_html defs aligns (rows_of (length aligns) lines)
body_some defs aligns [] e = absurd cc
body_some defs aligns (line ∷ lines) e = refl

-- none
pub body_none : (defs : List Definition) (aligns : List Align) (lines : List (List ℕ)) → is_empty lines ≡ true → [] ≡ body_html defs aligns (rows_of (length aligns) lines)
body_none defs aligns [] e = refl
body_none defs aligns (line ∷ lines) e = absurd cc
