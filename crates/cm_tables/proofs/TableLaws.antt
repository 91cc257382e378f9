-- The cells of a table, in one list.
use Rattle.std.proofs.Common.{List, [], ap, arith, flat_map, length, length-append, map, refl, suc, sym, zero, ℕ, ◌*◌, ◌+◌, ◌++◌, ◌∙◌, ◌∷◌, ◌≡◌}
use Rattle.std.proofs.Math.Nat.{suc-mul}
use Rattle.std.proofs.lemmas.List.{length-map}
use Rattle.std.proofs.lemmas.List.Folds.{flat_map-map}
use Rattle.markdown_grammar.specs.Definitions.{Definition}
use Rattle.markdown_grammar.specs.Inlines.{Inlines}
use Rattle.markdown_grammar.specs.Reading.{inlines}
use Rattle.markdown_grammar.specs.Tables.{cells, filled}
use Rattle.cm_tables.specs.Found.{shown}
use Rattle.cm_tables.specs.Rows.{below}
use Rattle.cm_tables.specs.Tables.{IsMade}
use Rattle.cm_tables.specs.declared.found.TableText.{TableText}
use Rattle.cm_tables.specs.declared.table.Table.{Table}

-- the cells of a line, in so many columns
abbrev pub row_of : ℕ → List ℕ → List (List ℕ)
row_of columns line = filled columns (cells line)

-- what was read into empty lists
pub cells_made : (defs : List Definition) (columns : ℕ) (lines empty texts : List (List ℕ)) (before made : List Inlines) → empty ≡ [] → texts ≡ empty ++ flat_map (row_of columns) lines → before ≡ [] → made ≡ before ++ map (inlines defs) texts
    → made ≡ map (inlines defs) (flat_map (λ row. row) (map (row_of columns) lines))
cells_made defs columns lines empty texts before made none are first read =
    read ∙ ap (λ front. front ++ map (inlines defs) texts) first
    ∙ ap (λ ts. map (inlines defs) ts) (are ∙ ap (λ front. front ++ flat_map (row_of columns) lines) none ∙ sym (flat_map-map (λ row. row) (row_of columns) lines))

len_filled : (columns : ℕ) (texts : List (List ℕ)) → length (filled columns texts) ≡ columns
len_filled zero texts = refl
len_filled (suc n) [] = ap suc (len_filled n [])
len_filled (suc n) (text ∷ texts) = ap suc (len_filled n texts)

len_rows : (columns : ℕ) (lines : List (List ℕ)) → length (flat_map (λ row. row) (map (row_of columns) lines)) ≡ length lines * columns
len_rows columns [] = omega arith
len_rows columns (line ∷ lines) =
    omega (arith, length-append (row_of columns line) (flat_map (λ row. row) (map (row_of columns) lines)), len_filled columns (cells line), len_rows columns lines, suc-mul (length lines) columns)

-- they are as many as rows times columns
pub cells_count : (defs : List Definition) (columns : ℕ) (lines : List (List ℕ)) (made : List Inlines) → made ≡ map (inlines defs) (flat_map (λ row. row) (map (row_of columns) lines)) → length made ≡ length lines * columns
cells_count defs columns lines made is = ap (λ (l : List Inlines). length l) is ∙ length-map (flat_map (λ row. row) (map (row_of columns) lines)) (inlines defs) ∙ len_rows columns lines

-- a table whose cells were read into empty lists, row by row
pub table_made : (defs : List Definition) (made : Table) (t : TableText) (n columns : ℕ) (empty texts : List (List ℕ)) (before : List Inlines)
    → made.aligns ≡ t.aligns → made.rows ≡ 1 + n → n ≡ length (below t.rows) → columns ≡ length t.aligns.items
    → empty ≡ [] → texts ≡ empty ++ flat_map (row_of columns) (t.header.now ∷ below t.rows) → before ≡ [] → made.cells.items ≡ before ++ map (inlines defs) texts
    → IsMade defs made (shown t)
table_made defs made t n columns empty texts before same rs is wide none are first read =
    let lines : List (List ℕ) = t.header.now ∷ below t.rows in
    let cells = cells_made defs columns lines empty texts before made.cells.items none are first read
    ∙ ap (λ k. map (inlines defs) (flat_map (λ row. row) (map (row_of k) lines))) wide in
    let rows : made.rows ≡ suc (length (below t.rows)) = omega (arith, rs, is) in
    let counted = cells_count defs (length t.aligns.items) lines made.cells.items cells in
    record {
      aligns = ap (λ a. a.items) same;
      rows = rows ∙ ap suc (sym (length-map (below t.rows) (row_of (length t.aligns.items))));
      cells = cells;
      count = counted ∙ ap (λ k. k * length t.aligns.items) (sym rows) ∙ ap (λ a. made.rows * length a.items) (sym same);
    }
