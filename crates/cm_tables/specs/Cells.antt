-- The cells of a line, taken one after another.
use Rattle.std.specs.Prelude.{Bool, List, Option, Some, None, [], codes, false, map, nat_eq, not, suc, true, ℕ, ◌&&◌, ◌==◌, ◌∷◌}
use Rattle.std.specs.Borrow.{Bor}
use Rattle.std.specs.List.{starts_with}
use Rattle.site_text.specs.Bytes.{backslash}
use Rattle.markdown_grammar.specs.Tables.{bare, cut_at_pipes, pipe}
use Rattle.cm_tables.specs.declared.cells.Cells.{Cells}

-- how many bytes stand before the first pipe that has no backslash before it; `escaped` where one stands before the text
abbrev pub cell_len : (escaped : Bool) → List ℕ → ℕ
cell_len escaped [] = 0
cell_len escaped (c ∷ cs) = elim ((c == pipe) && not escaped) [ true ↦ 0 | false ↦ suc (cell_len (c == backslash) cs) ]

-- how many bytes stand before the first backslash directly before a pipe
abbrev pub plain_len : List ℕ → ℕ
plain_len [] = 0
plain_len (c ∷ cs) = elim (starts_with nat_eq (c ∷ cs) (codes "\\|")) [ true ↦ 0 | false ↦ suc (plain_len cs) ]

-- what a text behind a pipe is cut into, if there is one
abbrev pub cut_rest : Option (Bor (List ℕ)) → List (List ℕ)
cut_rest None = []
cut_rest (Some t) = cut_at_pipes false t.now

-- the cells that are still to come, as they are written
abbrev pub left : Cells → List (List ℕ)
left cells = map bare (cut_rest cells.rest)
