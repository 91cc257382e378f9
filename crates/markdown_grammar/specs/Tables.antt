-- The table that a paragraph's text is, or none. After GitHub Flavored Markdown 0.29, section 4.10.
use Rattle.std.specs.Prelude.{Bool, List, None, Option, Some, [], codes, drop, false, if◌then◌else◌, length, map, nat_eq, nat_lt, not, option_map, suc, take, true, zero, ℕ, ◌&&◌, ◌-◌, ◌==◌, ◌||◌, ◌∷◌}
use Rattle.std.specs.List.{ends_with, list_any, onto_first, prefix_len, slice_split, starts_with, suffix_len}
use Rattle.site_text.specs.Bytes.{backslash, between, colon, hyphen, line_feed, space}
use Rattle.site_text.specs.Fronts.{first_byte}
use Rattle.markdown_grammar.specs.declared.align.Align.{Align}
use Rattle.markdown_grammar.specs.declared.align.Align.TheVariants.{Center, Left, Plain, Right}

-- a table: the alignment of each column, and the texts of its cells, row by row, the header first
pub record Table : Type 0 where
  pub aligns : List Align
  pub rows : List (List (List ℕ))

-- what stands between cells
abbrev pub pipe : ℕ
pipe = 124

-- space, tab, LF, VT, FF and CR
abbrev pub is_cell_white : ℕ → Bool
is_cell_white c = (c == space) || between 9 13 c

-- without white space in front
abbrev pub bare_front : List ℕ → List ℕ
bare_front t = drop (prefix_len is_cell_white t) t

-- without white space at the end
abbrev pub bare_end : List ℕ → List ℕ
bare_end t = take (length t - suffix_len is_cell_white t) t

-- without white space at both ends
abbrev pub bare : List ℕ → List ℕ
bare t = bare_end (bare_front t)

-- without one pipe in front
abbrev pub without_first_pipe : List ℕ → List ℕ
without_first_pipe t = if starts_with nat_eq t (codes "|") then drop 1 t else t

-- without one pipe at the end, unless a backslash stands before it
abbrev pub without_last_pipe : List ℕ → List ℕ
without_last_pipe t = if ends_with nat_eq t (codes "|") && not (ends_with nat_eq t (codes "\\|")) then take (length t - 1) t else t

-- cut at each pipe that has no backslash before it; `escaped` where one stands before the text
abbrev pub cut_at_pipes : (escaped : Bool) → List ℕ → List (List ℕ)
cut_at_pipes escaped [] = [] ∷ []
cut_at_pipes escaped (c ∷ cs) = elim ((c == pipe) && not escaped) [ true ↦ [] ∷ cut_at_pipes false cs | false ↦ onto_first c (cut_at_pipes (c == backslash) cs) ]

-- the cells of a line as they are written, backslashes before pipes included
abbrev pub written_cells : List ℕ → List (List ℕ)
written_cells line = map bare (cut_at_pipes false (without_last_pipe (without_first_pipe (bare line))))

-- without the backslash directly before each pipe
abbrev pub unescaped : List ℕ → List ℕ
unescaped [] = []
unescaped (c ∷ cs) = elim (starts_with nat_eq (c ∷ cs) (codes "\\|")) [ true ↦ unescaped cs | false ↦ c ∷ unescaped cs ]

-- the texts of a line's cells
abbrev pub cells : List ℕ → List (List ℕ)
cells line = map unescaped (written_cells line)

-- by whether a colon stands in front, and at the end
abbrev pub aligned : Bool → Bool → Align
aligned false false = Plain
aligned true false = Left
aligned false true = Right
aligned true true = Center

-- behind the hyphens: nothing, or a colon
abbrev pub ended : (first : Bool) → List ℕ → Option Align
ended first [] = Some (aligned first false)
ended first (c ∷ []) = if c == colon then Some (aligned first true) else None
ended first (c ∷ d ∷ ds) = None

-- one hyphen or more, and what follows them
abbrev pub hyphens : (first : Bool) → List ℕ → Option Align
hyphens first t = let n = prefix_len (λ c. c == hyphen) t in if nat_lt 0 n then ended first (drop n t) else None

-- the alignment that a cell of a delimiter row gives: hyphens, with a colon in front, at the end, at both or at neither
abbrev pub align_of : List ℕ → Option Align
align_of cell = if first_byte cell == colon then hyphens true (drop 1 cell) else hyphens false cell

-- those of all cells, or none where one gives none
abbrev pub aligns_of : List (List ℕ) → Option (List Align)
aligns_of [] = Some []
aligns_of (cell ∷ rest) = elim (align_of cell) [ Some align ↦ option_map (λ aligns. align ∷ aligns) (aligns_of rest) | None ↦ None ]

-- the alignments that a delimiter row gives, which holds a pipe
abbrev pub delimiter_row : List ℕ → Option (List Align)
delimiter_row line = if list_any (λ c. c == pipe) line then aligns_of (written_cells line) else None

-- so many cells: empty ones where there are too few, and none of those that are too many
abbrev pub filled : ℕ → List (List ℕ) → List (List ℕ)
filled zero texts = []
filled (suc n) [] = [] ∷ filled n []
filled (suc n) (text ∷ texts) = text ∷ filled n texts

-- a header with as many cells as the delimiter row, and the rows below both
abbrev pub headed : List ℕ → List (List ℕ) → List Align → Option Table
headed header lines aligns =
    let columns = length aligns in
    if length (cells header) == columns then Some (record { aligns = aligns; rows = map (λ line. filled columns (cells line)) (header ∷ lines) }) else None

-- a line, a delimiter row, and further lines
abbrev pub table_in : List (List ℕ) → Option Table
table_in [] = None
table_in (header ∷ []) = None
table_in (header ∷ delimiters ∷ lines) = elim (delimiter_row delimiters) [ Some aligns ↦ headed header lines aligns | None ↦ None ]

-- the table of a paragraph's text, in which LF stands between the lines, or none
unfoldable pub table_of : List ℕ → Option Table
table_of text = table_in (slice_split (λ c. c == line_feed) text)
