-- The rest of a line by the place where it begins: CommonMark 0.31.2, section 2.2.
use Rattle.std.specs.Prelude.{List, [], drop, false, if◌then◌else◌, nat_lt, replicate, suc, take, true, ℕ, ◌++◌, ◌+◌, ◌==◌, ◌∷◌}
use Rattle.site_text.specs.Bytes.{space, tab}
use Rattle.markdown_grammar.specs.Columns.{tab_width}

-- the column behind a byte
abbrev pub behind_byte : ℕ → ℕ → ℕ
behind_byte col c = elim (c == tab) [ true ↦ col + tab_width col | false ↦ suc col ]

-- the column behind bytes
abbrev pub column_behind : ℕ → List ℕ → ℕ
column_behind col [] = col
column_behind col (c ∷ cs) = column_behind (behind_byte col c) cs

-- what stands from a byte on, of which so many columns are taken: of a tab that is taken in part, spaces are left
abbrev pub text_from : ℕ → ℕ → ℕ → List ℕ → List ℕ
text_from start at col line = if nat_lt start col then replicate (tab_width col) space ++ drop (at + 1) line else drop at line

-- the same, by the column at which the byte itself begins
abbrev pub rest_text : List ℕ → ℕ → ℕ → List ℕ
rest_text line at col = text_from (column_behind 0 (take at line)) at col line
