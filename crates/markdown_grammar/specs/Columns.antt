-- Lines and their columns: a tab stands for spaces up to the next stop of four (CommonMark 0.31.2, section 2.2).
use Rattle.std.specs.Prelude.{List, [], false, replicate, suc, true, zero, ℕ, ◌%◌, ◌++◌, ◌+◌, ◌-◌, ◌==◌, ◌∷◌}
use Rattle.site_text.specs.Bytes.{space, tab}

-- what a container's inside has of a line: what stands behind the marks, from a column on, or a lazy line, which has no marks and goes on the open paragraph
pub data Line : Type 0 where
  own_line : (col : ℕ) → (text : List ℕ) → Line
  lazy_line : (text : List ℕ) → Line

-- how far a tab goes from a column
abbrev pub tab_width : ℕ → ℕ
tab_width col = 4 - col % 4

-- how many columns the white space in front takes
abbrev pub indent : ℕ → List ℕ → ℕ
indent col [] = 0
indent col (c ∷ cs) = elim (c == space) [
  | true ↦ suc (indent (suc col) cs)
  | false ↦ elim (c == tab) [ true ↦ tab_width col + indent (col + tab_width col) cs | false ↦ 0 ]
]

-- up to k columns of white space taken away; of a tab that is taken in part, spaces are left
abbrev pub shifted : ℕ → ℕ → List ℕ → Line
shifted zero col t = own_line col t
shifted (suc k) col [] = own_line col []
shifted (suc k) col (c ∷ cs) = elim (c == space) [
  | true ↦ shifted k (suc col) cs
  | false ↦ elim (c == tab) [ true ↦ shifted k (suc col) (replicate (tab_width col - 1) space ++ cs) | false ↦ own_line col (c ∷ cs) ]
]

-- what stands on a line
abbrev pub line_text : Line → List ℕ
line_text (own_line col t) = t
line_text (lazy_line t) = t

-- the lines of the whole text, in which no mark is taken
abbrev pub whole_lines : List (List ℕ) → List Line
whole_lines [] = []
whole_lines (t ∷ ts) = own_line 0 t ∷ whole_lines ts

-- how much a line has, a tab as its widest
abbrev pub bytes_weight : List ℕ → ℕ
bytes_weight [] = 1
bytes_weight (c ∷ cs) = (elim (c == tab) [ true ↦ 4 | false ↦ 1 ]) + bytes_weight cs
