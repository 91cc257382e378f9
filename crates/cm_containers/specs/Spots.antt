-- Places in a line, and how a place goes further.
use Rattle.std.specs.Prelude.{◌≡◌, List, None, Option, Some, if◌then◌else◌, drop, length, slice_index, suc, take, ℕ, ◌+◌, ◌*◌, ◌%◌, ◌<◌, ◌==◌, ◌≤◌}
use Rattle.std.specs.Str.{IsCharBoundary}
use Rattle.markdown_grammar.specs.Columns.{Line, indent, own_line, shifted, tab_width}
use Rattle.markdown_grammar.specs.Extents.{Entry, goes_in, goes_in_if_filled, goes_in_if_open, stays_out}
use Rattle.markdown_grammar.specs.Lines.{trim_front}
use Rattle.cm_containers.specs.Rests.{column_behind, text_from}
use Rattle.cm_containers.specs.declared.spots.Spot.{Spot}

-- what stands behind a place
abbrev pub text_at : List ℕ → Spot → List ℕ
text_at line s = text_from s.start s.at s.column line

-- the rest of the line behind a place
abbrev pub rest_at : List ℕ → Spot → Line
rest_at line s = own_line s.column (text_at line s)

-- a place stands in a line
pub record IsSpot (line : List ℕ) (s : Spot) : Type 0 where
  pub within : s.at ≤ length line
  pub start : s.start ≡ column_behind 0 (take s.at line)
  pub small : s.start ≤ 4 * s.at
  pub order : s.start ≤ s.column
  pub near : s.column < s.start + 4
  pub cut : IsCharBoundary line s.at
  pub in_tab : s.start < s.column → (s.at < length line) × (slice_index line s.at ≡ 9) × (s.column < s.start + tab_width s.start)

-- a place stands behind all white space that follows another
pub record BehindWhite (line : List ℕ) (s t : Spot) : Type 0 where
  pub spot : IsSpot line t
  pub column : t.column ≡ s.column + indent s.column (text_at line s)
  pub rest : drop t.at line ≡ trim_front (text_at line s)
  pub whole : t.start ≡ t.column

-- one column of the tab at a place is taken
abbrev pub further_in_tab : Spot → Spot
further_in_tab s = if (s.column + 1) % 4 == 0 then record { at = s.at + 1; start = s.column + 1; column = s.column + 1 } else record { at = s.at; start = s.start; column = s.column + 1 }

-- one column of white space is taken, or none stands there
abbrev pub TakesColumn : List ℕ → Spot → Option Spot → Type 0
TakesColumn line s (Some t) = IsSpot line t × ((k : ℕ) → shifted (suc k) s.column (text_at line s) ≡ shifted k t.column (text_at line t))
TakesColumn line s None = (k : ℕ) → shifted (suc k) s.column (text_at line s) ≡ rest_at line s

-- the line inside a container, where it goes in by the container's own rule
abbrev pub kept_line : Entry Line → Option Line
kept_line (goes_in l) = Some l
kept_line (goes_in_if_filled l) = Some l
kept_line (goes_in_if_open l) = None
kept_line stays_out = None
