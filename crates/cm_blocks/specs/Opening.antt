-- What a line starts where no leaf takes it, as the walk finds it.
use Rattle.std.specs.Prelude.{Bool, List, None, Option, Some, drop, length, not, slice_index, take, true, ℕ, ◌+◌, ◌-◌, ◌<◌, ◌==◌, ◌||◌, ◌≡◌, ◌≤◌}
use Rattle.markdown_grammar.specs.Blocks.{opening}
use Rattle.markdown_grammar.specs.Breaks.{break_at}
use Rattle.site_text.specs.Bytes.{is_space}
use Rattle.site_text.specs.Fronts.{first_byte}
use Rattle.markdown_grammar.specs.Columns.{Line}
use Rattle.markdown_grammar.specs.Containers as grammar
use Rattle.markdown_grammar.specs.Extents.{Opening, opens_container, opens_leaf, opens_nothing}
use Rattle.markdown_grammar.specs.Leaves as leaves
use Rattle.markdown_grammar.specs.LineStarts.{start_of}
use Rattle.markdown_grammar.specs.Places.{not_in_paragraph}
use Rattle.markdown_grammar.specs.Starts.{text_start}
use Rattle.cm_containers.specs.Rests.{column_behind}
use Rattle.cm_containers.specs.Spots.{BehindWhite, IsSpot, rest_at, text_at}
use Rattle.cm_containers.specs.declared.spots.Spot.{Spot}
use Rattle.cm_starts.specs.Answers.{as_start}
use Rattle.cm_blocks.specs.declared.kinds.Leaf.{Leaf}
use Rattle.cm_blocks.specs.declared.opening.Known.{Known}
use Rattle.cm_blocks.specs.declared.opening.Opens.{Opens}
use Rattle.cm_blocks.specs.declared.opening.Opens.TheVariants.{Box, Other}
use Rattle.cm_blocks.specs.Leaves.{leaf_of}
use Rattle.cm_containers.specs.Answers.{as_container}

-- the leaf that a line starts
abbrev pub leaf_in : Opening Line leaves.Leaf grammar.Container → Option Leaf
leaf_in opens_nothing = None
leaf_in (opens_leaf s) = Some (leaf_of s)
leaf_in (opens_container k m) = None

-- no container is started
abbrev pub IsSimple : Opening Line leaves.Leaf grammar.Container → Type 0
IsSimple opens_nothing = Unit {0}
IsSimple (opens_leaf s) = Unit {0}
IsSimple (opens_container k m) = ⊥

-- a byte that no thematic break of a mark has
abbrev pub stops : ℕ → ℕ → Bool
stops mark c = not ((c == mark) || is_space c)

-- such a byte stands at a place, so no thematic break of the mark stands before it
pub record IsKnown (line : List ℕ) (known : Known) : Type 0 where
  pub within : known.until < length line
  pub other : stops known.mark (slice_index line known.until) ≡ true

abbrev pub IsKnownIf : List ℕ → Option Known → Type 0
IsKnownIf line None = Unit {0}
IsKnownIf line (Some known) = IsKnown line known

-- a bullet whose mark may be that of a thematic break
abbrev pub is_break_bullet : ℕ → Bool
is_break_bullet c = (c == 45) || (c == 42)

-- a container with the place of its inside, or something else
abbrev pub IsOpens : List ℕ → Spot → Opens → Type 0
IsOpens line s (Box held inside known) = (opening (rest_at line s) ≡ opens_container (as_container held) (rest_at line inside)) × IsSpot line inside × (s.column < inside.column) × IsKnownIf line known
IsOpens line s (Other start white) = (as_start start ≡ start_of not_in_paragraph s.column (text_at line s)) × BehindWhite line s white × IsSimple (opening (rest_at line s))

-- bytes of one column each at the front of a text, the last of ASCII
pub record IsMark (t : List ℕ) (n : ℕ) : Type 0 where
  pub some : 0 < n
  pub within : n ≤ length t
  pub columns : (col : ℕ) → column_behind col (take n t) ≡ col + n
  pub ascii : slice_index t (n - 1) < 128

-- from a place on, the text begins with a bullet and is no thematic break
pub record IsExcluded (line : List ℕ) (at : ℕ) : Type 0 where
  pub bullet : is_break_bullet (first_byte (drop at line)) ≡ true
  pub no_break : break_at (drop at line) ≡ text_start
