-- How far the nodes of a text have come.
use Rattle.std.specs.Prelude.{◌≡◌, ◌<◌, ◌≤◌, Bool, List, None, Option, Some, [], drop, false, length, reverse, suc, take, true, zero, ℕ, ◌+◌, ◌-◌, ◌∷◌}
use Rattle.std.specs.Str.{IsCharBoundary}
use Rattle.markdown_grammar.specs.Definitions.{Definition}
use Rattle.markdown_grammar.specs.Links as links
use Rattle.markdown_grammar.specs.Pieces.{Piece}
use Rattle.markdown_grammar.specs.Reading.{Spot, pieces_from}
use Rattle.cm_inlines.specs.Cells.{cells_of}
use Rattle.cm_inlines.specs.Nodes.{cells}
use Rattle.cm_inlines.specs.declared.node.Node.{Node}
use Rattle.cm_inlines.specs.declared.node.Node.TheVariants as node

-- how many places a run of marks still waits for
abbrev pub room : Node → ℕ
room (node.Run r) = r.len - 1
room n = 0

abbrev pub is_nothing : Node → Bool
is_nothing node.Nothing = true
is_nothing n = false

-- how many places with nothing are waited for behind the nodes, where so many are before them
abbrev pub waiting : ℕ → List Node → Option ℕ
waiting k [] = Some k
waiting zero (n ∷ ns) = waiting (room n) ns
waiting (suc k) (n ∷ ns) = elim (is_nothing n) [ true ↦ waiting k ns | false ↦ None ]

-- a bracket's text begins where the text may be cut, and not behind a place
abbrev pub IsPlacedAt : List ℕ → ℕ → Node → Type 0
IsPlacedAt t at (node.Opening o) = (o.behind ≤ at) × IsCharBoundary t o.behind
IsPlacedAt t at n = Unit {0}

abbrev pub IsPlaced : List ℕ → ℕ → List Node → Type 0
IsPlaced t at [] = Unit {0}
IsPlaced t at (n ∷ ns) = IsPlacedAt t at n × IsPlaced t at ns

-- nodes of a text up to a place
pub record Sound (t : List ℕ) (at : ℕ) (ns : List Node) : Type 0 where
  pub slots : waiting 0 ns ≡ Some 0
  pub placed : IsPlaced t at ns
  pub cut : IsCharBoundary t at

-- the grammar's spot at a place
abbrev pub spot_at : List ℕ → List Piece → ℕ → Spot
spot_at t before at = record { before = before; done = reverse (take at t); left = drop at t }

-- pieces that the nodes show, from which the reading goes on as from the pieces before
pub record GoesOn (defs : List Definition) (t : List ℕ) (at : ℕ) (before : List Piece) (to : ℕ) (ns : List Node) : Type 0 where
  pub pieces : List Piece
  pub shown : cells t ns ≡ cells_of pieces
  pub same : pieces_from defs (spot_at t before at) ≡ pieces_from defs (spot_at t pieces to)

-- n bytes further
pub record Reads (defs : List Definition) (t : List ℕ) (at : ℕ) (old new : List Node) (n : ℕ) : Type 0 where
  pub some : 0 < n
  pub within : at + n ≤ length t
  pub sound : (before : List Piece) → cells t old ≡ cells_of before → Sound t (at + n) new
  pub goes_on : (before : List Piece) → cells t old ≡ cells_of before → GoesOn defs t at before (at + n) new

-- a closing bracket, and n bytes behind it
pub record Closes (defs : List Definition) (t : List ℕ) (at : ℕ) (old new : List Node) (n : ℕ) : Type 0 where
  pub within : at + (n + 1) ≤ length t
  pub sound : (before : List Piece) → cells t old ≡ cells_of before → Sound t (at + (n + 1)) new
  pub shown : (before : List Piece) → cells t old ≡ cells_of before → cells t new ≡ cells_of (links.close_bracket defs before (drop (at + 1) t)).0
  pub taken : (before : List Piece) → cells t old ≡ cells_of before → n ≡ (links.close_bracket defs before (drop (at + 1) t)).1
