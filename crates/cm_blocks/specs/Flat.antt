-- A walk over the lines that keeps the tokens so far, the containers that are open, and the leaf that is open.
use Rattle.std.specs.Prelude.{Bool, List, None, Option, Some, [], drop, false, length, nat_lt, not, suc, take, true, zero, ℕ, ◌++◌, ◌==◌, ◌||◌, ◌∷◌}
use Rattle.markdown_grammar.specs.Blocks.{line_weight, opening}
use Rattle.markdown_grammar.specs.Columns.{Line}
use Rattle.markdown_grammar.specs.Containers as grammar
use Rattle.markdown_grammar.specs.Extents.{Entry, Opening, goes_in, goes_in_if_filled, goes_in_if_open, opens_container, opens_leaf, opens_nothing, stays_out}
use Rattle.markdown_grammar.specs.Fronts.{is_empty}
use Rattle.markdown_grammar.specs.Leaves as leaves
use Rattle.markdown_grammar.specs.Matching.{Matched, one_more_kept}
use Rattle.cm_containers.specs.declared.kinds.Container.{Container}
use Rattle.cm_blocks.specs.declared.kinds.Leaf.{Leaf}
use Rattle.cm_blocks.specs.declared.kinds.Token.{Token}
use Rattle.cm_blocks.specs.declared.kinds.Token.TheVariants.{Blank, Closes, Holds, Opens}
use Rattle.cm_blocks.specs.Leaves.{is_prose, leaf_of, more_of}
use Rattle.cm_blocks.specs.Tokens.{container_of}
use Rattle.cm_containers.specs.Answers.{as_container}
use Rattle.cm_containers.specs.Entries.{line_when}

-- the innermost open container is filled where it has a block
pub record Flat : Type 0 where
  pub tokens : List Token
  pub stack : List Container
  pub leaf : Option Leaf
  pub filled : Bool

-- ---- what a line starts

abbrev pub gap_put : Flat → Flat
gap_put f = record { tokens = f.tokens ++ Blank ∷ []; stack = f.stack; leaf = f.leaf; filled = f.filled }

abbrev pub leaf_put : Leaf → Flat → Flat
leaf_put s f = record { tokens = f.tokens; stack = f.stack; leaf = Some s; filled = true }

abbrev pub opened : Container → Flat → Flat
opened k f = record { tokens = f.tokens ++ Opens k ∷ []; stack = f.stack ++ k ∷ []; leaf = f.leaf; filled = false }

abbrev pub begun : (Flat → Line → Flat) → Flat → Opening Line leaves.Leaf grammar.Container → Flat
begun inner f opens_nothing = gap_put f
begun inner f (opens_leaf s) = leaf_put (leaf_of s) f
begun inner f (opens_container k m) = inner (opened (container_of k) f) m

abbrev pub begin_by : ℕ → Flat → Line → Flat
begin_by zero f l = f
begin_by (suc n) f l = begun (begin_by n) f (opening l)

-- the walk behind a line that nothing takes
abbrev pub begin : Flat → Line → Flat
begin f l = begin_by (suc (line_weight l)) f l

-- ---- what is closed

abbrev pub leaf_tokens : Option Leaf → List Token
leaf_tokens None = []
leaf_tokens (Some s) = Holds s ∷ []

abbrev pub leaf_closed : Flat → Flat
leaf_closed f = record { tokens = f.tokens ++ leaf_tokens f.leaf; stack = f.stack; leaf = None; filled = f.filled }

-- the ends of containers, the innermost first
abbrev pub closes : List Container → List Token
closes [] = []
closes (k ∷ ks) = closes ks ++ Closes k ∷ []

-- n containers stay open
abbrev pub closed_to : ℕ → Flat → Flat
closed_to n f = record {
  tokens = f.tokens ++ (leaf_tokens f.leaf ++ closes (drop n f.stack));
  stack = take n f.stack;
  leaf = None;
  filled = f.filled || nat_lt n (length f.stack);
}

-- ---- what a line goes on with

-- the line inside a container, by whether a paragraph is open at the end and whether the container has a block
abbrev pub enters : Bool → Bool → Entry Line → Option Line
enters prose filled (goes_in l) = Some l
enters prose filled (goes_in_if_filled l) = line_when filled l
enters prose filled (goes_in_if_open l) = line_when prose l
enters prose filled stays_out = None

-- how many of the open containers a line goes on with, and its rest
abbrev pub reached : Bool → Bool → List Container → Line → Matched
reached prose filled [] l = record { kept = 0; rest = l }
reached prose filled (k ∷ ks) l = elim (enters prose (filled || not (is_empty ks)) (grammar.entry (as_container k) l)) [
  | Some m ↦ one_more_kept (reached prose filled ks m)
  | None ↦ record { kept = 0; rest = l }
]

abbrev pub leaf_more : Option Leaf → Line → Option Leaf
leaf_more None l = None
leaf_more (Some s) l = more_of s l

-- a line behind the open leaf, or behind the blocks that are closed
abbrev pub leaf_on : Flat → Line → Option Leaf → Flat
leaf_on f l (Some s) = record { tokens = f.tokens; stack = f.stack; leaf = Some s; filled = f.filled }
leaf_on f l None = begin (leaf_closed f) l

-- all containers are kept, or those behind some are closed
abbrev pub stepped : Flat → Matched → Bool → Flat
stepped f m true = leaf_on f m.rest (leaf_more f.leaf m.rest)
stepped f m false = begin (closed_to m.kept f) m.rest

abbrev pub step_on : Flat → Matched → Flat
step_on f m = stepped f m (m.kept == length f.stack)

-- one line more
abbrev pub step : Flat → Line → Flat
step f l = step_on f (reached (is_prose f.leaf) f.filled f.stack l)

-- more lines
abbrev pub steps : Flat → List Line → Flat
steps f [] = f
steps f (l ∷ ls) = steps (step f l) ls

-- before the first line
abbrev pub flat_start : Flat
flat_start = record { tokens = []; stack = []; leaf = None; filled = false }

-- the tokens of a walk that is over
abbrev pub finished : Flat → List Token
finished f = (closed_to 0 f).tokens
