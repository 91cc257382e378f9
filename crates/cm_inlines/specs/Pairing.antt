-- How far the runs of a list of nodes are paired.
use Rattle.std.specs.Prelude.{◌≡◌, ◌<◌, ◌≤◌, ◌⊎◌, All, Bool, List, None, Option, Some, [], drop, false, if◌then◌else◌, length, nat_lt, slice_get, slice_index, take, true, ℕ, ◌%◌, ◌++◌, ◌+◌, ◌-◌, ◌==◌, ◌∷◌}
use Rattle.markdown_grammar.specs.Emphasis.{strength}
use Rattle.cm_inlines.specs.Machine.{close_nodes, is_sought, open_nodes, pair_from, run_at}
use Rattle.cm_inlines.specs.Machine as sought
use Rattle.cm_inlines.specs.Places.{change_each, is_live, places}
use Rattle.cm_inlines.specs.States.{waiting}
use Rattle.cm_inlines.specs.declared.changes.Change.TheVariants.{Freeze}
use Rattle.cm_inlines.specs.declared.node.Node.{Node}
use Rattle.cm_inlines.specs.declared.node.Run.{Run}
use Rattle.cm_inlines.specs.declared.openers.Misses.{Misses}
use Rattle.cm_inlines.specs.declared.openers.Opener.{Opener}
use Rattle.cm_inlines.specs.declared.openers.Openers.{Openers}
use Rattle.cm_inlines.specs.declared.pairing.Leftover.{Leftover}
use Rattle.cm_spans.specs.Pieces.{mark_byte}
use Rattle.cm_inlines.specs.declared.pairing.Leftover.TheVariants.{Shorter, Unpaired, UsedUp}

-- ---- where nothing opens

abbrev pub kind : ℕ → Bool → ℕ
kind first opens = if opens then 3 + first % 3 else first % 3

-- the place up to which nothing opens for a closer
abbrev pub floor_of : Misses → ℕ → ℕ → Bool → ℕ
floor_of m mark first opens = if mark == 42 then slice_index m.stars (kind first opens) else if mark == 95 then slice_index m.underscores (kind first opens) else 0

abbrev pub floor_for : Misses → Run → ℕ
floor_for m r = floor_of m (mark_byte r.mark) r.first r.opens

-- whether a node opens for a closer
abbrev pub opens_at : ℕ → ℕ → Bool → Option Node → Bool
opens_at mark first opens (Some n) = is_sought (sought.Opener mark first opens) n
opens_at mark first opens None = false

abbrev pub OpensNot : List Node → ℕ → ℕ → Bool → ℕ → Type 0
OpensNot ns mark first opens p = opens_at mark first opens (slice_get ns p) ≡ false

-- closers of one kind
abbrev pub IsLike : Run → ℕ → ℕ → Bool → Type 0
IsLike closer mark first opens = (mark ≡ (mark_byte closer.mark)) × (first % 3 ≡ closer.first % 3) × (opens ≡ closer.opens)

-- the floor for closers like one is a place, and the others stay
pub record Raised (old new : Misses) (closer : Run) (place : ℕ) : Type 0 where
  pub floors : (mark first : ℕ) (opens : Bool) → (floor_of new mark first opens ≡ floor_of old mark first opens) ⊎ IsLike closer mark first opens × (floor_of new mark first opens ≡ place)
  pub noted : floor_for new closer ≡ place

-- ---- openers

-- the run, if it opens for a closer
abbrev pub OpenerAt : Run → Option Node → Option Run → Type 0
OpenerAt closer n (Some r) = (run_at n ≡ Some r) × (opens_at (mark_byte closer.mark) closer.first closer.opens n ≡ true)
OpenerAt closer n None = opens_at (mark_byte closer.mark) closer.first closer.opens n ≡ false

-- how many openers are left where one has given so many marks
abbrev pub left_at : Opener → ℕ → ℕ
left_at o taken = if nat_lt taken o.run.len then o.index + 1 else o.index

-- the opener, behind which none of the places opens
pub record Nearest (ns : List Node) (ps : List ℕ) (closer : Run) (o : Opener) : Type 0 where
  pub within : o.index < length ps
  pub place : o.place ≡ slice_index ps o.index
  pub run : run_at (slice_get ns o.place) ≡ Some o.run
  pub passes : opens_at (mark_byte closer.mark) closer.first closer.opens (slice_get ns o.place) ≡ true
  pub behind : All (OpensNot ns (mark_byte closer.mark) closer.first closer.opens) (drop (o.index + 1) ps)

-- none of the places behind one opens, which is below the floor
pub record NoneFrom (ns : List Node) (ps : List ℕ) (closer : Run) (floor : ℕ) : Type 0 where
  pub far : ℕ
  pub within : far ≤ length ps
  pub behind : All (OpensNot ns (mark_byte closer.mark) closer.first closer.opens) (drop far ps)
  pub below : 0 < far → slice_index ps (far - 1) < floor

-- ---- a pair

abbrev pub closer_of : Option Run → Option Run
closer_of (Some r) = if r.closes then Some r else None
closer_of None = None

abbrev pub leftover_of : Run → ℕ → Leftover
leftover_of closer taken = if nat_lt taken closer.len then Shorter else UsedUp

-- an opener and a closer, where the openers behind the first are frozen
pub record PairsWith (o : Opener) (place : ℕ) (closer : Run) (leftover : Leftover) (old new : Openers) (ns ms : List Node) : Type 0 where
  pub nodes : ms ≡ open_nodes o.place o.run (strength o.run.len closer.len) (close_nodes place closer (strength o.run.len closer.len) (change_each Freeze (drop (o.index + 1) old.places.items) ns))
  pub places : new.places.items ≡ take (left_at o (strength o.run.len closer.len)) old.places.items
  pub misses : new.misses ≡ old.misses
  pub leftover_is : leftover ≡ leftover_of closer (strength o.run.len closer.len)

-- ---- a pass over the runs

-- the runs of nodes behind a front, up to the places that are still to come
pub record Paired (front : List Node) (ps ahead : List ℕ) (m : Misses) (ns whole : List Node) : Type 0 where
  pub done : List Node
  pub left : List Node
  pub split : ns ≡ front ++ (done ++ left)
  pub slots : waiting 0 (done ++ left) ≡ Some 0
  pub behind : ps ≡ places is_live (length front) done
  pub coming : ahead ≡ places is_live (length front + length done) left
  pub so_far : pair_from (length front) (length front + length done) (length left) ns ≡ whole
  pub within : (mark first : ℕ) (opens : Bool) → floor_of m mark first opens ≤ length front + length done
  pub floors : (mark first : ℕ) (opens : Bool) → All (λ p. p < floor_of m mark first opens → OpensNot ns mark first opens p) ps

-- what is an opener now, and what is still to come
abbrev pub kept_by : Leftover → ℕ → List ℕ → List ℕ
kept_by Unpaired place ps = ps ++ place ∷ []
kept_by other place ps = ps

abbrev pub coming_by : Leftover → ℕ → List ℕ → List ℕ
coming_by Shorter place ahead = (place + 1) ∷ ahead
coming_by other place ahead = ahead

abbrev pub PairsOnce : ℕ → Leftover → Openers → Openers → List Node → List Node → Type 0
PairsOnce place leftover old new ns ms = (front : List Node) (ahead : List ℕ) (whole : List Node) → Paired front old.places.items (place ∷ ahead) old.misses ns whole → Paired front (kept_by leftover place new.places.items) (coming_by leftover place ahead) new.misses ms whole

abbrev pub PairsRun : ℕ → Openers → Openers → List Node → List Node → Type 0
PairsRun place old new ns ms = (front : List Node) (ahead : List ℕ) (whole : List Node) → Paired front old.places.items (place ∷ ahead) old.misses ns whole → Paired front new.places.items ahead new.misses ms whole

-- ---- all the runs behind a start

pub record Starts (start : ℕ) (ns : List Node) (ps : List ℕ) : Type 0 where
  pub order : start ≤ length ns
  pub slots : waiting 0 (drop start ns) ≡ Some 0
  pub runs : ps ≡ places is_live start (drop start ns)

pub record PairsAll (start : ℕ) (old new : List Node) (ps : List ℕ) : Type 0 where
  pub value : new ≡ pair_from start start (length old - start) old
  pub front : take start new ≡ take start old
  pub within : start ≤ length new
  pub left : ps ≡ places is_live start (drop start new)
