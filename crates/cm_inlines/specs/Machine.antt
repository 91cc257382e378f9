-- Pairing runs of marks in a list of nodes, as it is done in place.
use Rattle.std.specs.Prelude.{Bool, List, None, Option, Some, [], drop, false, if◌then◌else◌, nat_lt, not, slice_get, slice_set, suc, take, true, zero, ℕ, ◌&&◌, ◌+◌, ◌-◌, ◌==◌, ◌||◌, ◌∷◌}
use Rattle.markdown_grammar.specs.Emphasis.{lengths_fit, strength}
use Rattle.cm_inlines.specs.declared.changes.Change.{Change}
use Rattle.cm_inlines.specs.declared.changes.Change.TheVariants.{Calm, Freeze}
use Rattle.cm_inlines.specs.declared.node.Node.{Node}
use Rattle.cm_inlines.specs.declared.node.Run.{Run}
use Rattle.cm_spans.specs.Pieces.{mark_byte}
use Rattle.cm_inlines.specs.declared.node.Node.TheVariants as node

-- ---- changes

-- marks and brackets become text, or brackets of links begin nothing any more
abbrev pub changed : Change → Node → Node
changed Freeze (node.Run r) = node.Marks r.mark r.len
changed Freeze (node.Opening o) = node.Bracket o.is_image
changed Calm (node.Opening o) = node.Opening (record o { is_active = o.is_active && o.is_image })
changed how n = n

-- the nodes from one place up to another are changed
abbrev pub change_between : Change → ℕ → ℕ → List Node → List Node
change_between how from to [] = []
change_between how zero zero (n ∷ ns) = n ∷ ns
change_between how zero (suc to) (n ∷ ns) = changed how n ∷ change_between how zero to ns
change_between how (suc from) zero (n ∷ ns) = n ∷ ns
change_between how (suc from) (suc to) (n ∷ ns) = n ∷ change_between how from to ns

-- ---- what is sought

-- a bracket that may begin a link or an image, or an opener for a closer of this mark and length at first, which may open too
pub data Sought : Type 0 where
  Bracket : Sought
  Opener : (mark first : ℕ) → (opens : Bool) → Sought

abbrev pub run_at : Option Node → Option Run
run_at (Some (node.Run r)) = Some r
run_at other = None

abbrev pub opens_for : ℕ → ℕ → Bool → Run → Bool
opens_for mark first opens r = r.opens && (((mark_byte r.mark) == mark) && (not (r.closes || opens) || lengths_fit r.first first))

abbrev pub is_sought : Sought → Node → Bool
is_sought Bracket (node.Opening o) = true
is_sought (Opener mark first opens) (node.Run r) = opens_for mark first opens r
is_sought what n = false

-- the place of the last node that passes
abbrev pub last_place : (Node → Bool) → List Node → Option ℕ
last_place q [] = None
last_place q (n ∷ ns) = elim (last_place q ns) [ Some k ↦ Some (suc k) | None ↦ (if q n then Some 0 else None) ]

-- ---- a pair

abbrev pub open_node : ℕ → Node
open_node k = if k == 2 then node.OpenStrong else node.OpenEmphasis

abbrev pub close_node : ℕ → Node
close_node k = if k == 2 then node.CloseStrong else node.CloseEmphasis

abbrev pub shorter : Run → ℕ → Node
shorter r k = node.Run (record r { len = r.len - k })

-- a closing run gives k marks: these close, and others follow
abbrev pub close_nodes : ℕ → Run → ℕ → List Node → List Node
close_nodes place r k ns = let closed = slice_set ns place (close_node k) in if nat_lt k r.len then slice_set closed (place + 1) (shorter r k) else closed

-- an opening run gives k marks, behind the others
abbrev pub open_nodes : ℕ → Run → ℕ → List Node → List Node
open_nodes place r k ns = if nat_lt k r.len then slice_set (slice_set ns place (shorter r k)) (place + (r.len - k)) (open_node k) else slice_set ns place (open_node k)

-- the opener at one place and the closer at another
abbrev pub pair_nodes : ℕ → Run → ℕ → Run → List Node → List Node
pair_nodes place opener end closer ns = let k = strength opener.len closer.len in open_nodes place opener k (close_nodes end closer k (change_between Freeze (suc place) end ns))

abbrev pub pair_found : ℕ → Option Run → ℕ → Run → List Node → List Node
pair_found place None end closer ns = ns
pair_found place (Some opener) end closer ns = pair_nodes place opener end closer ns

-- the last opener that stands from `start` on
abbrev pub pair_last : ℕ → Option ℕ → ℕ → Run → List Node → List Node
pair_last start None end closer ns = ns
pair_last start (Some k) end closer ns = pair_found (start + k) (run_at (slice_get ns (start + k))) end closer ns

abbrev pub pair_closer : ℕ → ℕ → Run → List Node → List Node
pair_closer start end r ns = if r.closes then pair_last start (last_place (is_sought (Opener (mark_byte r.mark) r.first r.opens)) (take (end - start) (drop start ns))) end r ns else ns

abbrev pub pair_run : ℕ → ℕ → Option Run → List Node → List Node
pair_run start end None ns = ns
pair_run start end (Some r) ns = pair_closer start end r ns

-- what the node at a place does as a closer
abbrev pub pair_at : ℕ → ℕ → List Node → List Node
pair_at start end ns = pair_run start end (run_at (slice_get ns end)) ns

-- so many nodes from a place on, one after another
abbrev pub pair_from : ℕ → ℕ → ℕ → List Node → List Node
pair_from start place zero ns = ns
pair_from start place (suc n) ns = pair_from start (place + 1) n (pair_at start place ns)
