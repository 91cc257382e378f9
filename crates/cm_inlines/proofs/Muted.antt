-- Brackets that are text before the last pass stand for what they stood for after it.
use Rattle.std.proofs.Common.{◌≡◌, ◌∙◌, Bool, List, None, Option, Some, [], ap, arith, append-nil, cond, drop, false, length, map, nat_lt, option_map, refl, slice_get, suc, sym, take, true, zero, ℕ, ◌++◌, ◌+◌, ◌-◌, ◌==◌, ◌∷◌}
use Rattle.std.proofs.Math.ListN.{set}
use Rattle.std.proofs.lemmas.List.{length-map, map-set, take-map}
use Rattle.markdown_grammar.specs.Emphasis.{strength}
use Rattle.cm_inlines.specs.Cells.{plain_tokens}
use Rattle.cm_inlines.specs.Machine.{change_between, changed, close_node, close_nodes, is_sought, last_place, open_node, open_nodes, pair_at, pair_closer, pair_found, pair_from, pair_last, pair_nodes, pair_run, run_at, shorter}
use Rattle.cm_inlines.specs.Machine as sought
use Rattle.cm_inlines.specs.Nodes.{cells, cells_at, tokens_in}
use Rattle.cm_inlines.specs.Pairing.{Starts}
use Rattle.cm_inlines.specs.Places.{Lists, change_each, is_bracket, is_live, is_run, places}
use Rattle.cm_inlines.specs.States.{is_nothing, room, waiting}
use Rattle.cm_inlines.specs.Tokens.{Token}
use Rattle.cm_inlines.specs.declared.changes.Change.TheVariants.{Freeze}
use Rattle.cm_inlines.specs.declared.delimiters.Delimiters.{Delimiters}
use Rattle.cm_inlines.specs.declared.node.Node.{Node}
use Rattle.cm_inlines.specs.declared.node.Run.{Run}
use Rattle.cm_inlines.specs.declared.node.Node.TheVariants as node
use Rattle.cm_inlines.proofs.CellLaws.{plain-append}
use Rattle.cm_spans.specs.Pieces.{mark_byte}
use Rattle.cm_inlines.proofs.PlaceLaws.{change_picked, places_map}

abbrev pub muted : Node → Node
muted (node.Opening o) = node.Bracket o.is_image
muted n = n

abbrev pub all_muted : List Node → List Node
all_muted = map muted

-- ---- one node

frozen_muted : (n : Node) → changed Freeze (muted n) ≡ muted (changed Freeze n)
frozen_muted (node.Run r) = refl
frozen_muted (node.Opening o) = refl
frozen_muted n = refl

picked_muted : (n : Node) → cond (is_bracket n) (changed Freeze n) n ≡ muted n
picked_muted (node.Opening o) = refl
picked_muted n = refl

live_muted : (n : Node) → is_live (muted n) ≡ is_run n
live_muted (node.Run r) = refl
live_muted (node.Opening o) = refl
live_muted n = refl

room_muted : (n : Node) → room (muted n) ≡ room n
room_muted (node.Opening o) = refl
room_muted n = refl

nothing_muted : (n : Node) → is_nothing (muted n) ≡ is_nothing n
nothing_muted (node.Opening o) = refl
nothing_muted n = refl

sought_muted : (mark first : ℕ) (opens : Bool) (n : Node) → is_sought (sought.Opener mark first opens) (muted n) ≡ is_sought (sought.Opener mark first opens) n
sought_muted mark first opens (node.Opening o) = refl
sought_muted mark first opens n = refl

run_muted : (o : Option Node) → run_at (option_map muted o) ≡ run_at o
run_muted (Some (node.Opening o)) = refl
run_muted (Some n) = refl
run_muted None = refl

open_muted : (k : ℕ) → open_node k ≡ muted (open_node k)
open_muted k = go (k == 2) where
  go : (b : Bool) → cond b node.OpenStrong node.OpenEmphasis ≡ muted (cond b node.OpenStrong node.OpenEmphasis)
  go true = refl
  go false = refl

close_muted : (k : ℕ) → close_node k ≡ muted (close_node k)
close_muted k = go (k == 2) where
  go : (b : Bool) → cond b node.CloseStrong node.CloseEmphasis ≡ muted (cond b node.CloseStrong node.CloseEmphasis)
  go true = refl
  go false = refl

-- ---- lists

get_muted : (ns : List Node) (p : ℕ) → slice_get (all_muted ns) p ≡ option_map muted (slice_get ns p)
get_muted [] p = refl
get_muted (n ∷ ns) zero = refl
get_muted (n ∷ ns) (suc p) = get_muted ns p

drop_muted : (k : ℕ) (ns : List Node) → drop k (all_muted ns) ≡ all_muted (drop k ns)
drop_muted zero ns = refl
drop_muted (suc k) [] = refl
drop_muted (suc k) (n ∷ ns) = drop_muted k ns

last_muted : (mark first : ℕ) (opens : Bool) (ns : List Node) → last_place (is_sought (sought.Opener mark first opens)) (all_muted ns) ≡ last_place (is_sought (sought.Opener mark first opens)) ns
last_muted mark first opens [] = refl
last_muted mark first opens (n ∷ ns) =
    ap (λ (o : Option ℕ). elim o as (λ x. Option ℕ) [ Some k ↦ Some (suc k) | None ↦ cond (is_sought (sought.Opener mark first opens) (muted n)) (Some 0) None ]) (last_muted mark first opens ns)
    ∙ ap (λ (b : Bool). elim (last_place (is_sought (sought.Opener mark first opens)) ns) as (λ x. Option ℕ) [ Some k ↦ Some (suc k) | None ↦ cond b (Some 0) None ]) (sought_muted mark first opens n)

change_muted : (from to : ℕ) (ns : List Node) → change_between Freeze from to (all_muted ns) ≡ all_muted (change_between Freeze from to ns)
change_muted from to [] = refl
change_muted zero zero (n ∷ ns) = refl
change_muted zero (suc to) (n ∷ ns) = ap (λ (m : Node). m ∷ change_between Freeze zero to (all_muted ns)) (frozen_muted n) ∙ ap (λ (zs : List Node). muted (changed Freeze n) ∷ zs) (change_muted zero to ns)
change_muted (suc from) zero (n ∷ ns) = refl
change_muted (suc from) (suc to) (n ∷ ns) = ap (λ (zs : List Node). muted n ∷ zs) (change_muted from to ns)

set_muted : (ns : List Node) (p : ℕ) (n : Node) → n ≡ muted n → set (all_muted ns) p n ≡ all_muted (set ns p n)
set_muted ns p n e = ap (set (all_muted ns) p) e ∙ sym (map-set muted ns p n)

-- ---- a pair

closing_muted : (p : ℕ) (r : Run) (k : ℕ) (ns : List Node) → close_nodes p r k (all_muted ns) ≡ all_muted (close_nodes p r k ns)
closing_muted p r k ns = go (nat_lt k r.len) where
  first : set (all_muted ns) p (close_node k) ≡ all_muted (set ns p (close_node k))
  first = set_muted ns p (close_node k) (close_muted k)

  go : (b : Bool) → cond b (set (set (all_muted ns) p (close_node k)) (p + 1) (shorter r k)) (set (all_muted ns) p (close_node k)) ≡ all_muted (cond b (set (set ns p (close_node k)) (p + 1) (shorter r k)) (set ns p (close_node k)))
  go true = ap (λ (zs : List Node). set zs (p + 1) (shorter r k)) first ∙ set_muted (set ns p (close_node k)) (p + 1) (shorter r k) refl
  go false = first

opening_muted : (p : ℕ) (r : Run) (k : ℕ) (ns : List Node) → open_nodes p r k (all_muted ns) ≡ all_muted (open_nodes p r k ns)
opening_muted p r k ns = go (nat_lt k r.len) where
  go : (b : Bool) → cond b (set (set (all_muted ns) p (shorter r k)) (p + (r.len - k)) (open_node k)) (set (all_muted ns) p (open_node k)) ≡ all_muted (cond b (set (set ns p (shorter r k)) (p + (r.len - k)) (open_node k)) (set ns p (open_node k)))
  go true = ap (λ (zs : List Node). set zs (p + (r.len - k)) (open_node k)) (set_muted ns p (shorter r k) refl) ∙ set_muted (set ns p (shorter r k)) (p + (r.len - k)) (open_node k) (open_muted k)
  go false = set_muted ns p (open_node k) (open_muted k)

pair_muted : (p : ℕ) (o : Run) (end : ℕ) (r : Run) (ns : List Node) → pair_nodes p o end r (all_muted ns) ≡ all_muted (pair_nodes p o end r ns)
pair_muted p o end r ns =
    let k = strength o.len r.len in
    ap (λ (zs : List Node). open_nodes p o k (close_nodes end r k zs)) (change_muted (suc p) end ns) ∙ ap (open_nodes p o k) (closing_muted end r k (change_between Freeze (suc p) end ns)) ∙ opening_muted p o k (close_nodes end r k (change_between Freeze (suc p) end ns))

found_muted : (p : ℕ) (o : Option Run) (end : ℕ) (r : Run) (ns : List Node) → pair_found p o end r (all_muted ns) ≡ all_muted (pair_found p o end r ns)
found_muted p None end r ns = refl
found_muted p (Some o) end r ns = pair_muted p o end r ns

at_muted : (p : ℕ) (ns : List Node) → run_at (slice_get (all_muted ns) p) ≡ run_at (slice_get ns p)
at_muted p ns = ap run_at (get_muted ns p) ∙ run_muted (slice_get ns p)

nearest_muted : (start : ℕ) (k : Option ℕ) (end : ℕ) (r : Run) (ns : List Node) → pair_last start k end r (all_muted ns) ≡ all_muted (pair_last start k end r ns)
nearest_muted start None end r ns = refl
nearest_muted start (Some k) end r ns = ap (λ (o : Option Run). pair_found (start + k) o end r (all_muted ns)) (at_muted (start + k) ns) ∙ found_muted (start + k) (run_at (slice_get ns (start + k))) end r ns

closer_muted : (start end : ℕ) (r : Run) (ns : List Node) → pair_closer start end r (all_muted ns) ≡ all_muted (pair_closer start end r ns)
closer_muted start end r ns = go r.closes where
  part : List Node
  part = take (end - start) (drop start ns)

  same : last_place (is_sought (sought.Opener (mark_byte r.mark) r.first r.opens)) (take (end - start) (drop start (all_muted ns))) ≡ last_place (is_sought (sought.Opener (mark_byte r.mark) r.first r.opens)) part
  same = ap (λ (zs : List Node). last_place (is_sought (sought.Opener (mark_byte r.mark) r.first r.opens)) (take (end - start) zs)) (drop_muted start ns) ∙ ap (last_place (is_sought (sought.Opener (mark_byte r.mark) r.first r.opens))) (take-map muted (end - start) (drop start ns)) ∙ last_muted (mark_byte r.mark) r.first r.opens part

  go : (b : Bool) → cond b (pair_last start (last_place (is_sought (sought.Opener (mark_byte r.mark) r.first r.opens)) (take (end - start) (drop start (all_muted ns)))) end r (all_muted ns)) (all_muted ns)
      ≡ all_muted (cond b (pair_last start (last_place (is_sought (sought.Opener (mark_byte r.mark) r.first r.opens)) part) end r ns) ns)
  go true = ap (λ (k : Option ℕ). pair_last start k end r (all_muted ns)) same ∙ nearest_muted start (last_place (is_sought (sought.Opener (mark_byte r.mark) r.first r.opens)) part) end r ns
  go false = refl

step_muted : (start end : ℕ) (ns : List Node) → pair_at start end (all_muted ns) ≡ all_muted (pair_at start end ns)
step_muted start end ns = ap (λ (o : Option Run). pair_run start end o (all_muted ns)) (at_muted end ns) ∙ go (run_at (slice_get ns end)) where
  go : (o : Option Run) → pair_run start end o (all_muted ns) ≡ all_muted (pair_run start end o ns)
  go None = refl
  go (Some r) = closer_muted start end r ns

pairs_muted : (start place k : ℕ) (ns : List Node) → pair_from start place k (all_muted ns) ≡ all_muted (pair_from start place k ns)
pairs_muted start place zero ns = refl
pairs_muted start place (suc k) ns = ap (pair_from start (place + 1) k) (step_muted start place ns) ∙ pairs_muted start (place + 1) k (pair_at start place ns)

-- ---- what they stand for

tokens_one : (n : Node) → plain_tokens (cells_at [] (muted n)) ≡ plain_tokens (cells_at [] n)
tokens_one (node.Opening o) = refl
tokens_one n = refl

tokens_muted : (ns : List Node) → tokens_in (all_muted ns) ≡ tokens_in ns
tokens_muted [] = refl
tokens_muted (n ∷ ns) =
    plain-append (cells_at [] (muted n)) (cells [] (all_muted ns)) ∙ ap (λ (ts : List Token). ts ++ plain_tokens (cells [] (all_muted ns))) (tokens_one n) ∙ ap (λ (ts : List Token). plain_tokens (cells_at [] n) ++ ts) (tokens_muted ns)
    ∙ sym (plain-append (cells_at [] n) (cells [] ns))

waiting_muted : (k : ℕ) (ns : List Node) → waiting k (all_muted ns) ≡ waiting k ns
waiting_muted k [] = refl
waiting_muted zero (n ∷ ns) = ap (λ (m : ℕ). waiting m (all_muted ns)) (room_muted n) ∙ waiting_muted (room n) ns
waiting_muted (suc k) (n ∷ ns) =
    ap (λ (b : Bool). elim b as (λ x. Option ℕ) [ true ↦ waiting k (all_muted ns) | false ↦ None ]) (nothing_muted n) ∙ ap (λ (o : Option ℕ). elim (is_nothing n) as (λ x. Option ℕ) [ true ↦ o | false ↦ None ]) (waiting_muted k ns)

-- ---- the last pass

-- what the brackets on the list become
pub mutes : (d : Delimiters) (old new : List Node) (ps : List ℕ) → Lists d old → ps ≡ d.brackets.items → new ≡ change_each Freeze ps old → new ≡ all_muted old
mutes d old new ps l e h =
    h ∙ ap (λ (qs : List ℕ). change_each Freeze qs old) (e ∙ l.brackets) ∙ ap (change_each Freeze (places is_bracket 0 old)) (sym (append-nil old)) ∙ change_picked Freeze is_bracket muted picked_muted [] old [] 0 refl ∙ append-nil (all_muted old)

pub muted_starts : (d : Delimiters) (old new : List Node) (runs : List ℕ) → Lists d old → waiting 0 old ≡ Some 0 → new ≡ all_muted old → runs ≡ d.runs.items → Starts 0 new runs
muted_starts d old new runs l slots e h = record {
  order = omega arith;
  slots = ap (waiting 0) e ∙ waiting_muted 0 old ∙ slots;
  runs = h ∙ l.runs ∙ sym (ap (places is_live 0) e ∙ places_map is_live is_run muted live_muted 0 old);
}

pub muted_tokens : (old new paired : List Node) → new ≡ all_muted old → paired ≡ pair_from 0 0 (length new - 0) new → tokens_in paired ≡ tokens_in (pair_from 0 0 (length old - 0) old)
muted_tokens old new paired e h =
    let size : length new ≡ length old = ap (λ (zs : List Node). length zs) e ∙ length-map old muted in
    ap tokens_in (h ∙ ap (λ (k : ℕ). pair_from 0 0 (k - 0) new) size ∙ ap (pair_from 0 0 (length old - 0)) e ∙ pairs_muted 0 0 (length old - 0) old) ∙ tokens_muted (pair_from 0 0 (length old - 0) old)
