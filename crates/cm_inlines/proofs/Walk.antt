-- Pairing in place makes the grammar's pairs.
use Rattle.std.proofs.Common.{◌≡◌, ◌∙◌, Bool, List, None, Option, Some, [], ap, append-nil, append_assoc, arith, cond, drop, false, length, length-append, map, nat_lt, option_map, refl, slice_get, subst, suc, sym, take, true, zero, ℕ, ◌&&◌, ◌++◌, ◌+◌, ◌-◌, ◌==◌, ◌∷◌, ◌≤◌}
use Rattle.std.proofs.Math.Seq.{drop-append_seam, take-append_seam}
use Rattle.std.proofs.lemmas.List.{length-map, map-append}
use Rattle.markdown_grammar.proofs.Pairing.{is_step, pairs_end}
use Rattle.markdown_grammar.specs.Emphasis.{Found, Settled, StepOf, last_that, len_of, opens_for, pair_with, paired, pairs, plain, shorten, strength, stressed}
use Rattle.markdown_grammar.specs.Inlines.{Inlines, emphasis, no_inlines, strong}
use Rattle.markdown_grammar.specs.Pieces.{Piece, delimiter_run, finished, open_bracket}
use Rattle.cm_inlines.specs.Cells.{Cell, bracket_cell, cells_in, cells_of, plain_tokens, run_cell, sealed}
use Rattle.cm_inlines.specs.Machine.{change_between, changed, close_node, close_nodes, is_sought, last_place, open_nodes, pair_at, pair_found, pair_from, pair_last, pair_nodes, pair_run, run_at}
use Rattle.cm_inlines.specs.Nodes.{cells, cells_at}
use Rattle.cm_inlines.specs.Words.{word_tokens}
use Rattle.cm_inlines.specs.States.{waiting}
use Rattle.cm_inlines.specs.Tokens.{Token, close_emphasis, close_strong, open_emphasis, open_strong, tokens}
use Rattle.cm_inlines.specs.declared.changes.Change.TheVariants.{Freeze}
use Rattle.cm_inlines.specs.declared.node.Node.{Node}
use Rattle.cm_inlines.specs.declared.node.Run.{Run}
use Rattle.cm_inlines.specs.declared.node.Node.TheVariants as node
use Rattle.cm_inlines.specs.Machine as sought
use Rattle.cm_inlines.proofs.CellLaws.{FoundAt, FoundCell, NodesCase, cell_in, cells-append, cells_found, cells_of-append, last_cell, last_nodes, last_pieces, opener_matches, opener_nodes, opener_test, plain_is}
use Rattle.cm_spans.specs.Pieces.{mark_byte}
use Rattle.cm_inlines.proofs.Slots.{Closed, Opened, after, change_behind, close_cells, close_room, close_token, closed, get_there, open_token, opened, piece_of_run, run_start, waiting-append}

-- ---- up to the next run

abbrev pub before_run : List Piece → List Piece
before_run [] = []
before_run (delimiter_run mark len first o c ∷ ps) = []
before_run (finished xs ∷ ps) = finished xs ∷ before_run ps
before_run (open_bracket i a b ∷ ps) = open_bracket i a b ∷ before_run ps

abbrev pub from_run : List Piece → List Piece
from_run [] = []
from_run (delimiter_run mark len first o c ∷ ps) = delimiter_run mark len first o c ∷ ps
from_run (finished xs ∷ ps) = from_run ps
from_run (open_bracket i a b ∷ ps) = from_run ps

rejoined : (ps : List Piece) → ps ≡ before_run ps ++ from_run ps
rejoined [] = refl
rejoined (delimiter_run mark len first o c ∷ ps) = refl
rejoined (finished xs ∷ ps) = ap (λ (qs : List Piece). finished xs ∷ qs) (rejoined ps)
rejoined (open_bracket i a b ∷ ps) = ap (λ (qs : List Piece). open_bracket i a b ∷ qs) (rejoined ps)

abbrev cells_before : List Cell → List Cell
cells_before [] = []
cells_before (run_cell mark len first o c ∷ cs) = []
cells_before (sealed t ∷ cs) = sealed t ∷ cells_before cs
cells_before (bracket_cell i a b ∷ cs) = bracket_cell i a b ∷ cells_before cs

abbrev cells_from : List Cell → List Cell
cells_from [] = []
cells_from (run_cell mark len first o c ∷ cs) = run_cell mark len first o c ∷ cs
cells_from (sealed t ∷ cs) = cells_from cs
cells_from (bracket_cell i a b ∷ cs) = cells_from cs

sealed_before : (ts : List Token) (cs : List Cell) → cells_before (map sealed ts ++ cs) ≡ map sealed ts ++ cells_before cs
sealed_before [] cs = refl
sealed_before (t ∷ ts) cs = ap (λ (ds : List Cell). sealed t ∷ ds) (sealed_before ts cs)

sealed_from : (ts : List Token) (cs : List Cell) → cells_from (map sealed ts ++ cs) ≡ cells_from cs
sealed_from [] cs = refl
sealed_from (t ∷ ts) cs = sealed_from ts cs

pieces_before : (ps : List Piece) → cells_before (cells_of ps) ≡ cells_of (before_run ps)
pieces_before [] = refl
pieces_before (delimiter_run mark len first o c ∷ ps) = refl
pieces_before (finished xs ∷ ps) = sealed_before (tokens xs) (cells_of ps) ∙ ap (λ (cs : List Cell). map sealed (tokens xs) ++ cs) (pieces_before ps)
pieces_before (open_bracket i a b ∷ ps) = ap (λ (cs : List Cell). bracket_cell i a b ∷ cs) (pieces_before ps)

pieces_from_run : (ps : List Piece) → cells_from (cells_of ps) ≡ cells_of (from_run ps)
pieces_from_run [] = refl
pieces_from_run (delimiter_run mark len first o c ∷ ps) = refl
pieces_from_run (finished xs ∷ ps) = sealed_from (tokens xs) (cells_of ps) ∙ pieces_from_run ps
pieces_from_run (open_bracket i a b ∷ ps) = pieces_from_run ps

-- nodes without a run
abbrev pub NoRuns : List Node → Type 0
NoRuns [] = Unit {0}
NoRuns (n ∷ ns) = (run_at (Some n) ≡ None) × NoRuns ns

no_runs_more : (ms : List Node) (n : Node) → NoRuns ms → run_at (Some n) ≡ None → NoRuns (ms ++ n ∷ [])
no_runs_more [] n h e = (e, tt)
no_runs_more (m ∷ ms) n h e = (h.0, no_runs_more ms n h.1 e)

node_before : (t : List ℕ) (n : Node) (cs : List Cell) → run_at (Some n) ≡ None → cells_before (cells_at t n ++ cs) ≡ cells_at t n ++ cells_before cs
node_before t (node.Run r) cs e = absurd cc
node_before t (node.Words s) cs e = sealed_before (word_tokens s.now) cs
node_before t n cs e = refl

node_from : (t : List ℕ) (n : Node) (cs : List Cell) → run_at (Some n) ≡ None → cells_from (cells_at t n ++ cs) ≡ cells_from cs
node_from t (node.Run r) cs e = absurd cc
node_from t (node.Words s) cs e = sealed_from (word_tokens s.now) cs
node_from t n cs e = refl

nodes_before : (t : List ℕ) (ns : List Node) (cs : List Cell) → NoRuns ns → cells_before (cells t ns ++ cs) ≡ cells t ns ++ cells_before cs
nodes_before t [] cs h = refl
nodes_before t (n ∷ ns) cs h =
    ap cells_before (append_assoc (cells_at t n) (cells t ns) cs) ∙ node_before t n (cells t ns ++ cs) h.0 ∙ ap (λ (ds : List Cell). cells_at t n ++ ds) (nodes_before t ns cs h.1) ∙ sym (append_assoc (cells_at t n) (cells t ns) (cells_before cs))

nodes_from : (t : List ℕ) (ns : List Node) (cs : List Cell) → NoRuns ns → cells_from (cells t ns ++ cs) ≡ cells_from cs
nodes_from t [] cs h = refl
nodes_from t (n ∷ ns) cs h = ap cells_from (append_assoc (cells_at t n) (cells t ns) cs) ∙ node_from t n (cells t ns ++ cs) h.0 ∙ nodes_from t ns cs h.1

pub record HeadRun (r : Run) (ps : List Piece) (cs : List Cell) : Type 0 where
  pub rest : List Piece
  pub split : from_run ps ≡ piece_of_run r ∷ rest
  pub shown : cs ≡ cells_of rest

abbrev run_cell_of : Run → Cell
run_cell_of r = run_cell (mark_byte r.mark) r.len r.first r.opens r.closes

head_run : (r : Run) (ps : List Piece) (cs : List Cell) → run_cell_of r ∷ cs ≡ cells_of (from_run ps) → HeadRun r ps cs
head_run r [] cs h = absurd cc
head_run r (delimiter_run mark len first o c ∷ ps) cs h =
    let same : run_cell_of r ≡ run_cell mark len first o c = cc in
    let tail : cs ≡ cells_of ps = cc in
    let piece : delimiter_run mark len first o c ≡ piece_of_run r = cc in
    record { rest = ps; split = ap (λ (p : Piece). p ∷ ps) piece; shown = tail }
head_run r (finished xs ∷ ps) cs h = let w = head_run r ps cs h in record { rest = w.rest; split = w.split; shown = w.shown }
head_run r (open_bracket i a b ∷ ps) cs h = let w = head_run r ps cs h in record { rest = w.rest; split = w.split; shown = w.shown }

no_head : (ps : List Piece) → [] ≡ cells_of (from_run ps) → from_run ps ≡ []
no_head [] h = refl
no_head (delimiter_run mark len first o c ∷ ps) h = absurd cc
no_head (finished xs ∷ ps) h = no_head ps h
no_head (open_bracket i a b ∷ ps) h = no_head ps h

-- pieces that are no run close nothing
settled_before : (cur rest : List Piece) → Settled cur → Settled (cur ++ before_run rest)
settled_before cur [] h = subst Settled (sym (append-nil cur)) h
settled_before cur (delimiter_run mark len first o c ∷ ps) h = subst Settled (sym (append-nil cur)) h
settled_before cur (finished xs ∷ ps) h = subst Settled (append_assoc cur (finished xs ∷ []) (before_run ps)) (settled_before (cur ++ finished xs ∷ []) ps (is_step cur (finished xs) [] h))
settled_before cur (open_bracket i a b ∷ ps) h = subst Settled (append_assoc cur (open_bracket i a b ∷ []) (before_run ps)) (settled_before (cur ++ open_bracket i a b ∷ []) ps (is_step cur (open_bracket i a b) [] h))

-- ---- one run

-- what a run makes of the pieces before it, and how the nodes have it
pub record Turn (t : List ℕ) (front : List Node) (before : List Node) (r : Run) (behind : List Node) (cur rest : List Piece) : Type 0 where
  pub done : List Node
  pub left : List Node
  pub pieces : List Piece
  pub more : List Piece
  pub made : pair_at (length front) (length front + length before) (front ++ (before ++ node.Run r ∷ behind)) ≡ front ++ (done ++ left)
  pub far : length done ≡ suc (length before)
  pub size : length left ≡ length behind
  pub shown : cells t done ≡ cells_of pieces
  pub ahead : cells t left ≡ cells_of more
  pub slots : waiting 0 (done ++ left) ≡ Some 0
  pub settled : Settled pieces
  pub same : pairs (cur ++ piece_of_run r ∷ rest) ≡ pairs (pieces ++ more)

-- it is not paired
unpaired : (t : List ℕ) (front before : List Node) (r : Run) (behind : List Node) (cur rest : List Piece) → cells t before ≡ cells_of cur → cells t behind ≡ cells_of rest → waiting 0 (before ++ node.Run r ∷ behind) ≡ Some 0 → Settled cur
    → pair_with cur (piece_of_run r) ≡ None → pair_at (length front) (length front + length before) (front ++ (before ++ node.Run r ∷ behind)) ≡ front ++ (before ++ node.Run r ∷ behind) → Turn t front before r behind cur rest
unpaired t front before r behind cur rest b d s h none same = record {
  done = before ++ node.Run r ∷ [];
  left = behind;
  pieces = cur ++ piece_of_run r ∷ [];
  more = rest;
  made = same ∙ ap (λ (xs : List Node). front ++ xs) (sym (append_assoc before (node.Run r ∷ []) behind));
  far = omega (arith, length-append before (node.Run r ∷ []));
  size = refl;
  shown = cells-append t before (node.Run r ∷ []) ∙ ap (λ (cs : List Cell). cs ++ run_cell_of r ∷ []) b ∙ sym (cells_of-append cur (piece_of_run r ∷ []));
  ahead = d;
  slots = ap (waiting 0) (append_assoc before (node.Run r ∷ []) behind) ∙ s;
  settled = subst (λ (o : Option (List Piece × List Piece)). StepOf o cur (piece_of_run r) rest) none (is_step cur (piece_of_run r) rest h);
  same = ap pairs (sym (append_assoc cur (piece_of_run r ∷ []) rest));
}

pub strength_some : (m n : ℕ) → 1 ≤ strength m n
strength_some m n = go (nat_lt 1 m && nat_lt 1 n) where
  go : (b : Bool) → 1 ≤ cond b 2 1
  go true = omega arith
  go false = omega arith

stressed_cells : (k : ℕ) (body : Inlines) → cells_in (stressed k body) ≡ sealed (open_token k) ∷ (map sealed (tokens body) ++ sealed (close_token k) ∷ [])
stressed_cells k body = go (k == 2) where
  go : (b : Bool) → cells_in (finished (cond b (strong body no_inlines) (emphasis body no_inlines))) ≡ sealed (cond b open_strong open_emphasis) ∷ (map sealed (tokens body) ++ sealed (cond b close_strong close_emphasis) ∷ [])
  go true = ap (λ (cs : List Cell). sealed open_strong ∷ cs) (map-append sealed (tokens body) (close_strong ∷ []))
  go false = ap (λ (cs : List Cell). sealed open_emphasis ∷ cs) (map-append sealed (tokens body) (close_emphasis ∷ []))

piece_is : (p : Piece) (r : Run) → cell_in p ≡ run_cell_of r → p ≡ piece_of_run r
piece_is (finished xs) r h = absurd cc
piece_is (delimiter_run mark len first o c) r h = cc
piece_is (open_bracket i a b) r h = absurd cc

-- the opener among the pieces
pub record OpenerOf (q : Piece → Bool) (cur : List Piece) (front : List Cell) (r : Run) (inside : List Cell) : Type 0 where
  pub found : Found
  pub last : last_that q cur ≡ Some found
  pub before : front ≡ cells_of found.0
  pub piece : found.1 ≡ piece_of_run r
  pub within : inside ≡ cells_of found.2

abbrev some_cells : FoundCell → Option FoundCell
some_cells f = Some f

opener_of : (q : Piece → Bool) (cur : List Piece) (front : List Cell) (r : Run) (inside : List Cell) → option_map cells_found (last_that q cur) ≡ Some (front, run_cell_of r, inside) → OpenerOf q cur front r inside
opener_of q cur front r inside h = go (last_that q cur) refl h where
  go : (o : Option Found) → last_that q cur ≡ o → option_map cells_found o ≡ Some (front, run_cell_of r, inside) → OpenerOf q cur front r inside
  go None e k = absurd cc
  go (Some f) e k =
      let m : some_cells (cells_found f) ≡ some_cells (front, run_cell_of r, inside) = k in
      let same : cells_found f ≡ (front, run_cell_of r, inside) = cc in
      record {
        found = f;
        last = e;
        before = sym (ap (λ (x : FoundCell). x.0) same);
        piece = piece_is f.1 r (ap (λ (x : FoundCell). x.1) same);
        within = sym (ap (λ (x : FoundCell). x.2) same);
      }

no_opener : (q : Piece → Bool) (cur : List Piece) → option_map cells_found (last_that q cur) ≡ None → last_that q cur ≡ None
no_opener q cur h = go (last_that q cur) h where
  go : (o : Option Found) → option_map cells_found o ≡ None → o ≡ None
  go None e = refl
  go (Some f) e = absurd cc

abbrev closer_of : Run → Bool → Piece
closer_of r c = delimiter_run (mark_byte r.mark) r.len r.first r.opens c

abbrev made_with : Found → Run → Piece → Bool → List Piece × List Piece
made_with f r p c = (f.0 ++ (shorten (strength (len_of p) r.len) p ++ stressed (strength (len_of p) r.len) (plain f.2) ∷ []), shorten (strength (len_of p) r.len) (closer_of r c))

abbrev some_made : List Piece × List Piece → Option (List Piece × List Piece)
some_made m = Some m

pairs_as : (cur : List Piece) (r o : Run) (f : Found) → r.closes ≡ true → last_that (opens_for (mark_byte r.mark) r.first r.opens) cur ≡ Some f → f.1 ≡ piece_of_run o → pair_with cur (piece_of_run r) ≡ some_made (made_with f r (piece_of_run o) r.closes)
pairs_as cur r o f e l g =
    ap (λ (c : Bool). pair_with cur (closer_of r c)) e ∙ ap (paired r.len (closer_of r true)) l ∙ ap (λ (p : Piece). some_made (made_with f r p true)) g ∙ ap (λ (c : Bool). some_made (made_with f r (piece_of_run o) c)) (sym e)

not_paired : (cur : List Piece) (r : Run) → last_that (opens_for (mark_byte r.mark) r.first r.opens) cur ≡ None → pair_with cur (piece_of_run r) ≡ None
not_paired cur r l = go r.closes where
  go : (c : Bool) → pair_with cur (closer_of r c) ≡ None
  go true = ap (paired r.len (closer_of r true)) l
  go false = refl

closes_not : (cur : List Piece) (r : Run) → r.closes ≡ false → pair_with cur (piece_of_run r) ≡ None
closes_not cur r e = ap (λ (c : Bool). pair_with cur (closer_of r c)) e

-- ---- the nodes of a pair

pub pair_made : (t : List ℕ) (xs : List Node) (o : Run) (inside : List Node) (r : Run) (behind : List Node) (k place end : ℕ) (op : Opened t k o inside) (cl : Closed t k r behind) → place ≡ length xs → end ≡ suc (length xs + length inside)
    → open_nodes place o k (close_nodes end r k (change_between Freeze (suc place) end (xs ++ node.Run o ∷ (inside ++ node.Run r ∷ behind)))) ≡ xs ++ (op.nodes ++ close_node k ∷ cl.rest)
pair_made t xs o inside r behind k place end op cl e f =
    let fs = map (changed Freeze) inside in
    let start = xs ++ node.Run o ∷ fs in
    let size : end ≡ length start = omega (arith, f, length-append xs (node.Run o ∷ fs), length-map inside (changed Freeze)) in
    ap (λ (zs : List Node). open_nodes place o k (close_nodes end r k zs))
    (change_behind Freeze xs (node.Run o) inside (node.Run r ∷ behind) (suc place) end (omega (arith, e)) f ∙ sym (append_assoc xs (node.Run o ∷ fs) (node.Run r ∷ behind)))
    ∙ ap (λ (zs : List Node). open_nodes place o k zs) (cl.made start end size ∙ append_assoc xs (node.Run o ∷ fs) (close_node k ∷ cl.rest))
    ∙ op.made xs (close_node k ∷ cl.rest) place e

paired_cells : (t : List ℕ) (front : List Node) (k : ℕ) (o : Run) (inside : List Node) (op : Opened t k o inside) (f : Found) → cells t front ≡ cells_of f.0 → cells t inside ≡ cells_of f.2
    → cells t (front ++ (op.nodes ++ close_node k ∷ [])) ≡ cells_of (f.0 ++ (shorten k (piece_of_run o) ++ stressed k (plain f.2) ∷ []))
paired_cells t front k o inside op f a b =
    let body : plain_tokens (cells t inside) ≡ tokens (plain f.2) = ap plain_tokens b ∙ plain_is f.2 in
    let short = cells_of (shorten k (piece_of_run o)) in
    cells-append t front (op.nodes ++ close_node k ∷ [])
    ∙ ap (λ (cs : List Cell). cs ++ cells t (op.nodes ++ close_node k ∷ [])) a
    ∙ ap (λ (cs : List Cell). cells_of f.0 ++ cs)
    (cells-append t op.nodes (close_node k ∷ []) ∙ ap (λ (cs : List Cell). cs ++ cells t (close_node k ∷ [])) op.shown
    ∙ ap (λ (cs : List Cell). (short ++ sealed (open_token k) ∷ map sealed (plain_tokens (cells t inside))) ++ (cs ++ [])) (close_cells t k)
    ∙ ap (λ (ts : List Token). (short ++ sealed (open_token k) ∷ map sealed ts) ++ sealed (close_token k) ∷ []) body
    ∙ append_assoc short (sealed (open_token k) ∷ map sealed (tokens (plain f.2))) (sealed (close_token k) ∷ [])
    ∙ ap (λ (cs : List Cell). short ++ cs) (sym (append-nil (cells_in (stressed k (plain f.2))) ∙ stressed_cells k (plain f.2)))
    ∙ sym (cells_of-append (shorten k (piece_of_run o)) (stressed k (plain f.2) ∷ [])))
    ∙ sym (cells_of-append f.0 (shorten k (piece_of_run o) ++ stressed k (plain f.2) ∷ []))

pub record Between (before : List Node) (j : ℕ) (o : Run) : Type 0 where
  pub front : List Node
  pub inside : List Node
  pub split : before ≡ front ++ node.Run o ∷ inside
  pub size : length front ≡ j

pairing : (t : List ℕ) (front : List Node) (j : ℕ) (o : Run) (a inside : List Node) (r : Run) (behind : List Node) (cur rest : List Piece) → r.closes ≡ true → length a ≡ j
    → OpenerOf (opens_for (mark_byte r.mark) r.first r.opens) cur (cells t a) o (cells t inside) → cells t behind ≡ cells_of rest → waiting 0 (a ++ node.Run o ∷ (inside ++ node.Run r ∷ behind)) ≡ Some 0 → Settled cur
    → pair_at (length front) (length front + length (a ++ node.Run o ∷ inside)) (front ++ ((a ++ node.Run o ∷ inside) ++ node.Run r ∷ behind)) ≡ pair_nodes (length front + j) o (length front + length (a ++ node.Run o ∷ inside)) r (front ++ ((a ++ node.Run o ∷ inside) ++ node.Run r ∷ behind))
    → Turn t front (a ++ node.Run o ∷ inside) r behind cur rest
pairing t front j o a inside r behind cur rest cl n w b s h made =
    let k = strength o.len r.len in
    let some = strength_some o.len r.len in
    let outer = run_start 0 a (inside ++ node.Run r ∷ behind) o s in
    let inner = run_start (o.len - 1) inside behind r outer.1 in
    let op = opened t k o inside some inner.0 in
    let cd = closed t k r behind some inner.1 in
    let ns = front ++ ((a ++ node.Run o ∷ inside) ++ node.Run r ∷ behind) in
    let whole : ns ≡ (front ++ a) ++ node.Run o ∷ (inside ++ node.Run r ∷ behind) = simp append_assoc in
    let place : length front + j ≡ length (front ++ a) = omega (arith, length-append front a, n) in
    let end : length front + length (a ++ node.Run o ∷ inside) ≡ suc (length (front ++ a) + length inside) = omega (arith, length-append front a, length-append a (node.Run o ∷ inside)) in
    let pieces = pairs_as cur r o w.found cl w.last w.piece in
    let step : StepOf (some_made (made_with w.found r (piece_of_run o) r.closes)) cur (piece_of_run r) rest = subst (λ (x : Option (List Piece × List Piece)). StepOf x cur (piece_of_run r) rest) pieces (is_step cur (piece_of_run r) rest h) in
    record {
      done = a ++ (op.nodes ++ close_node k ∷ []);
      left = cd.rest;
      pieces = w.found.0 ++ (shorten k (piece_of_run o) ++ stressed k (plain w.found.2) ∷ []);
      more = shorten k (piece_of_run r) ++ rest;
      made =
          made ∙ ap (pair_nodes (length front + j) o (length front + length (a ++ node.Run o ∷ inside)) r) whole
          ∙ pair_made t (front ++ a) o inside r behind k (length front + j) (length front + length (a ++ node.Run o ∷ inside)) op cd place end
          ∙ simp append_assoc;
      far = omega (arith, length-append a (op.nodes ++ close_node k ∷ []), length-append op.nodes (close_node k ∷ []), op.size, length-append a (node.Run o ∷ inside));
      size = cd.size;
      shown = paired_cells t a k o inside op w.found w.before w.within;
      ahead = cd.shown ∙ ap (λ (cs : List Cell). cells_of (shorten k (piece_of_run r)) ++ cs) b ∙ sym (cells_of-append (shorten k (piece_of_run r)) rest);
      slots =
          (let flat : (a ++ (op.nodes ++ close_node k ∷ [])) ++ cd.rest ≡ a ++ (op.nodes ++ close_node k ∷ cd.rest) = simp append_assoc in ap (waiting 0) flat)
          ∙ waiting-append 0 a (op.nodes ++ close_node k ∷ cd.rest) ∙ ap (λ (x : Option ℕ). after x (op.nodes ++ close_node k ∷ cd.rest)) outer.0 ∙ op.slots (close_node k ∷ cd.rest)
          ∙ ap (λ (m : ℕ). waiting m cd.rest) (close_room k) ∙ cd.slots;
      settled = step.0;
      same = step.1;
    }

-- ---- what the step does at a run

opener_run : (mark first : ℕ) (opens : Bool) (n : Node) → is_sought (sought.Opener mark first opens) n ≡ true → (o : Run) × (n ≡ node.Run o)
opener_run mark first opens (node.Run o) h = (o, refl)
opener_run mark first opens n h = absurd cc

abbrev pub sought_by : Run → Node → Bool
sought_by r = is_sought (sought.Opener (mark_byte r.mark) r.first r.opens)

abbrev pub closed_at : ℕ → Option ℕ → ℕ → Run → List Node → Bool → List Node
closed_at start o end r ns b = cond b (pair_last start o end r ns) ns

pub step_is : (front before : List Node) (r : Run) (behind : List Node) → pair_at (length front) (length front + length before) (front ++ (before ++ node.Run r ∷ behind)) ≡ closed_at (length front) (last_place (sought_by r) before) (length front + length before) r (front ++ (before ++ node.Run r ∷ behind)) r.closes
step_is front before r behind =
    let start = length front in
    let end = length front + length before in
    let ns = front ++ (before ++ node.Run r ∷ behind) in
    let there : slice_get ns end ≡ Some (node.Run r) = ap (λ (zs : List Node). slice_get zs end) (sym (append_assoc front before (node.Run r ∷ behind))) ∙ get_there (front ++ before) (node.Run r) behind end (omega (arith, length-append front before)) in
    let size : end - start ≡ length before = omega arith in
    let part : take (end - start) (drop start ns) ≡ before = ap (take (end - start)) (drop-append_seam front (before ++ node.Run r ∷ behind)) ∙ ap (λ (k : ℕ). take k (before ++ node.Run r ∷ behind)) size ∙ take-append_seam before (node.Run r ∷ behind) in
    ap (λ (o : Option Node). pair_run start end (run_at o) ns) there ∙ ap (λ (xs : List Node). closed_at start (last_place (sought_by r) xs) end r ns r.closes) part

turn_none : (t : List ℕ) (front before : List Node) (r : Run) (behind : List Node) (cur rest : List Piece) → r.closes ≡ true → last_place (sought_by r) before ≡ None → last_cell (opener_test (mark_byte r.mark) r.first r.opens) (cells t before) ≡ None
    → cells t before ≡ cells_of cur → cells t behind ≡ cells_of rest → waiting 0 (before ++ node.Run r ∷ behind) ≡ Some 0 → Settled cur → Turn t front before r behind cur rest
turn_none t front before r behind cur rest cl l n b d s h =
    let q = opens_for (mark_byte r.mark) r.first r.opens in
    let qc = opener_test (mark_byte r.mark) r.first r.opens in
    let none : last_that q cur ≡ None = no_opener q cur (sym (last_pieces q qc (opener_matches (mark_byte r.mark) r.first r.opens) cur) ∙ ap (last_cell qc) (sym b) ∙ n) in
    let ns = front ++ (before ++ node.Run r ∷ behind) in
    unpaired t front before r behind cur rest b d s h (not_paired cur r none)
    (step_is front before r behind ∙ ap (closed_at (length front) (last_place (sought_by r) before) (length front + length before) r ns) cl ∙ ap (λ (o : Option ℕ). pair_last (length front) o (length front + length before) r ns) l)

turn_some : (t : List ℕ) (front before : List Node) (r : Run) (behind : List Node) (cur rest : List Piece) (j : ℕ) → r.closes ≡ true → last_place (sought_by r) before ≡ Some j → FoundAt t (sought_by r) (opener_test (mark_byte r.mark) r.first r.opens) j before
    → cells t before ≡ cells_of cur → cells t behind ≡ cells_of rest → waiting 0 (before ++ node.Run r ∷ behind) ≡ Some 0 → Settled cur → Turn t front before r behind cur rest
turn_some t front before r behind cur rest j cl l fa b d s h =
    let q = opens_for (mark_byte r.mark) r.first r.opens in
    let qc = opener_test (mark_byte r.mark) r.first r.opens in
    let o = opener_run (mark_byte r.mark) r.first r.opens fa.node fa.passes in
    let a = take j before in
    let inside = drop (suc j) before in
    let split : before ≡ a ++ node.Run o.0 ∷ inside = fa.split ∙ ap (λ (n : Node). a ++ n ∷ inside) o.1 in
    let lone : run_cell_of o.0 ∷ [] ≡ fa.cell ∷ [] = ap (cells_at t) (sym o.1) ∙ fa.single in
    let cell : fa.cell ≡ run_cell_of o.0 = cc in
    let found : option_map cells_found (last_that q cur) ≡ some_cells (cells t a, run_cell_of o.0, cells t inside) =
    sym (last_pieces q qc (opener_matches (mark_byte r.mark) r.first r.opens) cur) ∙ ap (last_cell qc) (sym b) ∙ fa.found ∙ ap (λ (x : Cell). some_cells (cells t a, x, cells t inside)) cell in
    let w = opener_of q cur (cells t a) o.0 (cells t inside) found in
    let start = length front in
    let end = length front + length (a ++ node.Run o.0 ∷ inside) in
    let ns = front ++ ((a ++ node.Run o.0 ∷ inside) ++ node.Run r ∷ behind) in
    let flat : (a ++ node.Run o.0 ∷ inside) ++ node.Run r ∷ behind ≡ a ++ node.Run o.0 ∷ (inside ++ node.Run r ∷ behind) = append_assoc a (node.Run o.0 ∷ inside) (node.Run r ∷ behind) in
    let at : slice_get ns (start + j) ≡ Some (node.Run o.0) =
    ap (λ (zs : List Node). slice_get (front ++ zs) (start + j)) flat ∙ ap (λ (zs : List Node). slice_get zs (start + j)) (sym (append_assoc front a (node.Run o.0 ∷ (inside ++ node.Run r ∷ behind))))
    ∙ get_there (front ++ a) (node.Run o.0) (inside ++ node.Run r ∷ behind) (start + j) (omega (arith, length-append front a, fa.size)) in
    let made : pair_at start end ns ≡ pair_nodes (start + j) o.0 end r ns =
    step_is front (a ++ node.Run o.0 ∷ inside) r behind ∙ ap (closed_at start (last_place (sought_by r) (a ++ node.Run o.0 ∷ inside)) end r ns) cl
    ∙ ap (λ (x : Option ℕ). pair_last start x end r ns) (ap (last_place (sought_by r)) (sym split) ∙ l) ∙ ap (λ (x : Option Node). pair_found (start + j) (run_at x) end r ns) at in
    let slots : waiting 0 (a ++ node.Run o.0 ∷ (inside ++ node.Run r ∷ behind)) ≡ Some 0 = ap (waiting 0) (sym flat ∙ ap (λ (zs : List Node). zs ++ node.Run r ∷ behind) (sym split)) ∙ s in
    subst (λ (zs : List Node). Turn t front zs r behind cur rest) (sym split) (pairing t front j o.0 a inside r behind cur rest cl fa.size w d slots h made)

turn : (t : List ℕ) (front before : List Node) (r : Run) (behind : List Node) (cur rest : List Piece) → cells t before ≡ cells_of cur → cells t behind ≡ cells_of rest → waiting 0 (before ++ node.Run r ∷ behind) ≡ Some 0 → Settled cur → Turn t front before r behind cur rest
turn t front before r behind cur rest b d s h = go r.closes refl (last_place (sought_by r) before) refl (last_nodes t (sought_by r) (opener_test (mark_byte r.mark) r.first r.opens) (opener_nodes t (mark_byte r.mark) r.first r.opens) before) where
  go : (c : Bool) → r.closes ≡ c → (o : Option ℕ) → last_place (sought_by r) before ≡ o → NodesCase t (sought_by r) (opener_test (mark_byte r.mark) r.first r.opens) before o → Turn t front before r behind cur rest
  go false e o l n = unpaired t front before r behind cur rest b d s h (closes_not cur r e) (step_is front before r behind ∙ ap (closed_at (length front) (last_place (sought_by r) before) (length front + length before) r (front ++ (before ++ node.Run r ∷ behind))) e)
  go true e None l n = turn_none t front before r behind cur rest e l n b d s h
  go true e (Some j) l n = turn_some t front before r behind cur rest j e l n b d s h

-- ---- one node after another

pub record Walked (t : List ℕ) (front ns : List Node) (place n : ℕ) (whole : List Piece) : Type 0 where
  pub nodes : List Node
  pub made : pair_from (length front) (length front + place) n (front ++ ns) ≡ front ++ nodes
  pub shown : plain_tokens (cells t nodes) ≡ tokens (pairs whole)

pub run_is : (n : Node) (r : Run) → run_at (Some n) ≡ Some r → n ≡ node.Run r
run_is (node.Run x) r h = let same : x ≡ r = cc in ap (λ (y : Run). node.Run y) same
run_is n r h = absurd cc

pub no_run_step : (front ns : List Node) (x : Node) (behind : List Node) (start place : ℕ) → place ≡ length (front ++ ns) → run_at (Some x) ≡ None → pair_at start place (front ++ (ns ++ x ∷ behind)) ≡ front ++ (ns ++ x ∷ behind)
no_run_step front ns x behind start place e h =
    let whole = front ++ (ns ++ x ∷ behind) in
    let there : slice_get whole place ≡ Some x = ap (λ (zs : List Node). slice_get zs place) (sym (append_assoc front ns (x ∷ behind))) ∙ get_there (front ++ ns) x behind place e in
    ap (λ (o : Option Node). pair_run start place (run_at o) whole) there ∙ ap (λ (o : Option Run). pair_run start place o whole) h

-- no run is left
pub all_plain : (t : List ℕ) (c s : List Node) (cur rest : List Piece) → cells t c ≡ cells_of cur → cells t s ≡ cells_of rest → NoRuns s → Settled cur → plain_tokens (cells t (c ++ s)) ≡ tokens (pairs (cur ++ rest))
all_plain t c s cur rest a b none h =
    let empty : [] ≡ cells_of (from_run rest) = sym (nodes_from t s [] none) ∙ ap cells_from (append-nil (cells t s) ∙ b) ∙ pieces_from_run rest in
    let whole : rest ≡ before_run rest = rejoined rest ∙ ap (λ (ps : List Piece). before_run rest ++ ps) (no_head rest empty) ∙ append-nil (before_run rest) in
    let settled : Settled (cur ++ rest) = subst (λ (ps : List Piece). Settled (cur ++ ps)) (sym whole) (settled_before cur rest h) in
    ap plain_tokens (cells-append t c s ∙ ap (λ (cs : List Cell). cs ++ cells t s) a ∙ ap (λ (cs : List Cell). cells_of cur ++ cs) b ∙ sym (cells_of-append cur rest)) ∙ plain_is (cur ++ rest) ∙ sym (ap tokens (pairs_end (cur ++ rest) settled))

pub walk : (n : ℕ) (t : List ℕ) (front c s r : List Node) (cur rest : List Piece) → length r ≡ n → cells t c ≡ cells_of cur → cells t (s ++ r) ≡ cells_of rest → NoRuns s → waiting 0 (c ++ (s ++ r)) ≡ Some 0 → Settled cur → Walked t front (c ++ (s ++ r)) (length c + length s) n (cur ++ rest)
walk zero t front c s [] cur rest len a b none slots h =
    let flat : s ++ [] ≡ s = append-nil s in
    record {
      nodes = c ++ (s ++ []);
      made = refl;
      shown = ap (λ (zs : List Node). plain_tokens (cells t (c ++ zs))) flat ∙ all_plain t c s cur rest a (ap (cells t) (sym flat) ∙ b) none h;
    }
walk zero t front c s (x ∷ r) cur rest len a b none slots h = absurd (omega (arith, len))
walk (suc n) t front c s [] cur rest len a b none slots h = absurd (omega (arith, len))
walk (suc n) t front c s (x ∷ r) cur rest len a b none slots h = go (run_at (Some x)) refl (walk n t front c (s ++ x ∷ []) r cur rest (omega (arith, len))) (λ d l ps qs e. walk n t front d [] l ps qs e) where
  start : ℕ
  start = length front

  Rest : List Node → List Node → List Piece → List Piece → Type 0
  Rest d l ps qs = length l ≡ n → cells t d ≡ cells_of ps → cells t l ≡ cells_of qs → Unit {0} → waiting 0 (d ++ l) ≡ Some 0 → Settled ps → Walked t front (d ++ l) (length d + 0) n (ps ++ qs)

  go : (o : Option Run) → run_at (Some x) ≡ o
      → (cells t c ≡ cells_of cur → cells t ((s ++ x ∷ []) ++ r) ≡ cells_of rest → NoRuns (s ++ x ∷ []) → waiting 0 (c ++ ((s ++ x ∷ []) ++ r)) ≡ Some 0 → Settled cur → Walked t front (c ++ ((s ++ x ∷ []) ++ r)) (length c + length (s ++ x ∷ [])) n (cur ++ rest))
      → ((d l : List Node) (ps qs : List Piece) → Rest d l ps qs)
      → Walked t front (c ++ (s ++ x ∷ r)) (length c + length s) (suc n) (cur ++ rest)
  go None e rec again =
      let flat : (s ++ x ∷ []) ++ r ≡ s ++ x ∷ r = append_assoc s (x ∷ []) r in
      let w = rec a (ap (cells t) flat ∙ b) (no_runs_more s x none e) (ap (λ (zs : List Node). waiting 0 (c ++ zs)) flat ∙ slots) h in
      let place : start + (length c + length s) + 1 ≡ start + (length c + length (s ++ x ∷ [])) = omega (arith, length-append s (x ∷ [])) in
      let deep : front ++ (c ++ (s ++ x ∷ r)) ≡ front ++ ((c ++ s) ++ x ∷ r) = ap (λ (zs : List Node). front ++ zs) (sym (append_assoc c s (x ∷ r))) in
      let same : pair_at start (start + (length c + length s)) (front ++ (c ++ (s ++ x ∷ r))) ≡ front ++ (c ++ (s ++ x ∷ r)) =
      ap (pair_at start (start + (length c + length s))) deep ∙ no_run_step front (c ++ s) x r start (start + (length c + length s)) (omega (arith, length-append front (c ++ s), length-append c s)) e ∙ sym deep in
      record {
        nodes = w.nodes;
        made = ap (pair_from start (start + (length c + length s) + 1) n) same ∙ ap (λ (k : ℕ). pair_from start k n (front ++ (c ++ (s ++ x ∷ r)))) place ∙ ap (λ (zs : List Node). pair_from start (start + (length c + length (s ++ x ∷ []))) n (front ++ (c ++ zs))) (sym flat) ∙ w.made;
        shown = w.shown;
      }
  go (Some rn) e rec again =
      let is = run_is x rn e in
      let shown : cells t s ++ (run_cell_of rn ∷ cells t r) ≡ cells_of rest = sym (ap (λ (y : Node). cells t (s ++ y ∷ r)) is ∙ cells-append t s (node.Run rn ∷ r)) ∙ b in
      let early : cells t s ≡ cells_of (before_run rest) = sym (append-nil (cells t s)) ∙ sym (nodes_before t s (run_cell_of rn ∷ cells t r) none) ∙ ap cells_before shown ∙ pieces_before rest in
      let late : run_cell_of rn ∷ cells t r ≡ cells_of (from_run rest) = sym (nodes_from t s (run_cell_of rn ∷ cells t r) none) ∙ ap cells_from shown ∙ pieces_from_run rest in
      let hd = head_run rn rest (cells t r) late in
      let flat : c ++ (s ++ x ∷ r) ≡ (c ++ s) ++ node.Run rn ∷ r = ap (λ (y : Node). c ++ (s ++ y ∷ r)) is ∙ sym (append_assoc c s (node.Run rn ∷ r)) in
      let cells_here : cells t (c ++ s) ≡ cells_of (cur ++ before_run rest) = cells-append t c s ∙ ap (λ (cs : List Cell). cs ++ cells t s) a ∙ ap (λ (cs : List Cell). cells_of cur ++ cs) early ∙ sym (cells_of-append cur (before_run rest)) in
      let tn = turn t front (c ++ s) rn r (cur ++ before_run rest) hd.rest cells_here hd.shown (ap (waiting 0) (sym flat) ∙ slots) (settled_before cur rest h) in
      let w = again tn.done tn.left tn.pieces tn.more (omega (arith, tn.size, len)) tn.shown tn.ahead tt tn.slots tn.settled in
      let place : start + (length c + length s) ≡ start + length (c ++ s) = omega (arith, length-append c s) in
      let next : start + (length c + length s) + 1 ≡ start + (length tn.done + 0) = omega (arith, tn.far, length-append c s) in
      let pieces : cur ++ rest ≡ (cur ++ before_run rest) ++ piece_of_run rn ∷ hd.rest = ap (λ (ps : List Piece). cur ++ ps) (rejoined rest) ∙ sym (append_assoc cur (before_run rest) (from_run rest)) ∙ ap (λ (ps : List Piece). (cur ++ before_run rest) ++ ps) hd.split in
      record {
        nodes = w.nodes;
        made =
            ap (λ (k : ℕ). pair_from start (start + (length c + length s) + 1) n (pair_at start k (front ++ (c ++ (s ++ x ∷ r))))) place
            ∙ ap (λ (zs : List Node). pair_from start (start + (length c + length s) + 1) n (pair_at start (start + length (c ++ s)) (front ++ zs))) flat
            ∙ ap (pair_from start (start + (length c + length s) + 1) n) tn.made ∙ ap (λ (k : ℕ). pair_from start k n (front ++ (tn.done ++ tn.left))) next ∙ w.made;
        shown = w.shown ∙ sym (ap tokens (ap pairs pieces ∙ tn.same));
      }
