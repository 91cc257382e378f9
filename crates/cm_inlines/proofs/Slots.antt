-- A pair in a list of nodes: what the opener and the closer leave in their places.
use Rattle.std.proofs.Common.{◌≡◌, ◌∙◌, Bool, List, None, Option, Some, [], ap, append_assoc, arith, cond, false, length, length-append, map, nat_lt, refl, replicate, slice_get, suc, sym, true, zero, ℕ, ◌++◌, ◌+◌, ◌-◌, ◌<◌, ◌==◌, ◌∷◌, ◌≤◌}
use Rattle.std.proofs.Math.ListN.{set}
use Rattle.std.proofs.lemmas.List.{length-map}
use Rattle.markdown_grammar.specs.Emphasis.{shorten}
use Rattle.markdown_grammar.specs.Pieces.{Piece, delimiter_run}
use Rattle.cm_inlines.specs.Cells.{Cell, cells_of, plain_tokens, run_cell, sealed}
use Rattle.cm_inlines.specs.Machine.{change_between, changed, close_node, close_nodes, open_node, open_nodes, shorter}
use Rattle.cm_inlines.specs.Nodes.{cells, cells_at}
use Rattle.cm_inlines.specs.States.{is_nothing, room, waiting}
use Rattle.cm_inlines.specs.Tokens.{Token, close_emphasis, close_strong, open_emphasis, open_strong}
use Rattle.cm_inlines.specs.declared.changes.Change.{Change}
use Rattle.cm_inlines.specs.declared.changes.Change.TheVariants.{Freeze}
use Rattle.cm_inlines.specs.declared.node.Node.{Node}
use Rattle.cm_inlines.specs.declared.node.Run.{Run}
use Rattle.cm_inlines.specs.declared.node.Node.TheVariants as node
use Rattle.cm_inlines.specs.Places.{is_live, places}
use Rattle.cm_inlines.proofs.CellLaws.{frozen}
use Rattle.cm_spans.specs.Pieces.{mark_byte}
use Rattle.cm_inlines.proofs.PlaceLaws.{frozen_live, places_away}

-- ---- places that wait for nothing

abbrev pub after : Option ℕ → List Node → Option ℕ
after (Some m) ns = waiting m ns
after None ns = None

pub waiting-append : (k : ℕ) (ms ns : List Node) → waiting k (ms ++ ns) ≡ after (waiting k ms) ns
waiting-append k [] ns = refl
waiting-append zero (m ∷ ms) ns = waiting-append (room m) ms ns
waiting-append (suc k) (m ∷ ms) ns = go (is_nothing m) (waiting-append k ms ns) where
  go : (b : Bool) → waiting k (ms ++ ns) ≡ after (waiting k ms) ns → elim b as (λ x. Option ℕ) [ true ↦ waiting k (ms ++ ns) | false ↦ None ] ≡ after (elim b as (λ x. Option ℕ) [ true ↦ waiting k ms | false ↦ None ]) ns
  go true h = h
  go false h = refl

pub run_start : (k : ℕ) (ms ns : List Node) (r : Run) → waiting k (ms ++ node.Run r ∷ ns) ≡ Some 0 → (waiting k ms ≡ Some 0) × (waiting (r.len - 1) ns ≡ Some 0)
run_start k ms ns r h = go (waiting k ms) refl (sym (waiting-append k ms (node.Run r ∷ ns)) ∙ h) where
  go : (o : Option ℕ) → waiting k ms ≡ o → after o (node.Run r ∷ ns) ≡ Some 0 → (waiting k ms ≡ Some 0) × (waiting (r.len - 1) ns ≡ Some 0)
  go (Some zero) e f = (e, f)
  go (Some (suc m)) e f = absurd cc
  go None e f = absurd cc

nothing_is : (n : Node) → is_nothing n ≡ true → n ≡ node.Nothing
nothing_is node.Nothing h = refl
nothing_is n h = absurd cc

abbrev pub gaps : ℕ → List Node
gaps m = replicate m node.Nothing

pub nothings : (m : ℕ) (ns : List Node) → waiting m ns ≡ Some 0 → (rest : List Node) × (ns ≡ gaps m ++ rest) × (waiting 0 rest ≡ Some 0)
nothings zero ns h = (ns, refl, h)
nothings (suc m) [] h = absurd cc
nothings (suc m) (n ∷ ns) h = go (is_nothing n) refl h (nothings m ns) where
  go : (b : Bool) → is_nothing n ≡ b → elim b as (λ x. Option ℕ) [ true ↦ waiting m ns | false ↦ None ] ≡ Some 0 → (waiting m ns ≡ Some 0 → (rest : List Node) × (ns ≡ gaps m ++ rest) × (waiting 0 rest ≡ Some 0))
      → (rest : List Node) × (n ∷ ns ≡ node.Nothing ∷ (gaps m ++ rest)) × (waiting 0 rest ≡ Some 0)
  go true e k rec = let r = rec k in (r.0, ap (λ (x : Node). x ∷ ns) (nothing_is n e) ∙ ap (λ (xs : List Node). node.Nothing ∷ xs) r.1, r.2)
  go false e k rec = absurd cc

pub waiting_gaps : (m q : ℕ) (ns : List Node) → m ≤ q → waiting m (gaps q ++ ns) ≡ waiting 0 ns
waiting_gaps zero zero ns h = refl
waiting_gaps (suc m) zero ns h = absurd (omega (arith, h))
waiting_gaps zero (suc q) ns h = waiting_gaps zero q ns (omega arith)
waiting_gaps (suc m) (suc q) ns h = waiting_gaps m q ns (omega (arith, h))

no_room : (n : Node) → room (changed Freeze n) ≡ 0
no_room (node.Run r) = refl
no_room (node.Opening o) = refl
no_room n = refl

pub waiting_frozen : (ms ns : List Node) → waiting 0 (map (changed Freeze) ms ++ ns) ≡ waiting 0 ns
waiting_frozen [] ns = refl
waiting_frozen (m ∷ ms) ns = ap (λ (k : ℕ). waiting k (map (changed Freeze) ms ++ ns)) (no_room m) ∙ waiting_frozen ms ns

pub cells_gaps : (t : List ℕ) (m : ℕ) (ns : List Node) → cells t (gaps m ++ ns) ≡ cells t ns
cells_gaps t zero ns = refl
cells_gaps t (suc m) ns = cells_gaps t m ns

frozen_gaps : (m : ℕ) (ns : List Node) → map (changed Freeze) (gaps m ++ ns) ≡ gaps m ++ map (changed Freeze) ns
frozen_gaps zero ns = refl
frozen_gaps (suc m) ns = ap (λ (xs : List Node). node.Nothing ∷ xs) (frozen_gaps m ns)

gaps_split : (a b : ℕ) (ns : List Node) → gaps (a + suc b) ++ ns ≡ gaps a ++ node.Nothing ∷ (gaps b ++ ns)
gaps_split zero b ns = let e : 0 + suc b ≡ suc b = omega arith in ap (λ (k : ℕ). gaps k ++ ns) e
gaps_split (suc a) b ns = let e : suc a + suc b ≡ suc (a + suc b) = omega arith in ap (λ (k : ℕ). gaps k ++ ns) e ∙ ap (λ (xs : List Node). node.Nothing ∷ xs) (gaps_split a b ns)

length_gaps : (m : ℕ) → length (gaps m) ≡ m
length_gaps zero = refl
length_gaps (suc m) = ap (λ (x : ℕ). suc x) (length_gaps m)

-- ---- a node put at a place

pub set_there : (xs : List Node) (y : Node) (ys : List Node) (a : Node) (place : ℕ) → place ≡ length xs → set (xs ++ y ∷ ys) place a ≡ xs ++ a ∷ ys
set_there [] y ys a place e = ap (λ (k : ℕ). set (y ∷ ys) k a) e
set_there (x ∷ xs) y ys a place e = ap (λ (k : ℕ). set (x ∷ (xs ++ y ∷ ys)) k a) e ∙ ap (λ (zs : List Node). x ∷ zs) (set_there xs y ys a (length xs) refl)

pub get_there : (xs : List Node) (y : Node) (ys : List Node) (place : ℕ) → place ≡ length xs → slice_get (xs ++ y ∷ ys) place ≡ Some y
get_there [] y ys place e = ap (slice_get (y ∷ ys)) e
get_there (x ∷ xs) y ys place e = ap (slice_get (x ∷ (xs ++ y ∷ ys))) e ∙ get_there xs y ys (length xs) refl

change_front : (how : Change) (ms ns : List Node) (to : ℕ) → to ≡ length ms → change_between how 0 to (ms ++ ns) ≡ map (changed how) ms ++ ns
change_front how [] [] to e = refl
change_front how [] (n ∷ ns) to e = ap (λ (k : ℕ). change_between how 0 k (n ∷ ns)) e
change_front how (m ∷ ms) ns to e = ap (λ (k : ℕ). change_between how 0 k (m ∷ (ms ++ ns))) e ∙ ap (λ (xs : List Node). changed how m ∷ xs) (change_front how ms ns (length ms) refl)

pub change_all_front : (how : Change) (ms ns : List Node) (to : ℕ) → to ≡ length ms → change_between how 0 to (ms ++ ns) ≡ map (changed how) ms ++ ns
change_all_front = change_front

pub change_behind : (how : Change) (xs : List Node) (n : Node) (ms ns : List Node) (from to : ℕ) → from ≡ suc (length xs) → to ≡ suc (length xs + length ms) → change_between how from to (xs ++ n ∷ (ms ++ ns)) ≡ xs ++ n ∷ (map (changed how) ms ++ ns)
change_behind how [] n ms ns from to e f =
    let g : to ≡ suc (length ms) = omega (arith, f) in
    ap (λ (k : ℕ). change_between how k to (n ∷ (ms ++ ns))) e ∙ ap (λ (k : ℕ). change_between how 1 k (n ∷ (ms ++ ns))) g ∙ ap (λ (zs : List Node). n ∷ zs) (change_front how ms ns (length ms) refl)
change_behind how (x ∷ xs) n ms ns from to e f =
    let g : to ≡ suc (suc (length xs + length ms)) = omega (arith, f) in
    ap (λ (k : ℕ). change_between how k to (x ∷ (xs ++ n ∷ (ms ++ ns)))) e ∙ ap (λ (k : ℕ). change_between how (suc (suc (length xs))) k (x ∷ (xs ++ n ∷ (ms ++ ns)))) g
    ∙ ap (λ (zs : List Node). x ∷ zs) (change_behind how xs n ms ns (suc (length xs)) (suc (length xs + length ms)) refl refl)

-- ---- what opens and closes

abbrev pub open_token : ℕ → Token
open_token k = cond (k == 2) open_strong open_emphasis

abbrev pub close_token : ℕ → Token
close_token k = cond (k == 2) close_strong close_emphasis

pub open_cells : (t : List ℕ) (k : ℕ) → cells_at t (open_node k) ≡ sealed (open_token k) ∷ []
open_cells t k = go (k == 2) where
  go : (b : Bool) → cells_at t (cond b node.OpenStrong node.OpenEmphasis) ≡ sealed (cond b open_strong open_emphasis) ∷ []
  go true = refl
  go false = refl

pub close_cells : (t : List ℕ) (k : ℕ) → cells_at t (close_node k) ≡ sealed (close_token k) ∷ []
close_cells t k = go (k == 2) where
  go : (b : Bool) → cells_at t (cond b node.CloseStrong node.CloseEmphasis) ≡ sealed (cond b close_strong close_emphasis) ∷ []
  go true = refl
  go false = refl

open_room : (k : ℕ) → room (open_node k) ≡ 0
open_room k = go (k == 2) where
  go : (b : Bool) → room (cond b node.OpenStrong node.OpenEmphasis) ≡ 0
  go true = refl
  go false = refl

pub close_room : (k : ℕ) → room (close_node k) ≡ 0
close_room k = go (k == 2) where
  go : (b : Bool) → room (cond b node.CloseStrong node.CloseEmphasis) ≡ 0
  go true = refl
  go false = refl

abbrev pub piece_of_run : Run → Piece
piece_of_run r = delimiter_run (mark_byte r.mark) r.len r.first r.opens r.closes

-- ---- which of them are listed

-- the place of a run that has marks left
abbrev pub only : Bool → ℕ → List ℕ
only true at = at ∷ []
only false at = []

places_gaps : (m at : ℕ) (ns : List Node) → places is_live at (gaps m ++ ns) ≡ places is_live (at + m) ns
places_gaps zero at ns = let e : at ≡ at + 0 = omega arith in ap (λ (k : ℕ). places is_live k ns) e
places_gaps (suc m) at ns = let e : at + 1 + m ≡ at + suc m = omega arith in places_gaps m (at + 1) ns ∙ ap (λ (k : ℕ). places is_live k ns) e

places_frozen : (at : ℕ) (ns : List Node) → places is_live at (map (changed Freeze) ns) ≡ []
places_frozen at ns = places_away is_live (changed Freeze) frozen_live at ns

live_open : (k at : ℕ) (ns : List Node) → places is_live at (open_node k ∷ ns) ≡ places is_live (at + 1) ns
live_open k at ns = go (k == 2) where
  go : (b : Bool) → places is_live at (cond b node.OpenStrong node.OpenEmphasis ∷ ns) ≡ places is_live (at + 1) ns
  go true = refl
  go false = refl

pub live_close : (k at : ℕ) (ns : List Node) → places is_live at (close_node k ∷ ns) ≡ places is_live (at + 1) ns
live_close k at ns = go (k == 2) where
  go : (b : Bool) → places is_live at (cond b node.CloseStrong node.CloseEmphasis ∷ ns) ≡ places is_live (at + 1) ns
  go true = refl
  go false = refl

-- ---- the closer

pub record Closed (t : List ℕ) (k : ℕ) (r : Run) (behind : List Node) : Type 0 where
  pub rest : List Node
  pub made : (xs : List Node) (place : ℕ) → place ≡ length xs → close_nodes place r k (xs ++ node.Run r ∷ behind) ≡ xs ++ close_node k ∷ rest
  pub shown : cells t rest ≡ cells_of (shorten k (piece_of_run r)) ++ cells t behind
  pub size : length rest ≡ length behind
  pub slots : waiting 0 rest ≡ Some 0
  pub listed : (at : ℕ) → places is_live at rest ≡ only (nat_lt k r.len) at ++ places is_live at behind

second : (xs : List Node) (m y : Node) (ys : List Node) (a : Node) (place : ℕ) → place ≡ length xs → set (xs ++ m ∷ (y ∷ ys)) (place + 1) a ≡ xs ++ m ∷ (a ∷ ys)
second xs m y ys a place e =
    let size : place + 1 ≡ length (xs ++ m ∷ []) = omega (arith, e, length-append xs (m ∷ [])) in
    ap (λ (zs : List Node). set zs (place + 1) a) (sym (append_assoc xs (m ∷ []) (y ∷ ys))) ∙ set_there (xs ++ m ∷ []) y ys a (place + 1) size ∙ append_assoc xs (m ∷ []) (a ∷ ys)

pub closed : (t : List ℕ) (k : ℕ) (r : Run) (behind : List Node) → 1 ≤ k → waiting (r.len - 1) behind ≡ Some 0 → Closed t k r behind
closed t k r behind some slots = go (nat_lt k r.len) refl (nothings (r.len - 1) behind slots) where
  go : (b : Bool) → nat_lt k r.len ≡ b → ((rest : List Node) × (behind ≡ gaps (r.len - 1) ++ rest) × (waiting 0 rest ≡ Some 0)) → Closed t k r behind
  go false e g = record {
    rest = behind;
    made = λ xs place f. ap (λ (b : Bool). cond b (set (set (xs ++ node.Run r ∷ behind) place (close_node k)) (place + 1) (shorter r k)) (set (xs ++ node.Run r ∷ behind) place (close_node k))) e ∙ set_there xs (node.Run r) behind (close_node k) place f;
    shown = sym (ap (λ (b : Bool). cells_of (cond b (delimiter_run (mark_byte r.mark) (r.len - k) r.first r.opens r.closes ∷ []) []) ++ cells t behind) e);
    size = refl;
    slots = ap (waiting 0) g.1 ∙ waiting_gaps 0 (r.len - 1) g.0 (omega arith) ∙ g.2;
    listed = λ at. sym (ap (λ (b : Bool). only b at ++ places is_live at behind) e);
  }
  go true e g =
      let lt : k < r.len = grind (arith, e) in
      let more : r.len - 1 ≡ suc (r.len - 2) = omega (arith, lt, some) in
      let tail = gaps (r.len - 2) ++ g.0 in
      let all : behind ≡ node.Nothing ∷ tail = g.1 ∙ ap (λ (m : ℕ). gaps m ++ g.0) more in
      record {
        rest = shorter r k ∷ tail;
        made = λ xs place f.
            ap (λ (b : Bool). cond b (set (set (xs ++ node.Run r ∷ behind) place (close_node k)) (place + 1) (shorter r k)) (set (xs ++ node.Run r ∷ behind) place (close_node k))) e
            ∙ ap (λ (zs : List Node). set zs (place + 1) (shorter r k)) (set_there xs (node.Run r) behind (close_node k) place f)
            ∙ ap (λ (zs : List Node). set (xs ++ close_node k ∷ zs) (place + 1) (shorter r k)) all
            ∙ second xs (close_node k) node.Nothing tail (shorter r k) place f;
        shown = ap (λ (zs : List Node). run_cell (mark_byte r.mark) (r.len - k) r.first r.opens r.closes ∷ cells t zs) (sym all) ∙ sym (ap (λ (b : Bool). cells_of (cond b (delimiter_run (mark_byte r.mark) (r.len - k) r.first r.opens r.closes ∷ []) []) ++ cells t behind) e);
        size = sym (ap (λ (zs : List Node). length zs) all);
        slots = waiting_gaps (r.len - k - 1) (r.len - 2) g.0 (omega (arith, some)) ∙ g.2;
        listed = λ at. ap (λ (zs : List Node). at ∷ places is_live at zs) (sym all) ∙ sym (ap (λ (b : Bool). only b at ++ places is_live at behind) e);
      }

-- ---- the opener

pub record Opened (t : List ℕ) (k : ℕ) (r : Run) (inside : List Node) : Type 0 where
  pub nodes : List Node
  pub made : (xs rest : List Node) (place : ℕ) → place ≡ length xs → open_nodes place r k (xs ++ node.Run r ∷ (map (changed Freeze) inside ++ rest)) ≡ xs ++ (nodes ++ rest)
  pub shown : cells t nodes ≡ cells_of (shorten k (piece_of_run r)) ++ sealed (open_token k) ∷ map sealed (plain_tokens (cells t inside))
  pub slots : (rest : List Node) → waiting 0 (nodes ++ rest) ≡ waiting 0 rest
  pub size : length nodes ≡ suc (length inside)
  pub listed : (at : ℕ) → places is_live at nodes ≡ only (nat_lt k r.len) at
  pub head : nat_lt k r.len ≡ true → (rest : List Node) → slice_get (nodes ++ rest) 0 ≡ Some (shorter r k)

pub opened : (t : List ℕ) (k : ℕ) (r : Run) (inside : List Node) → 1 ≤ k → waiting (r.len - 1) inside ≡ Some 0 → Opened t k r inside
opened t k r inside some slots = go (nat_lt k r.len) refl (nothings (r.len - 1) inside slots) where
  go : (b : Bool) → nat_lt k r.len ≡ b → ((rest : List Node) × (inside ≡ gaps (r.len - 1) ++ rest) × (waiting 0 rest ≡ Some 0)) → Opened t k r inside
  go false e g = record {
    nodes = open_node k ∷ map (changed Freeze) inside;
    made = λ xs rest place f.
        ap (λ (b : Bool). cond b (set (set (xs ++ node.Run r ∷ (map (changed Freeze) inside ++ rest)) place (shorter r k)) (place + (r.len - k)) (open_node k)) (set (xs ++ node.Run r ∷ (map (changed Freeze) inside ++ rest)) place (open_node k))) e
        ∙ set_there xs (node.Run r) (map (changed Freeze) inside ++ rest) (open_node k) place f;
    shown =
        ap (λ (cs : List Cell). cs ++ cells t (map (changed Freeze) inside)) (open_cells t k) ∙ ap (λ (cs : List Cell). sealed (open_token k) ∷ cs) (frozen t inside)
        ∙ sym (ap (λ (b : Bool). cells_of (cond b (delimiter_run (mark_byte r.mark) (r.len - k) r.first r.opens r.closes ∷ []) []) ++ sealed (open_token k) ∷ map sealed (plain_tokens (cells t inside))) e);
    slots = λ rest. ap (λ (m : ℕ). waiting m (map (changed Freeze) inside ++ rest)) (open_room k) ∙ waiting_frozen inside rest;
    size = ap (λ (x : ℕ). suc x) (length-map inside (changed Freeze));
    listed = λ at. live_open k at (map (changed Freeze) inside) ∙ places_frozen (at + 1) inside ∙ sym (ap (λ (b : Bool). only b at) e);
    head = λ h rest. absurd (let bad : true ≡ false = sym h ∙ e in cc);
  }
  go true e g =
      let lt : k < r.len = grind (arith, e) in
      let a = r.len - k - 1 in
      let b = k - 1 in
      let parts : r.len - 1 ≡ a + suc b = omega (arith, lt, some) in
      let tail = map (changed Freeze) g.0 in
      let all : (rest : List Node) → map (changed Freeze) inside ++ rest ≡ gaps a ++ node.Nothing ∷ (gaps b ++ (tail ++ rest)) =
      λ rest. ap (λ (zs : List Node). map (changed Freeze) zs ++ rest) g.1 ∙ ap (λ (zs : List Node). zs ++ rest) (frozen_gaps (r.len - 1) g.0) ∙ append_assoc (gaps (r.len - 1)) tail rest ∙ ap (λ (m : ℕ). gaps m ++ (tail ++ rest)) parts ∙ gaps_split a b (tail ++ rest) in
      let same : cells t inside ≡ cells t g.0 = ap (cells t) g.1 ∙ cells_gaps t (r.len - 1) g.0 in
      record {
        nodes = shorter r k ∷ (gaps a ++ open_node k ∷ (gaps b ++ tail));
        made = λ xs rest place f.
            let start = xs ++ shorter r k ∷ gaps a in
            let size : place + (r.len - k) ≡ length start = omega (arith, f, lt, length-append xs (shorter r k ∷ gaps a), length_gaps a) in
            ap (λ (b : Bool). cond b (set (set (xs ++ node.Run r ∷ (map (changed Freeze) inside ++ rest)) place (shorter r k)) (place + (r.len - k)) (open_node k)) (set (xs ++ node.Run r ∷ (map (changed Freeze) inside ++ rest)) place (open_node k))) e
            ∙ ap (λ (zs : List Node). set zs (place + (r.len - k)) (open_node k)) (set_there xs (node.Run r) (map (changed Freeze) inside ++ rest) (shorter r k) place f
            ∙ ap (λ (zs : List Node). xs ++ shorter r k ∷ zs) (all rest) ∙ sym (append_assoc xs (shorter r k ∷ gaps a) (node.Nothing ∷ (gaps b ++ (tail ++ rest)))))
            ∙ set_there start node.Nothing (gaps b ++ (tail ++ rest)) (open_node k) (place + (r.len - k)) size
            ∙ simp append_assoc;
        shown =
            ap (λ (cs : List Cell). run_cell (mark_byte r.mark) (r.len - k) r.first r.opens r.closes ∷ cs)
            (cells_gaps t a (open_node k ∷ (gaps b ++ tail)) ∙ ap (λ (cs : List Cell). cs ++ cells t (gaps b ++ tail)) (open_cells t k) ∙ ap (λ (cs : List Cell). sealed (open_token k) ∷ cs) (cells_gaps t b tail ∙ frozen t g.0 ∙ ap (λ (cs : List Cell). map sealed (plain_tokens cs)) (sym same)))
            ∙ sym (ap (λ (b : Bool). cells_of (cond b (delimiter_run (mark_byte r.mark) (r.len - k) r.first r.opens r.closes ∷ []) []) ++ sealed (open_token k) ∷ map sealed (plain_tokens (cells t inside))) e);
        slots = λ rest.
            ap (waiting a) (append_assoc (gaps a) (open_node k ∷ (gaps b ++ tail)) rest) ∙ waiting_gaps a a (open_node k ∷ ((gaps b ++ tail) ++ rest)) (omega arith)
            ∙ ap (λ (m : ℕ). waiting m ((gaps b ++ tail) ++ rest)) (open_room k) ∙ ap (waiting 0) (append_assoc (gaps b) tail rest) ∙ waiting_gaps 0 b (tail ++ rest) (omega arith) ∙ waiting_frozen g.0 rest;
        size = omega (arith, lt, some, length-append (gaps a) (open_node k ∷ (gaps b ++ tail)), length-append (gaps b) tail, length_gaps a, length_gaps b, length-map g.0 (changed Freeze), ap (λ (zs : List Node). length zs) g.1, length-append (gaps (r.len - 1)) g.0, length_gaps (r.len - 1));
        listed = λ at.
            ap (λ (ps : List ℕ). at ∷ ps) (places_gaps a (at + 1) (open_node k ∷ (gaps b ++ tail)) ∙ live_open k (at + 1 + a) (gaps b ++ tail) ∙ places_gaps b (at + 1 + a + 1) tail ∙ places_frozen (at + 1 + a + 1 + b) g.0)
            ∙ sym (ap (λ (x : Bool). only x at) e);
        head = λ h rest. refl;
      }
