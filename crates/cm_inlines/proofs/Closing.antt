-- A closing bracket in a list of nodes makes what the grammar makes of the pieces.
use Rattle.site_base.specs.declared.errors.Memory.{Memory}
use Rattle.std.proofs.Common.{Err, IfOk, IfSome, IsUtf8, Ok, Result, ◌≡◌, ◌∙◌, Bool, List, None, Option, Some, [], add-one, ap, append-nil, append_assoc, arith, cond, drop, false, length, length-append, map, option_map, refl, slice_get, subst, suc, sym, take, true, zero, ℕ, ◌&&◌, ◌++◌, ◌+◌, ◌-◌, ◌<◌, ◌∷◌, ◌≤◌}
use Rattle.std.specs.Str.{IsCharBoundary}
use Rattle.std.proofs.Math.ListN.{set}
use Rattle.std.proofs.lemmas.List.{length-drop, map-append}
use Rattle.std.proofs.lemmas.Str.{IsCharBoundary-from_rest, encode_ascii}
use Rattle.markdown_grammar.specs.Definitions.{Definition}
use Rattle.markdown_grammar.specs.Emphasis.{Found, last_that, pairs}
use Rattle.markdown_grammar.specs.Inlines.{image, link, no_inlines}
use Rattle.markdown_grammar.specs.Links as links
use Rattle.markdown_grammar.specs.Links.{bracket_piece, calmed, close_bracket, close_with, closing_text, is_bracket, linked, target_of, unlinked}
use Rattle.markdown_grammar.specs.Pieces.{Piece, delimiter_run, finished, open_bracket}
use Rattle.cm_inlines.specs.Cells.{Cell, bracket_cell, cells_in, cells_of, plain_tokens, run_cell, sealed}
use Rattle.cm_inlines.specs.Machine.{change_between, changed, is_sought, last_place, pair_from}
use Rattle.cm_inlines.specs.Nodes.{cells, cells_at}
use Rattle.cm_inlines.specs.Words.{word_tokens}
use Rattle.cm_inlines.specs.States.{Closes, IsPlaced, IsPlacedAt, Sound, is_nothing, room, waiting}
use Rattle.cm_inlines.specs.Steps.{closed_nodes, closed_with, closing_node, found_at, found_in, image_nodes, inside_paired, last_opening, link_nodes, opening_of, reached_by, taken_by, unlinked_nodes}
use Rattle.cm_inlines.specs.Targets.{reached_pair}
use Rattle.cm_inlines.specs.Tokens.{Token, close_image, close_link, open_image, open_link, text_token, tokens}
use Rattle.cm_inlines.specs.declared.changes.Change.TheVariants.{Calm, Freeze}
use Rattle.cm_inlines.specs.declared.node.Node.{Node}
use Rattle.cm_inlines.specs.declared.node.Opening.{Opening}
use Rattle.cm_inlines.specs.declared.node.Target as nodes
use Rattle.cm_inlines.specs.declared.node.Node.TheVariants as node
use Rattle.cm_inlines.specs.Machine as sought
use Rattle.cm_inlines.specs.declared.reading.Found as reading
use Rattle.cm_inlines.specs.declared.targets.Reached.{Reached}
use Rattle.cm_inlines.proofs.CellLaws.{FoundAt, FoundCell, NodesCase, bracket_matches, bracket_nodes, bracket_test, cell_in, cells-append, cells_found, cells_of-append, frozen, last_cell, last_nodes, last_pieces}
use Rattle.cm_inlines.proofs.Slots.{after, change_all_front, change_behind, set_there, waiting-append, waiting_frozen}
use Rattle.cm_inlines.proofs.TargetLaws.{behind_bracket}
use Rattle.cm_inlines.proofs.Walk.{walk}

-- ---- the last bracket among the nodes

pub record Last (t : List ℕ) (ns : List Node) (f : reading.Found) : Type 0 where
  pub front : List Node
  pub inside : List Node
  pub split : ns ≡ front ++ node.Opening f.opening ∷ inside
  pub size : length front ≡ f.place
  pub found : last_cell bracket_test (cells t ns) ≡ Some (cells t front, bracket_cell f.opening.is_image f.opening.is_active (drop f.opening.behind t), cells t inside)

opening_is : (n : Node) → is_sought sought.Bracket n ≡ true → (o : Opening) × (n ≡ node.Opening o)
opening_is (node.Opening o) h = (o, refl)
opening_is n h = absurd cc

abbrev some_found : reading.Found → Option reading.Found
some_found f = Some f

abbrev cell_of : List ℕ → Opening → Cell
cell_of t o = bracket_cell o.is_image o.is_active (drop o.behind t)

last_at : (t : List ℕ) (ns : List Node) (k : ℕ) (f : reading.Found) → FoundAt t (is_sought sought.Bracket) bracket_test k ns → found_at k (opening_of (slice_get ns k)) ≡ Some f → Last t ns f
last_at t ns k f fa h =
    let o = opening_is fa.node fa.passes in
    let is : found_at k (opening_of (slice_get ns k)) ≡ some_found (record { place = k; opening = o.0 }) = ap (λ (x : Option Node). found_at k (opening_of x)) (fa.at ∙ ap (λ (n : Node). Some n) o.1) in
    let both : some_found (record { place = k; opening = o.0 }) ≡ some_found f = sym is ∙ h in
    let same : record { place = k; opening = o.0 } ≡ f = cc in
    let lone : cell_of t o.0 ∷ [] ≡ fa.cell ∷ [] = ap (cells_at t) (sym o.1) ∙ fa.single in
    let cell : fa.cell ≡ cell_of t o.0 = cc in
    subst (Last t ns) same (record {
      front = take k ns;
      inside = drop (suc k) ns;
      split = fa.split ∙ ap (λ (n : Node). take k ns ++ n ∷ drop (suc k) ns) o.1;
      size = fa.size;
      found = fa.found ∙ ap (λ (c : Cell). Some (cells t (take k ns), c, cells t (drop (suc k) ns))) cell;
    })

pub last_is : (t : List ℕ) (ns : List Node) (f : reading.Found) → last_opening ns ≡ Some f → Last t ns f
last_is t ns f h = go (last_place (is_sought sought.Bracket) ns) (last_nodes t (is_sought sought.Bracket) bracket_test (bracket_nodes t) ns) h where
  go : (o : Option ℕ) → NodesCase t (is_sought sought.Bracket) bracket_test ns o → found_in ns o ≡ Some f → Last t ns f
  go (Some k) fa e = last_at t ns k f fa e
  go None n e = absurd cc

pub none_is : (t : List ℕ) (ns : List Node) → last_opening ns ≡ None → last_cell bracket_test (cells t ns) ≡ None
none_is t ns h = go (last_place (is_sought sought.Bracket) ns) (last_nodes t (is_sought sought.Bracket) bracket_test (bracket_nodes t) ns) h where
  go : (o : Option ℕ) → NodesCase t (is_sought sought.Bracket) bracket_test ns o → found_in ns o ≡ None → last_cell bracket_test (cells t ns) ≡ None
  go None n e = n
  go (Some k) fa e =
      let o = opening_is fa.node fa.passes in
      let is : found_at k (opening_of (slice_get ns k)) ≡ some_found (record { place = k; opening = o.0 }) = ap (λ (x : Option Node). found_at k (opening_of x)) (fa.at ∙ ap (λ (n : Node). Some n) o.1) in
      absurd (let bad : some_found (record { place = k; opening = o.0 }) ≡ None = sym is ∙ e in cc)

-- ---- the last bracket among the pieces

pub record BracketOf (t : List ℕ) (before : List Piece) (front : List Cell) (o : Opening) (inside : List Cell) : Type 0 where
  pub found : Found
  pub last : last_that is_bracket before ≡ Some found
  pub ahead : front ≡ cells_of found.0
  pub piece : found.1 ≡ open_bracket o.is_image o.is_active (drop o.behind t)
  pub within : inside ≡ cells_of found.2

piece_is : (p : Piece) (i a : Bool) (b : List ℕ) → cell_in p ≡ bracket_cell i a b → p ≡ open_bracket i a b
piece_is (finished xs) i a b h = absurd cc
piece_is (delimiter_run mark len first o c) i a b h = absurd cc
piece_is (open_bracket j c d) i a b h = cc

abbrev some_cells : FoundCell → Option FoundCell
some_cells f = Some f

pub bracket_of : (t : List ℕ) (before : List Piece) (ns front inside : List Node) (o : Opening) → cells t ns ≡ cells_of before → last_cell bracket_test (cells t ns) ≡ Some (cells t front, cell_of t o, cells t inside) → BracketOf t before (cells t front) o (cells t inside)
bracket_of t before ns front inside o e h =
    go (last_that is_bracket before) refl (sym (last_pieces is_bracket bracket_test bracket_matches before) ∙ ap (last_cell bracket_test) (sym e) ∙ h) where
      go : (x : Option Found) → last_that is_bracket before ≡ x → option_map cells_found x ≡ Some (cells t front, cell_of t o, cells t inside) → BracketOf t before (cells t front) o (cells t inside)
      go None l k = absurd cc
      go (Some f) l k =
          let m : some_cells (cells_found f) ≡ some_cells (cells t front, cell_of t o, cells t inside) = k in
          let same : cells_found f ≡ (cells t front, cell_of t o, cells t inside) = cc in
          record {
            found = f;
            last = l;
            ahead = sym (ap (λ (x : FoundCell). x.0) same);
            piece = piece_is f.1 o.is_image o.is_active (drop o.behind t) (ap (λ (x : FoundCell). x.1) same);
            within = sym (ap (λ (x : FoundCell). x.2) same);
          }

no_bracket : (t : List ℕ) (before : List Piece) (ns : List Node) → cells t ns ≡ cells_of before → last_cell bracket_test (cells t ns) ≡ None → last_that is_bracket before ≡ None
no_bracket t before ns e h = go (last_that is_bracket before) (sym (last_pieces is_bracket bracket_test bracket_matches before) ∙ ap (last_cell bracket_test) (sym e) ∙ h) where
  go : (x : Option Found) → option_map cells_found x ≡ None → x ≡ None
  go None k = refl
  go (Some f) k = absurd cc

-- ---- calm brackets

abbrev calm_cell : Cell → Cell
calm_cell (bracket_cell i a b) = bracket_cell i (a && i) b
calm_cell (sealed t) = sealed t
calm_cell (run_cell m l f o c) = run_cell m l f o c

calm_sealed : (ts : List Token) → map calm_cell (map sealed ts) ≡ map sealed ts
calm_sealed [] = refl
calm_sealed (t ∷ ts) = ap (λ (cs : List Cell). sealed t ∷ cs) (calm_sealed ts)

calm_node : (t : List ℕ) (n : Node) → cells_at t (changed Calm n) ≡ map calm_cell (cells_at t n)
calm_node t (node.Opening o) = refl
calm_node t (node.Words s) = sym (calm_sealed (word_tokens s.now))
calm_node t n = refl

calm_nodes : (t : List ℕ) (ns : List Node) → cells t (map (changed Calm) ns) ≡ map calm_cell (cells t ns)
calm_nodes t [] = refl
calm_nodes t (n ∷ ns) = ap (λ (cs : List Cell). cs ++ cells t (map (changed Calm) ns)) (calm_node t n) ∙ ap (λ (cs : List Cell). map calm_cell (cells_at t n) ++ cs) (calm_nodes t ns) ∙ sym (map-append calm_cell (cells_at t n) (cells t ns))

and_false : (b : Bool) → (b && false) ≡ false
and_false true = refl
and_false false = refl

and_true : (b : Bool) → (b && true) ≡ b
and_true true = refl
and_true false = refl

calm_pieces : (ps : List Piece) → map calm_cell (cells_of ps) ≡ cells_of (calmed ps)
calm_pieces [] = refl
calm_pieces (finished xs ∷ ps) = map-append calm_cell (map sealed (tokens xs)) (cells_of ps) ∙ ap (λ (cs : List Cell). cs ++ map calm_cell (cells_of ps)) (calm_sealed (tokens xs)) ∙ ap (λ (cs : List Cell). map sealed (tokens xs) ++ cs) (calm_pieces ps)
calm_pieces (delimiter_run m l f o c ∷ ps) = ap (λ (cs : List Cell). run_cell m l f o c ∷ cs) (calm_pieces ps)
calm_pieces (open_bracket true a b ∷ ps) = ap (λ (x : Bool). bracket_cell true x b ∷ map calm_cell (cells_of ps)) (and_true a) ∙ ap (λ (cs : List Cell). bracket_cell true a b ∷ cs) (calm_pieces ps)
calm_pieces (open_bracket false a b ∷ ps) = ap (λ (x : Bool). bracket_cell false x b ∷ map calm_cell (cells_of ps)) (and_false a) ∙ ap (λ (cs : List Cell). bracket_cell false false b ∷ cs) (calm_pieces ps)

calm_room : (n : Node) → room (changed Calm n) ≡ room n
calm_room (node.Opening o) = refl
calm_room n = refl

calm_nothing : (n : Node) → is_nothing (changed Calm n) ≡ is_nothing n
calm_nothing (node.Opening o) = refl
calm_nothing n = refl

calm_waiting : (k : ℕ) (ns : List Node) → waiting k (map (changed Calm) ns) ≡ waiting k ns
calm_waiting k [] = refl
calm_waiting zero (n ∷ ns) = ap (λ (m : ℕ). waiting m (map (changed Calm) ns)) (calm_room n) ∙ calm_waiting (room n) ns
calm_waiting (suc k) (n ∷ ns) =
    ap (λ (b : Bool). elim b as (λ x. Option ℕ) [ true ↦ waiting k (map (changed Calm) ns) | false ↦ None ]) (calm_nothing n)
    ∙ ap (λ (o : Option ℕ). elim (is_nothing n) as (λ x. Option ℕ) [ true ↦ o | false ↦ None ]) (calm_waiting k ns)

-- ---- where brackets stand

pub placed-append : (t : List ℕ) (at : ℕ) (ms ns : List Node) → IsPlaced t at ms → IsPlaced t at ns → IsPlaced t at (ms ++ ns)
placed-append t at [] ns p q = q
placed-append t at (m ∷ ms) ns p q = (p.0, placed-append t at ms ns p.1 q)

pub placed_front : (t : List ℕ) (at : ℕ) (ms ns : List Node) → IsPlaced t at (ms ++ ns) → IsPlaced t at ms
placed_front t at [] ns p = tt
placed_front t at (m ∷ ms) ns p = (p.0, placed_front t at ms ns p.1)

pub placed_back : (t : List ℕ) (at : ℕ) (ms ns : List Node) → IsPlaced t at (ms ++ ns) → IsPlaced t at ns
placed_back t at [] ns p = p
placed_back t at (m ∷ ms) ns p = placed_back t at ms ns p.1

later_one : (t : List ℕ) (at to : ℕ) (n : Node) → at ≤ to → IsPlacedAt t at n → IsPlacedAt t to n
later_one t at to (node.Opening o) le p = (omega (arith, le, p.0), p.1)
later_one t at to n le p = tt

pub placed_later : (t : List ℕ) (at to : ℕ) (ns : List Node) → at ≤ to → IsPlaced t at ns → IsPlaced t to ns
placed_later t at to [] le p = tt
placed_later t at to (n ∷ ns) le p = (later_one t at to n le p.0, placed_later t at to ns le p.1)

frozen_placed_one : (t : List ℕ) (at : ℕ) (n : Node) → IsPlacedAt t at (changed Freeze n)
frozen_placed_one t at (node.Run r) = tt
frozen_placed_one t at (node.Opening o) = tt
frozen_placed_one t at n = tt

frozen_placed : (t : List ℕ) (at : ℕ) (ns : List Node) → IsPlaced t at (map (changed Freeze) ns)
frozen_placed t at [] = tt
frozen_placed t at (n ∷ ns) = (frozen_placed_one t at n, frozen_placed t at ns)

calm_placed_one : (t : List ℕ) (at : ℕ) (n : Node) → IsPlacedAt t at n → IsPlacedAt t at (changed Calm n)
calm_placed_one t at (node.Opening o) p = p
calm_placed_one t at n p = p

calm_placed : (t : List ℕ) (at : ℕ) (ns : List Node) → IsPlaced t at ns → IsPlaced t at (map (changed Calm) ns)
calm_placed t at [] p = tt
calm_placed t at (n ∷ ns) p = (calm_placed_one t at n p.0, calm_placed t at ns p.1)

-- ---- slots round a bracket

pub opening_start : (ms ns : List Node) (o : Opening) → waiting 0 (ms ++ node.Opening o ∷ ns) ≡ Some 0 → (waiting 0 ms ≡ Some 0) × (waiting 0 ns ≡ Some 0)
opening_start ms ns o h = go (waiting 0 ms) refl (sym (waiting-append 0 ms (node.Opening o ∷ ns)) ∙ h) where
  go : (x : Option ℕ) → waiting 0 ms ≡ x → after x (node.Opening o ∷ ns) ≡ Some 0 → (waiting 0 ms ≡ Some 0) × (waiting 0 ns ≡ Some 0)
  go (Some zero) e f = (e, f)
  go (Some (suc m)) e f = absurd cc
  go None e f = absurd cc

-- ---- what is inside a link is paired

pub record Inside (t : List ℕ) (front : List Node) (o : Opening) (inside : List Node) (ps : List Piece) (ns : List Node) : Type 0 where
  pub nodes : List Node
  pub made : inside_paired (length front) ns ≡ front ++ node.Opening o ∷ map (changed Freeze) nodes
  pub shown : plain_tokens (cells t nodes) ≡ tokens (pairs ps)

paired_inside : (t : List ℕ) (front : List Node) (o : Opening) (inside : List Node) (ps : List Piece) (ns : List Node) → ns ≡ front ++ node.Opening o ∷ inside → cells t inside ≡ cells_of ps → waiting 0 inside ≡ Some 0 → Inside t front o inside ps ns
paired_inside t front o inside ps ns split e slots =
    let p = front ++ node.Opening o ∷ [] in
    let w = walk (length inside) t p [] [] inside [] ps refl refl e tt slots refl in
    let size : length p ≡ length front + 1 = omega (arith, length-append front (node.Opening o ∷ [])) in
    let whole : ns ≡ p ++ inside = split ∙ sym (append_assoc front (node.Opening o ∷ []) inside) in
    let n : length ns - (length front + 1) ≡ length inside = omega (arith, ap (λ (zs : List Node). length zs) whole, length-append p inside, size) in
    let zero_more : length p + (0 + 0) ≡ length front + 1 = omega (arith, size) in
    let made : pair_from (length front + 1) (length front + 1) (length ns - (length front + 1)) ns ≡ front ++ node.Opening o ∷ (w.nodes ++ []) =
    ap (pair_from (length front + 1) (length front + 1) (length ns - (length front + 1))) whole
    ∙ ap (λ (k : ℕ). pair_from (length front + 1) (length front + 1) k (p ++ inside)) n
    ∙ ap (λ (k : ℕ). pair_from k (length front + 1) (length inside) (p ++ inside)) (sym size)
    ∙ ap (λ (k : ℕ). pair_from (length p) k (length inside) (p ++ inside)) (sym zero_more)
    ∙ w.made ∙ append_assoc front (node.Opening o ∷ []) w.nodes ∙ ap (λ (zs : List Node). front ++ node.Opening o ∷ zs) (sym (append-nil w.nodes)) in
    let paired = pair_from (length front + 1) (length front + 1) (length ns - (length front + 1)) ns in
    let end : length paired ≡ suc (length front + length w.nodes) = omega (arith, ap (λ (zs : List Node). length zs) made, length-append front (node.Opening o ∷ (w.nodes ++ [])), length-append w.nodes []) in
    record {
      nodes = w.nodes;
      made =
          ap (change_between Freeze (length front + 1) (length paired)) made
          ∙ change_behind Freeze front (node.Opening o) w.nodes [] (length front + 1) (length paired) (add-one (length front)) end
          ∙ ap (λ (zs : List Node). front ++ node.Opening o ∷ zs) (append-nil (map (changed Freeze) w.nodes));
      shown = w.shown;
    }

-- ---- what the grammar makes of the brackets

abbrev Closed : Type 0
Closed = List Piece × ℕ

abbrev closed_by : Option links.Reached → Bool → List Piece → List Piece → Closed
closed_by o i front inside = elim o as (λ x. Closed) [ Some r ↦ (linked i front r.0 inside, r.1) | None ↦ unlinked i front inside ]

close_with_is : (defs : List Definition) (t : List ℕ) (front inside : List Piece) (i a : Bool) (behind : List ℕ)
    → close_with defs t front (open_bracket i a behind) inside ≡ closed_by (cond a (target_of defs (take (length behind - (length t + 1)) behind) t) None) i front inside
close_with_is defs t front inside i true behind = refl
close_with_is defs t front inside i false behind = refl

name_len : (t : List ℕ) (at behind : ℕ) → at < length t → behind ≤ at → length (drop behind t) - (length (drop (at + 1) t) + 1) ≡ at - behind
name_len t at behind lt le = omega (arith, lt, le, length-drop behind t, length-drop (at + 1) t)

abbrev bracket_case : List Definition → List Piece → List ℕ → Option Found → Closed
bracket_case defs before t o = elim o as (λ x. Closed) [ Some f ↦ close_with defs t f.0 f.1 f.2 | None ↦ (before ++ closing_text ∷ [], 0) ]

pub closes_as : (defs : List Definition) (t : List ℕ) (at : ℕ) (before : List Piece) (o : Opening) (front inside : List Cell) → at < length t → o.behind ≤ at → (b : BracketOf t before front o inside)
    → close_bracket defs before (drop (at + 1) t) ≡ closed_by (reached_by defs t at o) o.is_image b.found.0 b.found.2
closes_as defs t at before o front inside lt le b =
    ap (bracket_case defs before (drop (at + 1) t)) b.last ∙ ap (λ (p : Piece). close_with defs (drop (at + 1) t) b.found.0 p b.found.2) b.piece
    ∙ close_with_is defs (drop (at + 1) t) b.found.0 b.found.2 o.is_image o.is_active (drop o.behind t)
    ∙ ap (λ (n : ℕ). closed_by (cond o.is_active (target_of defs (take n (drop o.behind t)) (drop (at + 1) t)) None) o.is_image b.found.0 b.found.2) (name_len t at o.behind lt le)

-- ---- a container in the nodes

container_cells : (t : List ℕ) (front ns : List Node) (opener closer : Node) (first last : Token) (ts : List Token) → cells_at t opener ≡ sealed first ∷ [] → cells_at t closer ≡ sealed last ∷ [] → plain_tokens (cells t ns) ≡ ts
    → cells t ((front ++ opener ∷ map (changed Freeze) ns) ++ closer ∷ []) ≡ cells t front ++ (map sealed (first ∷ (ts ++ last ∷ [])) ++ [])
container_cells t front ns opener closer first last ts a b e =
    let fs = map (changed Freeze) ns in
    cells-append t (front ++ opener ∷ fs) (closer ∷ [])
    ∙ ap (λ (cs : List Cell). cs ++ cells t (closer ∷ [])) (cells-append t front (opener ∷ fs) ∙ ap (λ (cs : List Cell). cells t front ++ (cs ++ cells t fs)) a ∙ ap (λ (cs : List Cell). cells t front ++ sealed first ∷ cs) (frozen t ns ∙ ap (map sealed) e))
    ∙ ap (λ (cs : List Cell). (cells t front ++ sealed first ∷ map sealed ts) ++ (cs ++ [])) b
    ∙ append_assoc (cells t front) (sealed first ∷ map sealed ts) (sealed last ∷ [])
    ∙ ap (λ (cs : List Cell). cells t front ++ sealed first ∷ cs) (sym (append-nil (map sealed (ts ++ last ∷ [])) ∙ map-append sealed ts (last ∷ [])))

container_slots : (front ns : List Node) (opener closer : Node) → waiting 0 front ≡ Some 0 → room opener ≡ 0 → room closer ≡ 0 → waiting 0 ((front ++ opener ∷ map (changed Freeze) ns) ++ closer ∷ []) ≡ Some 0
container_slots front ns opener closer s a b =
    ap (waiting 0) (append_assoc front (opener ∷ map (changed Freeze) ns) (closer ∷ [])) ∙ waiting-append 0 front (opener ∷ (map (changed Freeze) ns ++ closer ∷ [])) ∙ ap (λ (o : Option ℕ). after o (opener ∷ (map (changed Freeze) ns ++ closer ∷ []))) s
    ∙ ap (λ (k : ℕ). waiting k (map (changed Freeze) ns ++ closer ∷ [])) a ∙ waiting_frozen ns (closer ∷ []) ∙ ap (λ (k : ℕ). Some k) b

container_placed : (t : List ℕ) (at : ℕ) (front ns : List Node) (opener closer : Node) → IsPlaced t at front → IsPlacedAt t at opener → IsPlacedAt t at closer → IsPlaced t at ((front ++ opener ∷ map (changed Freeze) ns) ++ closer ∷ [])
container_placed t at front ns opener closer p a b = placed-append t at (front ++ opener ∷ map (changed Freeze) ns) (closer ∷ []) (placed-append t at front (opener ∷ map (changed Freeze) ns) p (a, frozen_placed t at ns)) (b, tt)

-- ---- the three ways

image_made : (t : List ℕ) (front : List Node) (o : Opening) (inside : List Node) (ps : List Piece) (ns : List Node) (target : nodes.Target) (place : ℕ) → place ≡ length front → (i : Inside t front o inside ps ns)
    → image_nodes place target ns ≡ (front ++ node.OpenImage target ∷ map (changed Freeze) i.nodes) ++ node.CloseImage ∷ []
image_made t front o inside ps ns target place e i =
    ap (λ (k : ℕ). set (inside_paired k ns) k (node.OpenImage target) ++ node.CloseImage ∷ []) e
    ∙ ap (λ (zs : List Node). set zs (length front) (node.OpenImage target) ++ node.CloseImage ∷ []) i.made
    ∙ ap (λ (zs : List Node). zs ++ node.CloseImage ∷ []) (set_there front (node.Opening o) (map (changed Freeze) i.nodes) (node.OpenImage target) (length front) refl)

link_made : (t : List ℕ) (front : List Node) (o : Opening) (inside : List Node) (ps : List Piece) (ns : List Node) (target : nodes.Target) (place : ℕ) → place ≡ length front → (i : Inside t front o inside ps ns)
    → link_nodes place target ns ≡ (map (changed Calm) front ++ node.OpenLink target ∷ map (changed Freeze) i.nodes) ++ node.CloseLink ∷ []
link_made t front o inside ps ns target place e i =
    ap (λ (k : ℕ). change_between Calm 0 k (set (inside_paired k ns) k (node.OpenLink target)) ++ node.CloseLink ∷ []) e
    ∙ ap (λ (zs : List Node). change_between Calm 0 (length front) (set zs (length front) (node.OpenLink target)) ++ node.CloseLink ∷ []) i.made
    ∙ ap (λ (zs : List Node). change_between Calm 0 (length front) zs ++ node.CloseLink ∷ []) (set_there front (node.Opening o) (map (changed Freeze) i.nodes) (node.OpenLink target) (length front) refl)
    ∙ ap (λ (zs : List Node). zs ++ node.CloseLink ∷ []) (change_all_front Calm front (node.OpenLink target ∷ map (changed Freeze) i.nodes) (length front) refl)

abbrev closed_pieces : List Definition → List ℕ → ℕ → List Piece → List Piece
closed_pieces defs t at ps = (close_bracket defs ps (drop (at + 1) t)).0

image_way : (defs : List Definition) (t : List ℕ) (at to : ℕ) (old : List Node) (f : reading.Found) (r : Reached) → at < length t → at ≤ to → f.opening.is_image ≡ true → (l : Last t old f) → waiting 0 old ≡ Some 0 → IsPlaced t at old → f.opening.behind ≤ at
    → Some (reached_pair r) ≡ reached_by defs t at f.opening → (ps : List Piece) → cells t old ≡ cells_of ps → cells t (image_nodes f.place r.target old) ≡ cells_of (closed_pieces defs t at ps)
image_way defs t at to old f r lt le im l s p b h ps e =
    let br = bracket_of t ps old l.front l.inside f.opening e l.found in
    let i = paired_inside t l.front f.opening l.inside br.found.2 old l.split br.within (opening_start l.front l.inside f.opening (ap (waiting 0) (sym l.split) ∙ s)).1 in
    let target = r.target in
    ap (cells t) (image_made t l.front f.opening l.inside br.found.2 old target f.place (sym l.size) i)
    ∙ container_cells t l.front i.nodes (node.OpenImage target) node.CloseImage (open_image target.url target.title) close_image (tokens (pairs br.found.2)) refl refl i.shown
    ∙ ap (λ (cs : List Cell). cs ++ (map sealed (open_image target.url target.title ∷ (tokens (pairs br.found.2) ++ close_image ∷ [])) ++ [])) br.ahead
    ∙ sym (ap (λ (c : Closed). cells_of c.0) (closes_as defs t at ps f.opening (cells t l.front) (cells t l.inside) lt b br ∙ ap (λ (o : Option links.Reached). closed_by o f.opening.is_image br.found.0 br.found.2) (sym h) ∙ ap (λ (x : Bool). closed_by (Some (reached_pair r)) x br.found.0 br.found.2) im)
    ∙ cells_of-append br.found.0 (finished (image target.url target.title (pairs br.found.2) no_inlines) ∷ []))

link_way : (defs : List Definition) (t : List ℕ) (at to : ℕ) (old : List Node) (f : reading.Found) (r : Reached) → at < length t → at ≤ to → f.opening.is_image ≡ false → (l : Last t old f) → waiting 0 old ≡ Some 0 → IsPlaced t at old → f.opening.behind ≤ at
    → Some (reached_pair r) ≡ reached_by defs t at f.opening → (ps : List Piece) → cells t old ≡ cells_of ps → cells t (link_nodes f.place r.target old) ≡ cells_of (closed_pieces defs t at ps)
link_way defs t at to old f r lt le im l s p b h ps e =
    let br = bracket_of t ps old l.front l.inside f.opening e l.found in
    let i = paired_inside t l.front f.opening l.inside br.found.2 old l.split br.within (opening_start l.front l.inside f.opening (ap (waiting 0) (sym l.split) ∙ s)).1 in
    let target = r.target in
    ap (cells t) (link_made t l.front f.opening l.inside br.found.2 old target f.place (sym l.size) i)
    ∙ container_cells t (map (changed Calm) l.front) i.nodes (node.OpenLink target) node.CloseLink (open_link target.url target.title) close_link (tokens (pairs br.found.2)) refl refl i.shown
    ∙ ap (λ (cs : List Cell). cs ++ (map sealed (open_link target.url target.title ∷ (tokens (pairs br.found.2) ++ close_link ∷ [])) ++ [])) (calm_nodes t l.front ∙ ap (map calm_cell) br.ahead ∙ calm_pieces br.found.0)
    ∙ sym (ap (λ (c : Closed). cells_of c.0) (closes_as defs t at ps f.opening (cells t l.front) (cells t l.inside) lt b br ∙ ap (λ (o : Option links.Reached). closed_by o f.opening.is_image br.found.0 br.found.2) (sym h) ∙ ap (λ (x : Bool). closed_by (Some (reached_pair r)) x br.found.0 br.found.2) im)
    ∙ cells_of-append (calmed br.found.0) (finished (link target.url target.title (pairs br.found.2) no_inlines) ∷ []))

closing_cell : (t : List ℕ) → cells t (closing_node ∷ []) ≡ cells_of (closing_text ∷ [])
closing_cell t = ap (λ (b : List ℕ). sealed (text_token b) ∷ []) (encode_ascii 93 (omega arith))

unlinked_cells : (t : List ℕ) (i : Bool) (front inside : List Node) (fs is : List Piece) → cells t front ≡ cells_of fs → cells t inside ≡ cells_of is → cells t ((front ++ node.Bracket i ∷ inside) ++ closing_node ∷ []) ≡ cells_of (unlinked i fs is).0
unlinked_cells t i front inside fs is a b =
    let bracket : cells t (node.Bracket i ∷ inside) ≡ cells_of (bracket_piece i ∷ is) = bracket_cells i ∙ ap (λ (cs : List Cell). cells_in (bracket_piece i) ++ cs) b in
    cells-append t (front ++ node.Bracket i ∷ inside) (closing_node ∷ [])
    ∙ ap (λ (cs : List Cell). cs ++ cells t (closing_node ∷ [])) (cells-append t front (node.Bracket i ∷ inside) ∙ ap (λ (cs : List Cell). cs ++ cells t (node.Bracket i ∷ inside)) a ∙ ap (λ (cs : List Cell). cells_of fs ++ cs) bracket ∙ sym (cells_of-append fs (bracket_piece i ∷ is)))
    ∙ ap (λ (cs : List Cell). cells_of (fs ++ bracket_piece i ∷ is) ++ cs) (closing_cell t)
    ∙ sym (cells_of-append (fs ++ bracket_piece i ∷ is) (closing_text ∷ []))
    ∙ ap cells_of (append_assoc fs (bracket_piece i ∷ is) (closing_text ∷ [])) where
      bracket_cells : (j : Bool) → cells t (node.Bracket j ∷ inside) ≡ cells_in (bracket_piece j) ++ cells t inside
      bracket_cells true = refl
      bracket_cells false = refl

unlinked_made : (t : List ℕ) (old : List Node) (f : reading.Found) (l : Last t old f) → unlinked_nodes f old ≡ (l.front ++ node.Bracket f.opening.is_image ∷ l.inside) ++ closing_node ∷ []
unlinked_made t old f l =
    ap (λ (zs : List Node). set zs f.place (node.Bracket f.opening.is_image) ++ closing_node ∷ []) l.split
    ∙ ap (λ (zs : List Node). zs ++ closing_node ∷ []) (set_there l.front (node.Opening f.opening) l.inside (node.Bracket f.opening.is_image) f.place (sym l.size))

unlinked_way : (defs : List Definition) (t : List ℕ) (at : ℕ) (old : List Node) (f : reading.Found) → at < length t → (l : Last t old f) → f.opening.behind ≤ at
    → None ≡ reached_by defs t at f.opening → (ps : List Piece) → cells t old ≡ cells_of ps → cells t (unlinked_nodes f old) ≡ cells_of (closed_pieces defs t at ps)
unlinked_way defs t at old f lt l b h ps e =
    let br = bracket_of t ps old l.front l.inside f.opening e l.found in
    ap (cells t) (unlinked_made t old f l) ∙ unlinked_cells t f.opening.is_image l.front l.inside br.found.0 br.found.2 br.ahead br.within
    ∙ sym (ap (λ (c : Closed). cells_of c.0) (closes_as defs t at ps f.opening (cells t l.front) (cells t l.inside) lt b br ∙ ap (λ (o : Option links.Reached). closed_by o f.opening.is_image br.found.0 br.found.2) (sym h)))

taken_way : (defs : List Definition) (t : List ℕ) (at : ℕ) (old : List Node) (f : reading.Found) (o : Option Reached) → at < length t → (l : Last t old f) → f.opening.behind ≤ at
    → option_map reached_pair o ≡ reached_by defs t at f.opening → (ps : List Piece) → cells t old ≡ cells_of ps → taken_by o ≡ (close_bracket defs ps (drop (at + 1) t)).1
taken_way defs t at old f o lt l b h ps e =
    let br = bracket_of t ps old l.front l.inside f.opening e l.found in
    taken o ∙ ap (λ (x : Option links.Reached). (closed_by x f.opening.is_image br.found.0 br.found.2).1) h
    ∙ sym (ap (λ (c : Closed). c.1) (closes_as defs t at ps f.opening (cells t l.front) (cells t l.inside) lt b br)) where
      taken : (x : Option Reached) → taken_by x ≡ (closed_by (option_map reached_pair x) f.opening.is_image (bracket_of t ps old l.front l.inside f.opening e l.found).found.0 (bracket_of t ps old l.front l.inside f.opening e l.found).found.2).1
      taken (Some r) = refl
      taken None = refl

-- ---- soundness

sound_container : (t : List ℕ) (at : ℕ) (front ns new : List Node) (opener closer : Node) → waiting 0 front ≡ Some 0 → IsPlaced t at front → room opener ≡ 0 → room closer ≡ 0 → IsPlacedAt t at opener → IsPlacedAt t at closer → IsCharBoundary t at
    → new ≡ (front ++ opener ∷ map (changed Freeze) ns) ++ closer ∷ [] → Sound t at new
sound_container t at front ns new opener closer s p a b c d cut e = record {
  slots = ap (waiting 0) e ∙ container_slots front ns opener closer s a b;
  placed = subst (IsPlaced t at) (sym e) (container_placed t at front ns opener closer p c d);
  cut = cut;
}

pub opening_placed : (t : List ℕ) (at : ℕ) (old : List Node) (f : reading.Found) → Last t old f → IsPlaced t at old → (f.opening.behind ≤ at) × IsCharBoundary t f.opening.behind
opening_placed t at old f l p = (placed_back t at l.front (node.Opening f.opening ∷ l.inside) (subst (IsPlaced t at) l.split p)).0

front_placed : (t : List ℕ) (at to : ℕ) (old : List Node) (f : reading.Found) → at ≤ to → (l : Last t old f) → IsPlaced t at old → IsPlaced t to l.front
front_placed t at to old f le l p = placed_later t at to l.front le (placed_front t at l.front (node.Opening f.opening ∷ l.inside) (subst (IsPlaced t at) l.split p))

inside_placed : (t : List ℕ) (at to : ℕ) (old : List Node) (f : reading.Found) → at ≤ to → (l : Last t old f) → IsPlaced t at old → IsPlaced t to l.inside
inside_placed t at to old f le l p = placed_later t at to l.inside le (placed_back t at l.front (node.Opening f.opening ∷ l.inside) (subst (IsPlaced t at) l.split p)).1

sound_unlinked : (t : List ℕ) (at to : ℕ) (old new : List Node) (f : reading.Found) → at ≤ to → Last t old f → Sound t at old → IsCharBoundary t to → new ≡ unlinked_nodes f old → Sound t to new
sound_unlinked t at to old new f le l s cut e =
    let i = f.opening.is_image in
    let made = e ∙ unlinked_made t old f l in
    let parts = opening_start l.front l.inside f.opening (ap (waiting 0) (sym l.split) ∙ s.slots) in
    record {
      slots =
          ap (waiting 0) (made ∙ append_assoc l.front (node.Bracket i ∷ l.inside) (closing_node ∷ [])) ∙ waiting-append 0 l.front (node.Bracket i ∷ (l.inside ++ closing_node ∷ []))
          ∙ ap (λ (o : Option ℕ). after o (node.Bracket i ∷ (l.inside ++ closing_node ∷ []))) parts.0 ∙ waiting-append 0 l.inside (closing_node ∷ []) ∙ ap (λ (o : Option ℕ). after o (closing_node ∷ [])) parts.1;
      placed = subst (IsPlaced t to) (sym made)
          (placed-append t to (l.front ++ node.Bracket i ∷ l.inside) (closing_node ∷ []) (placed-append t to l.front (node.Bracket i ∷ l.inside) (front_placed t at to old f le l s.placed) (tt, inside_placed t at to old f le l s.placed)) (tt, tt));
      cut = cut;
    }

-- ---- a closing bracket

at_least : (t : List ℕ) (at c : ℕ) → slice_get t at ≡ Some c → at < length t
at_least [] at c h = absurd cc
at_least (d ∷ ds) zero c h = omega arith
at_least (d ∷ ds) (suc at) c h = omega (arith, at_least ds at c h)

cut_after : (t : List ℕ) (at n : ℕ) → at < length t → IsCharBoundary (drop (at + 1) t) n → IsCharBoundary t (at + (n + 1))
cut_after t at n lt h = let e : at + 1 + n ≡ at + (n + 1) = omega arith in subst (IsCharBoundary t) e (IsCharBoundary-from_rest t (at + 1) n (omega (arith, lt)) h)

closes_some : (defs : List Definition) (t : List ℕ) (at : ℕ) (old new : List Node) (f : reading.Found) (r : Reached) (n : ℕ) (i : Bool) → f.opening.is_image ≡ i → at < length t → Sound t at old → (l : Last t old f) → Some (reached_pair r) ≡ reached_by defs t at f.opening
    → IsCharBoundary (drop (at + 1) t) r.len → new ≡ closed_with f.place i r.target old → n ≡ r.len → Closes defs t at old new n
closes_some defs t at old new f r n true im lt s l h cut e size =
    let to = at + (n + 1) in
    let le : at ≤ to = omega arith in
    let b = opening_placed t at old f l s.placed in
    let parts = opening_start l.front l.inside f.opening (ap (waiting 0) (sym l.split) ∙ s.slots) in
    record {
      within = omega (arith, size, (cut_after t at r.len lt cut).0);
      sound = λ ps g.
          let br = bracket_of t ps old l.front l.inside f.opening g l.found in
          let i = paired_inside t l.front f.opening l.inside br.found.2 old l.split br.within parts.1 in
          sound_container t to l.front i.nodes new (node.OpenImage r.target) node.CloseImage parts.0 (front_placed t at to old f le l s.placed) refl refl tt tt
          (subst (λ (k : ℕ). IsCharBoundary t (at + (k + 1))) (sym size) (cut_after t at r.len lt cut)) (e ∙ image_made t l.front f.opening l.inside br.found.2 old r.target f.place (sym l.size) i);
      shown = λ ps g. ap (cells t) e ∙ image_way defs t at to old f r lt le im l s.slots s.placed b.0 h ps g;
      taken = λ ps g. size ∙ taken_way defs t at old f (Some r) lt l b.0 h ps g;
    }
closes_some defs t at old new f r n false im lt s l h cut e size =
    let to = at + (n + 1) in
    let le : at ≤ to = omega arith in
    let b = opening_placed t at old f l s.placed in
    let parts = opening_start l.front l.inside f.opening (ap (waiting 0) (sym l.split) ∙ s.slots) in
    record {
      within = omega (arith, size, (cut_after t at r.len lt cut).0);
      sound = λ ps g.
          let br = bracket_of t ps old l.front l.inside f.opening g l.found in
          let i = paired_inside t l.front f.opening l.inside br.found.2 old l.split br.within parts.1 in
          sound_container t to (map (changed Calm) l.front) i.nodes new (node.OpenLink r.target) node.CloseLink (calm_waiting 0 l.front ∙ parts.0) (calm_placed t to l.front (front_placed t at to old f le l s.placed)) refl refl tt tt
          (subst (λ (k : ℕ). IsCharBoundary t (at + (k + 1))) (sym size) (cut_after t at r.len lt cut)) (e ∙ link_made t l.front f.opening l.inside br.found.2 old r.target f.place (sym l.size) i);
      shown = λ ps g. ap (cells t) e ∙ link_way defs t at to old f r lt le im l s.slots s.placed b.0 h ps g;
      taken = λ ps g. size ∙ taken_way defs t at old f (Some r) lt l b.0 h ps g;
    }

pub closes_found : (defs : List Definition) (t : List ℕ) (at : ℕ) (old new : List Node) (f : reading.Found) (o : Option Reached) (n : ℕ) → IsUtf8 t → slice_get t at ≡ Some 93 → Sound t at old → last_opening old ≡ Some f → option_map reached_pair o ≡ reached_by defs t at f.opening
    → IfSome o (λ r. IsCharBoundary (drop (at + 1) t) r.len) → new ≡ closed_nodes f o old → n ≡ taken_by o → Closes defs t at old new n
closes_found defs t at old new f (Some r) n u br s h m cut e size = closes_some defs t at old new f r n f.opening.is_image refl (at_least t at 93 br) s (last_is t old f h) m cut e size
closes_found defs t at old new f None n u br s h m cut e size =
    let l = last_is t old f h in
    let lt = at_least t at 93 br in
    let b = opening_placed t at old f l s.placed in
    let one : at + 1 ≡ at + (n + 1) = omega (arith, size) in
    let end = subst (IsCharBoundary t) one (behind_bracket t at u br) in
    record {
      within = end.0;
      sound = λ ps g. sound_unlinked t at (at + (n + 1)) old new f (omega arith) l s end e;
      shown = λ ps g. ap (cells t) e ∙ unlinked_way defs t at old f lt l b.0 m ps g;
      taken = λ ps g. size ∙ taken_way defs t at old f None lt l b.0 m ps g;
    }

pub closes_none : (defs : List Definition) (t : List ℕ) (at : ℕ) (old new : List Node) → IsUtf8 t → slice_get t at ≡ Some 93 → Sound t at old → last_opening old ≡ None → new ≡ old ++ closing_node ∷ [] → Closes defs t at old new 0
closes_none defs t at old new u br s h e =
    let none = none_is t old h in
    let one : at + 1 ≡ at + (0 + 1) = omega arith in
    let to : at ≤ at + (0 + 1) = omega arith in
    record {
      within = (subst (IsCharBoundary t) one (behind_bracket t at u br)).0;
      sound = λ ps g. record {
        slots = ap (waiting 0) e ∙ waiting-append 0 old (closing_node ∷ []) ∙ ap (λ (o : Option ℕ). after o (closing_node ∷ [])) s.slots;
        placed = subst (IsPlaced t (at + (0 + 1))) (sym e) (placed-append t (at + (0 + 1)) old (closing_node ∷ []) (placed_later t at (at + (0 + 1)) old to s.placed) (tt, tt));
        cut = subst (IsCharBoundary t) one (behind_bracket t at u br);
      };
      shown = λ ps g.
          ap (cells t) e ∙ cells-append t old (closing_node ∷ []) ∙ ap (λ (cs : List Cell). cs ++ cells t (closing_node ∷ [])) g ∙ ap (λ (cs : List Cell). cells_of ps ++ cs) (closing_cell t)
          ∙ sym (ap (λ (o : Option Found). cells_of (bracket_case defs ps (drop (at + 1) t) o).0) (no_bracket t ps old g none) ∙ cells_of-append ps (closing_text ∷ []));
      taken = λ ps g. sym (ap (λ (o : Option Found). (bracket_case defs ps (drop (at + 1) t) o).1) (no_bracket t ps old g none));
    }

pub all_closed : (defs : List Definition) (t : List ℕ) (at : ℕ) (old new : List Node) (f : reading.Found) (o : Option Reached) (r : Result ℕ Memory) → ((n : ℕ) → new ≡ closed_nodes f o old → n ≡ taken_by o → Closes defs t at old new n)
    → IfOk r (λ n. (new ≡ closed_nodes f o old) × (n ≡ taken_by o)) → IfOk r (λ n. Closes defs t at old new n)
all_closed defs t at old new f o (Ok n) h k = h n k.0 k.1
all_closed defs t at old new f o (Err e) h k = tt

pub place_within : (t : List ℕ) (ns : List Node) (f : reading.Found) → last_opening ns ≡ Some f → f.place < length ns
place_within t ns f h = let l = last_is t ns f h in omega (arith, l.size, ap (λ (zs : List Node). length zs) l.split, length-append l.front (node.Opening f.opening ∷ l.inside))

pub bracket_placed : (t : List ℕ) (at : ℕ) (ns : List Node) (f : reading.Found) → last_opening ns ≡ Some f → Sound t at ns → (f.opening.behind ≤ at) × IsCharBoundary t f.opening.behind
bracket_placed t at ns f h s = opening_placed t at ns f (last_is t ns f h) s.placed
