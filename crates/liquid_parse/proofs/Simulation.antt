-- The nodes that are made piece by piece are those of the tree.
use Rattle.std.proofs.Common.{◌≡◌, ℕ, zero, suc, ◌+◌, ◌-◌, Bool, true, false, cond, List, [], ◌∷◌, ◌++◌, length, Option, Some, None, Result, Ok, Err, refl, sym, ap, subst, ◌∙◌, append_assoc, arith}
use Rattle.std.proofs.lemmas.List.{append-nil, length-append}
use Rattle.site_base.specs.declared.faults.FaultKind.TheVariants.{LiquidSyntax}
use Rattle.liquid_grammar.specs.declared.piece.Piece.{Piece}
use Rattle.liquid_grammar.specs.declared.item.Part.{Part}
use Rattle.liquid_grammar.specs.declared.item.BlockName.{BlockName}
use Rattle.liquid_grammar.specs.declared.item.Verbatim.{Verbatim}
use Rattle.liquid_grammar.specs.declared.item.Verbatim.TheVariants as verbatim
use Rattle.liquid_grammar.specs.declared.item.Move.{Move}
use Rattle.liquid_grammar.specs.declared.item.Move.TheVariants as moves
use Rattle.liquid_grammar.specs.Items.{item_of}
use Rattle.liquid_grammar.specs.Trees.{Tree, done, leaf, block, part, append, Fault, fault, name_of, is_last, may_follow, same_block, move_in, Rest, at_end, turned, ended, faulty, in_front, Opening, with_body, next_opening, closed, block_from, first_opening, last_rest, after_move, rest_of, whole}
use Rattle.liquid_parse.specs.declared.node.Node.{Node}
use Rattle.liquid_parse.specs.declared.node.Node.TheVariants as node
use Rattle.liquid_parse.specs.declared.building.Open.{Open}
use Rattle.liquid_parse.specs.Flat.{flat}
use Rattle.liquid_parse.proofs.Stacks.{top-last, below-last}
use Rattle.liquid_parse.specs.Machine.{Flat, flat_is, top, with_len, set_len, close_at, open_is, turn, end, step, open_line, finished, finish, then_run, run}

-- ---- Trees one behind another

append-done : (t : Tree) → append t done ≡ t
append-done done = refl
append-done (leaf line l rest) = ap (leaf line l) (append-done rest)
append-done (block line b parts rest) = ap (block line b parts) (append-done rest)
append-done (part line p body rest) = ap (part line p body) (append-done rest)

append-append : (f g h : Tree) → append (append f g) h ≡ append f (append g h)
append-append done g h = refl
append-append (leaf line l rest) g h = ap (leaf line l) (append-append rest g h)
append-append (block line b parts rest) g h = ap (block line b parts) (append-append rest g h)
append-append (part line p body rest) g h = ap (part line p body) (append-append rest g h)

flat-append : (f g : Tree) → flat (append f g) ≡ flat f ++ flat g
flat-append done g = refl
flat-append (leaf line l rest) g = ap (λ (xs : List Node). node.Leaf line l ∷ xs) (flat-append rest g)
flat-append (block line b parts rest) g = ap (λ (xs : List Node). node.Block line b (length (flat parts)) ∷ (flat parts ++ xs)) (flat-append rest g) ∙ ap (λ (xs : List Node). node.Block line b (length (flat parts)) ∷ xs) (sym (append_assoc (flat parts) (flat rest) (flat g)))
flat-append (part line p body rest) g = ap (λ (xs : List Node). node.Part line p (length (flat body)) ∷ (flat body ++ xs)) (flat-append rest g) ∙ ap (λ (xs : List Node). node.Part line p (length (flat body)) ∷ xs) (sym (append_assoc (flat body) (flat rest) (flat g)))

-- ---- The blocks that are open, with the nodes before them

pub record Frame : Type 0 where
  pub before : Tree
  pub opening : Opening

pub record State : Type 0 where
  pub frames : List Frame
  pub nodes : Tree
  pub verbatim : Verbatim

abbrev pub state : List Frame → Tree → Verbatim → State
state fs nodes v = record { frames = fs; nodes = nodes; verbatim = v }

abbrev pub frame : Tree → Opening → Frame
frame before o = record { before = before; opening = o }

-- what a text is, where these blocks are open before the rest
abbrev pub outer : List Frame → Rest → Rest
outer [] r = r
outer (f ∷ fs) r = outer fs (in_front (append f.before) (block_from f.opening r))

outer-faulty : (fs : List Frame) (e : Fault) → outer fs (faulty e) ≡ faulty e
outer-faulty [] e = refl
outer-faulty (f ∷ fs) e = outer-faulty fs e

front_twice : (before : Tree) (g h : Tree → Tree) (r : Rest) → ((t : Tree) → g t ≡ append before (h t)) → in_front g r ≡ in_front (append before) (in_front h r)
front_twice before g h (at_end nodes) e = ap at_end (e nodes)
front_twice before g h (turned nodes line p after) e = ap (λ (t : Tree). turned t line p after) (e nodes)
front_twice before g h (ended nodes line b after) e = ap (λ (t : Tree). ended t line b after) (e nodes)
front_twice before g h (faulty f) e = refl

front_done : (r : Rest) → in_front (append done) r ≡ r
front_done (at_end nodes) = refl
front_done (turned nodes line p after) = refl
front_done (ended nodes line b after) = refl
front_done (faulty f) = refl

abbrev turn_frame : ℕ → Part → Tree → Verbatim → List Frame → Result State Fault
turn_frame line p nodes v [] = Err (fault line LiquidSyntax)
turn_frame line p nodes v (f ∷ fs) = cond (may_follow (name_of f.opening.block) (is_last f.opening.part) p) (Ok (state (frame f.before (next_opening f.opening nodes line p) ∷ fs) done v)) (Err (fault line LiquidSyntax))

abbrev end_frame : ℕ → BlockName → Tree → Verbatim → List Frame → Result State Fault
end_frame line b nodes v [] = Err (fault line LiquidSyntax)
end_frame line b nodes v (f ∷ fs) = cond (same_block (name_of f.opening.block) b) (Ok (state fs (append f.before (block f.opening.line f.opening.block (with_body f.opening nodes) done)) v)) (Err (fault line LiquidSyntax))

abbrev tree_step : ℕ → Move → State → Result State Fault
tree_step line (moves.Passes v) s = Ok (state s.frames s.nodes v)
tree_step line (moves.Adds l) s = Ok (state s.frames (append s.nodes (leaf line l done)) s.verbatim)
tree_step line (moves.Opens b p) s = Ok (state (frame s.nodes (first_opening line b p) ∷ s.frames) done s.verbatim)
tree_step line (moves.Turns p) s = turn_frame line p s.nodes s.verbatim s.frames
tree_step line (moves.Ends b) s = end_frame line b s.nodes s.verbatim s.frames
tree_step line (moves.Fails kind) s = Err (fault line kind)

module _ (text : List ℕ) (unclosed : Option ℕ) where
  abbrev rests : Verbatim → List Piece → Rest
  rests v ps = rest_of text unclosed v ps

  -- what the text is, from a state and the pieces that follow
  abbrev pub told : State → List Piece → Result Tree Fault
  told s ps = whole (outer s.frames (in_front (append s.nodes) (rests s.verbatim ps)))

  abbrev Goes : Result State Fault → List Piece → Result Tree Fault → Type 0
  Goes (Ok t) ps all = told t ps ≡ all
  Goes (Err e) ps all = all ≡ Err e

  abbrev moved : State → ℕ → Move → List Piece → Result Tree Fault
  moved s line m ps = whole (outer s.frames (in_front (append s.nodes) (after_move s.verbatim line m (λ w. rests w ps))))

  abbrev turn_rest : Opening → Tree → ℕ → Part → Rest → Bool → Rest
  turn_rest o body line p after b = elim b [ true ↦ block_from (next_opening o body line p) after | false ↦ faulty (fault line LiquidSyntax) ]

  abbrev end_rest : Opening → Tree → ℕ → Rest → Bool → Rest
  end_rest o body line after b = elim b [ true ↦ closed o body after | false ↦ faulty (fault line LiquidSyntax) ]

  turn_goes_by : (line : ℕ) (p : Part) (nodes : Tree) (v : Verbatim) (f : Frame) (fs : List Frame) (ps : List Piece) (b : Bool)
      → Goes (cond b (Ok (state (frame f.before (next_opening f.opening nodes line p) ∷ fs) done v)) (Err (fault line LiquidSyntax))) ps (whole (outer fs (in_front (append f.before) (turn_rest f.opening nodes line p (rests v ps) b))))
  turn_goes_by line p nodes v f fs ps true = ap (λ r. whole (outer fs (in_front (append f.before) (block_from (next_opening f.opening nodes line p) r)))) (front_done (rests v ps))
  turn_goes_by line p nodes v f fs ps false = ap whole (outer-faulty fs (fault line LiquidSyntax))

  turn_goes : (line : ℕ) (p : Part) (nodes : Tree) (v : Verbatim) (fs : List Frame) (ps : List Piece) → Goes (turn_frame line p nodes v fs) ps (whole (outer fs (turned nodes line p (rests v ps))))
  turn_goes line p nodes v [] ps = refl
  turn_goes line p nodes v (f ∷ fs) ps = turn_goes_by line p nodes v f fs ps (may_follow (name_of f.opening.block) (is_last f.opening.part) p)

  end_goes_by : (line : ℕ) (nodes : Tree) (v : Verbatim) (f : Frame) (fs : List Frame) (ps : List Piece) (b : Bool)
      → Goes (cond b (Ok (state fs (append f.before (block f.opening.line f.opening.block (with_body f.opening nodes) done)) v)) (Err (fault line LiquidSyntax))) ps (whole (outer fs (in_front (append f.before) (end_rest f.opening nodes line (rests v ps) b))))
  end_goes_by line nodes v f fs ps true =
      let inner = block f.opening.line f.opening.block (with_body f.opening nodes) in
      ap (λ r. whole (outer fs r)) (front_twice f.before (append (append f.before (inner done))) inner (rests v ps) (λ t. append-append f.before (inner done) t))
  end_goes_by line nodes v f fs ps false = ap whole (outer-faulty fs (fault line LiquidSyntax))

  end_goes : (line : ℕ) (b : BlockName) (nodes : Tree) (v : Verbatim) (fs : List Frame) (ps : List Piece) → Goes (end_frame line b nodes v fs) ps (whole (outer fs (ended nodes line b (rests v ps))))
  end_goes line b nodes v [] ps = refl
  end_goes line b nodes v (f ∷ fs) ps = end_goes_by line nodes v f fs ps (same_block (name_of f.opening.block) b)

  step_goes : (line : ℕ) (m : Move) (s : State) (ps : List Piece) → Goes (tree_step line m s) ps (moved s line m ps)
  step_goes line (moves.Passes v) s ps = refl
  step_goes line (moves.Adds l) s ps = ap (λ r. whole (outer s.frames r)) (front_twice s.nodes (append (append s.nodes (leaf line l done))) (leaf line l) (rests s.verbatim ps) (λ t. append-append s.nodes (leaf line l done) t))
  step_goes line (moves.Opens b p) s ps = ap (λ r. whole (outer s.frames (in_front (append s.nodes) (block_from (first_opening line b p) r)))) (front_done (rests s.verbatim ps))
  step_goes line (moves.Turns p) s ps = subst (λ t. Goes (tree_step line (moves.Turns p) s) ps (whole (outer s.frames (turned t line p (rests s.verbatim ps))))) (sym (append-done s.nodes)) (turn_goes line p s.nodes s.verbatim s.frames ps)
  step_goes line (moves.Ends b) s ps = subst (λ t. Goes (tree_step line (moves.Ends b) s) ps (whole (outer s.frames (ended t line b (rests s.verbatim ps))))) (sym (append-done s.nodes)) (end_goes line b s.nodes s.verbatim s.frames ps)
  step_goes line (moves.Fails kind) s ps = ap whole (outer-faulty s.frames (fault line kind))

-- ---- The flat list and the stack of a state

abbrev head_of : Opening → Node
head_of o = node.Block o.line o.block 0

abbrev part_of : Opening → Node
part_of o = node.Part o.part_line o.part 0

abbrev pub layout : List Frame → Tree → List Node
layout [] nodes = flat nodes
layout (f ∷ fs) nodes = layout fs f.before ++ head_of f.opening ∷ (flat f.opening.parts ++ part_of f.opening ∷ flat nodes)

abbrev open_of : Opening → ℕ → Open
open_of o at = open_is o.line at (at + 1 + length (flat o.parts)) (name_of o.block) (is_last o.part)

abbrev pub opens : List Frame → List Open
opens [] = []
opens (f ∷ fs) = opens fs ++ open_of f.opening (length (layout fs f.before)) ∷ []

pub record Shows (f : Flat) (s : State) : Type 0 where
  pub nodes_are : f.nodes ≡ layout s.frames s.nodes
  pub stack_is : f.stack ≡ opens s.frames
  pub verbatim_is : f.verbatim ≡ s.verbatim

-- more nodes at the end
layout_more : (fs : List Frame) (nodes g : Tree) → layout fs (append nodes g) ≡ layout fs nodes ++ flat g
layout_more [] nodes g = flat-append nodes g
layout_more (f ∷ fs) nodes g =
    ap (λ (xs : List Node). layout fs f.before ++ head_of f.opening ∷ (flat f.opening.parts ++ part_of f.opening ∷ xs)) (flat-append nodes g) ∙ regroup (layout fs f.before) (flat f.opening.parts) (flat nodes) (flat g) (head_of f.opening) (part_of f.opening) where
      regroup : (a b c d : List Node) (h p : Node) → a ++ h ∷ (b ++ p ∷ (c ++ d)) ≡ (a ++ h ∷ (b ++ p ∷ c)) ++ d
      regroup a b c d h p = simp append_assoc

set_at : (front tail : List Node) (n : Node) (len place : ℕ) → place ≡ length front → set_len len place (front ++ n ∷ tail) ≡ front ++ with_len len n ∷ tail
set_at [] tail n len zero e = refl
set_at [] tail n len (suc place) e = absurd (omega arith)
set_at (x ∷ xs) tail n len zero e = absurd (omega arith)
set_at (x ∷ xs) tail n len (suc place) e = ap (λ (r : List Node). x ∷ r) (set_at xs tail n len place (omega arith))

close_front : (front tail : List Node) (n : Node) (place : ℕ) → place ≡ length front → close_at place (front ++ n ∷ tail) ≡ front ++ with_len (length tail) n ∷ tail
close_front front tail n place e =
    let len : length (front ++ n ∷ tail) - place - 1 ≡ length tail = omega (arith, e, length-append front (n ∷ tail)) in
    ap (λ k. set_len k place (front ++ n ∷ tail)) len ∙ set_at front tail n (length tail) place e

-- the open part of the innermost block has all that stands behind it
close_part : (fs : List Frame) (f : Frame) (nodes : Tree) (place : ℕ) → place ≡ length (layout fs f.before) + 1 + length (flat f.opening.parts) → close_at place (layout (f ∷ fs) nodes) ≡ layout fs f.before ++ head_of f.opening ∷ flat (with_body f.opening nodes)
close_part fs f nodes place e =
    let o = f.opening in
    let a = layout fs f.before in
    let front : List Node = a ++ head_of o ∷ flat o.parts in
    let split : layout (f ∷ fs) nodes ≡ front ++ part_of o ∷ flat nodes = sym (append_assoc a (head_of o ∷ flat o.parts) (part_of o ∷ flat nodes)) in
    let len : place ≡ length front = omega (arith, e, length-append a (head_of o ∷ flat o.parts)) in
    let body : flat (with_body o nodes) ≡ flat o.parts ++ node.Part o.part_line o.part (length (flat nodes)) ∷ flat nodes = flat-append o.parts (part o.part_line o.part nodes done) ∙ ap (λ (xs : List Node). flat o.parts ++ node.Part o.part_line o.part (length (flat nodes)) ∷ xs) (append-nil (flat nodes)) in
    ap (close_at place) split ∙ close_front front (flat nodes) (part_of o) place len ∙ append_assoc a (head_of o ∷ flat o.parts) (node.Part o.part_line o.part (length (flat nodes)) ∷ flat nodes)
    ∙ ap (λ (xs : List Node). a ++ head_of o ∷ xs) (sym body)

abbrev Simulates : Result Flat Fault → Result State Fault → Type 0
Simulates (Ok f) (Ok s) = Shows f s
Simulates (Err e) (Err d) = e ≡ d
Simulates (Ok f) (Err d) = ⊥
Simulates (Err e) (Ok s) = ⊥

abbrev now_at : List Frame → Tree → Verbatim → Flat
now_at fs nodes v = flat_is (layout fs nodes) (opens fs) v

abbrev open_at : List Frame → Frame → Open
open_at fs f = open_of f.opening (length (layout fs f.before))

next_place : (fs : List Frame) (f : Frame) (nodes : Tree) → length (layout (f ∷ fs) nodes) ≡ length (layout fs f.before) + 1 + length (flat (with_body f.opening nodes))
next_place fs f nodes =
    let o = f.opening in
    omega (
      arith,
      length-append (layout fs f.before) (head_of o ∷ (flat o.parts ++ part_of o ∷ flat nodes)),
      length-append (flat o.parts) (part_of o ∷ flat nodes),
      ap length (flat-append o.parts (part o.part_line o.part nodes done)),
      length-append (flat o.parts) (node.Part o.part_line o.part (length (flat nodes)) ∷ (flat nodes ++ [])),
      length-append (flat nodes) [],
    )

turn_by : (line : ℕ) (p : Part) (nodes : Tree) (v : Verbatim) (fs : List Frame) (f : Frame) (b : Bool) → may_follow (name_of f.opening.block) (is_last f.opening.part) p ≡ b → Simulates (turn line p (now_at (f ∷ fs) nodes v) (Some (open_at fs f))) (turn_frame line p nodes v (f ∷ fs))
turn_by line p nodes v fs f true e =
    rw e (record {
      nodes_are = ap (λ (xs : List Node). xs ++ node.Part line p 0 ∷ []) (close_part fs f nodes (open_at fs f).part refl) ∙ append_assoc (layout fs f.before) (head_of f.opening ∷ flat (with_body f.opening nodes)) (node.Part line p 0 ∷ []);
      stack_is = ap (λ (xs : List Open). xs ++ open_is f.opening.line (length (layout fs f.before)) (length (layout (f ∷ fs) nodes)) (name_of f.opening.block) (is_last p) ∷ []) (below-last (opens fs) (open_at fs f))
          ∙ ap (λ k. opens fs ++ open_is f.opening.line (length (layout fs f.before)) k (name_of f.opening.block) (is_last p) ∷ []) (next_place fs f nodes);
      verbatim_is = refl;
    })
turn_by line p nodes v fs f false e = rw e refl

turn_shows : (line : ℕ) (p : Part) (nodes : Tree) (v : Verbatim) (fs : List Frame) → Simulates (turn line p (now_at fs nodes v) (top (opens fs))) (turn_frame line p nodes v fs)
turn_shows line p nodes v [] = refl
turn_shows line p nodes v (f ∷ fs) =
    subst (λ t. Simulates (turn line p (now_at (f ∷ fs) nodes v) t) (turn_frame line p nodes v (f ∷ fs))) (sym (top-last (opens fs) (open_at fs f))) (turn_by line p nodes v fs f (may_follow (name_of f.opening.block) (is_last f.opening.part) p) refl)

end_by : (line : ℕ) (n : BlockName) (nodes : Tree) (v : Verbatim) (fs : List Frame) (f : Frame) (b : Bool) → same_block (name_of f.opening.block) n ≡ b → Simulates (end line n (now_at (f ∷ fs) nodes v) (Some (open_at fs f))) (end_frame line n nodes v (f ∷ fs))
end_by line n nodes v fs f true e =
    rw e (record {
      nodes_are = ap (close_at (length (layout fs f.before))) (close_part fs f nodes (open_at fs f).part refl) ∙ close_front (layout fs f.before) (flat (with_body f.opening nodes)) (head_of f.opening) (length (layout fs f.before)) refl
          ∙ ap (λ (xs : List Node). layout fs f.before ++ node.Block f.opening.line f.opening.block (length (flat (with_body f.opening nodes))) ∷ xs) (sym (append-nil (flat (with_body f.opening nodes))))
          ∙ sym (layout_more fs f.before (block f.opening.line f.opening.block (with_body f.opening nodes) done));
      stack_is = below-last (opens fs) (open_at fs f);
      verbatim_is = refl;
    })
end_by line n nodes v fs f false e = rw e refl

end_shows : (line : ℕ) (n : BlockName) (nodes : Tree) (v : Verbatim) (fs : List Frame) → Simulates (end line n (now_at fs nodes v) (top (opens fs))) (end_frame line n nodes v fs)
end_shows line n nodes v [] = refl
end_shows line n nodes v (f ∷ fs) =
    subst (λ t. Simulates (end line n (now_at (f ∷ fs) nodes v) t) (end_frame line n nodes v (f ∷ fs))) (sym (top-last (opens fs) (open_at fs f))) (end_by line n nodes v fs f (same_block (name_of f.opening.block) n) refl)

step_now : (line : ℕ) (m : Move) (s : State) → Simulates (step line m (now_at s.frames s.nodes s.verbatim)) (tree_step line m s)
step_now line (moves.Passes v) s = record { nodes_are = refl; stack_is = refl; verbatim_is = refl }
step_now line (moves.Adds l) s = record { nodes_are = sym (layout_more s.frames s.nodes (leaf line l done)); stack_is = refl; verbatim_is = refl }
step_now line (moves.Opens b p) s = record {
  nodes_are = refl;
  stack_is = ap (λ k. opens s.frames ++ open_is line (length (layout s.frames s.nodes)) k (name_of b) (is_last p) ∷ []) (let e : length (layout s.frames s.nodes) + 1 ≡ length (layout s.frames s.nodes) + 1 + 0 = omega arith in e);
  verbatim_is = refl;
}
step_now line (moves.Turns p) s = turn_shows line p s.nodes s.verbatim s.frames
step_now line (moves.Ends b) s = end_shows line b s.nodes s.verbatim s.frames
step_now line (moves.Fails kind) s = refl

flat_shown : (f : Flat) (s : State) → Shows f s → f ≡ now_at s.frames s.nodes s.verbatim
flat_shown f s h = ap (λ (ns : List Node). flat_is ns f.stack f.verbatim) h.nodes_are ∙ ap (λ (os : List Open). flat_is (layout s.frames s.nodes) os f.verbatim) h.stack_is ∙ ap (λ (v : Verbatim). flat_is (layout s.frames s.nodes) (opens s.frames) v) h.verbatim_is

step_shows : (line : ℕ) (m : Move) (f : Flat) (s : State) → Shows f s → Simulates (step line m f) (tree_step line m s)
step_shows line m f s h = subst (λ (g : Flat). Simulates (step line m g) (tree_step line m s)) (sym (flat_shown f s h)) (step_now line m s)

-- ---- All pieces

abbrev pub Tells : Result (List Node) Fault → Result Tree Fault → Type 0
Tells (Ok ns) (Ok t) = ns ≡ flat t
Tells (Err e) (Err d) = d ≡ e
Tells (Ok ns) (Err d) = ⊥
Tells (Err e) (Ok t) = ⊥

tells_fault : (r : Result Tree Fault) (e : Fault) → r ≡ Err e → Tells (Err e) r
tells_fault (Ok t) e h = absurd cc
tells_fault (Err d) e h = cc

tells_nodes : (r : Result Tree Fault) (t : Tree) → r ≡ Ok t → Tells (Ok (flat t)) r
tells_nodes (Ok u) t h = let k : t ≡ u = cc in ap flat k
tells_nodes (Err d) t h = absurd cc

module _ (text : List ℕ) (unclosed : Option ℕ) where
  -- the text's end
  end_faulty : (fs : List Frame) (nodes : Tree) (line : ℕ) → Tells (Err (fault line LiquidSyntax)) (whole (outer fs (faulty (fault line LiquidSyntax))))
  end_faulty fs nodes line = tells_fault _ (fault line LiquidSyntax) (ap whole (outer-faulty fs (fault line LiquidSyntax)))

  end_open : (fs : List Frame) (nodes : Tree) → Tells (finished (layout fs nodes) (open_line verbatim.Not (top (opens fs)))) (whole (outer fs (at_end nodes)))
  end_open [] nodes = refl
  end_open (f ∷ fs) nodes =
      subst (λ t. Tells (finished (layout (f ∷ fs) nodes) (open_line verbatim.Not t)) (whole (outer (f ∷ fs) (at_end nodes)))) (sym (top-last (opens fs) (open_at fs f))) (tells_fault _ (fault f.opening.line LiquidSyntax) (ap whole (outer-faulty fs (fault f.opening.line LiquidSyntax))))

  finish_now : (u : Option ℕ) (fs : List Frame) (nodes : Tree) (v : Verbatim) → Tells (finish u v (now_at fs nodes v)) (whole (outer fs (in_front (append nodes) (last_rest u v))))
  finish_now (Some line) fs nodes v = end_faulty fs nodes line
  finish_now None fs nodes verbatim.Not = subst (λ t. Tells (finished (layout fs nodes) (open_line verbatim.Not (top (opens fs)))) (whole (outer fs (at_end t)))) (sym (append-done nodes)) (end_open fs nodes)
  finish_now None fs nodes (verbatim.Raw line) = end_faulty fs nodes line
  finish_now None fs nodes (verbatim.Comment line) = end_faulty fs nodes line

  abbrev RunsOn : List Piece → Type 0
  RunsOn ps = (f : Flat) (s : State) → Shows f s → Tells (run text unclosed ps f) (told text unclosed s ps)

  run_next : (ps : List Piece) (all : Result Tree Fault) (r : Result Flat Fault) (q : Result State Fault) → RunsOn ps → Simulates r q → Goes text unclosed q ps all → Tells (then_run r (λ g. run text unclosed ps g)) all
  run_next ps all (Ok f) (Ok s) runs shows goes = subst (Tells (run text unclosed ps f)) goes (runs f s shows)
  run_next ps all (Ok f) (Err d) runs shows goes = absurd shows
  run_next ps all (Err e) (Ok s) runs shows goes = absurd shows
  run_next ps all (Err e) (Err d) runs shows goes = tells_fault all e (goes ∙ ap (λ (x : Fault). Err x) (sym shows))

  run_tells : (ps : List Piece) → RunsOn ps
  run_tells [] = λ f s h. subst (λ (g : Flat). Tells (finish unclosed g.verbatim g) (told text unclosed s [])) (sym (flat_shown f s h)) (finish_now unclosed s.frames s.nodes s.verbatim)
  run_tells (p ∷ ps) = λ f s h.
      let m = move_in f.verbatim p.line (item_of text p) in
      let same : move_in s.verbatim p.line (item_of text p) ≡ m = ap (λ (v : Verbatim). move_in v p.line (item_of text p)) (sym h.verbatim_is) in
      let goes : Goes text unclosed (tree_step p.line m s) ps (told text unclosed s (p ∷ ps)) = subst (λ (x : Move). Goes text unclosed (tree_step p.line x s) ps (told text unclosed s (p ∷ ps))) same (step_goes text unclosed p.line (move_in s.verbatim p.line (item_of text p)) s ps) in
      run_next ps (told text unclosed s (p ∷ ps)) (step p.line m f) (tree_step p.line m s) (run_tells ps) (step_shows p.line m f s h) goes

  pub run_is : (ps : List Piece) → Tells (run text unclosed ps (flat_is [] [] verbatim.Not)) (whole (rest_of text unclosed verbatim.Not ps))
  run_is ps =
      subst (λ r. Tells (run text unclosed ps (flat_is [] [] verbatim.Not)) (whole r)) (front_done (rest_of text unclosed verbatim.Not ps))
      (run_tells ps (flat_is [] [] verbatim.Not) (state [] done verbatim.Not) (record { nodes_are = refl; stack_is = refl; verbatim_is = refl }))
