-- All pieces of a text, as a loop takes them.
use Rattle.std.proofs.Common.{◌≡◌, ℕ, ◌+◌, ◌<◌, ◌≤◌, List, [], ◌∷◌, ◌++◌, length, drop, get_or, Option, Result, Ok, Err, refl, sym, ap, subst, ◌∙◌}
use Rattle.std.proofs.lemmas.List.{drop_all, drop_more}
use Rattle.liquid_grammar.specs.declared.piece.Piece.{Piece}
use Rattle.liquid_grammar.specs.declared.item.Verbatim.TheVariants.{Not}
use Rattle.liquid_grammar.specs.Pieces.{Cut, cut_is, with_front, cut_of}
use Rattle.liquid_grammar.specs.Tags.{inside}
use Rattle.liquid_grammar.specs.Items.{item_in}
use Rattle.liquid_grammar.specs.Trees.{Tree, Fault, fault, tree, move_in}
use Rattle.liquid_parse.specs.declared.node.Node.{Node}
use Rattle.liquid_parse.specs.declared.error.ParseError.{ParseError}
use Rattle.liquid_parse.specs.declared.error.ParseError.TheVariants as parse_error
use Rattle.liquid_parse.specs.Flat.{flat, tree_of, IsFlat}
use Rattle.liquid_parse.specs.FlatLaws.{tree_of-flat, IsFlat-flat}
use Rattle.liquid_parse.specs.Machine.{Flat, flat_is, step, piece_step, then_run, then_step, steps, finish, run, Steps}
use Rattle.liquid_parse.specs.Parsed.{ParseFails}
use Rattle.liquid_parse.proofs.Simulation.{Tells, run_is}

module _ (text : List ℕ) where
  -- what the pieces make
  abbrev pub total : Result (List Node) Fault
  total = run text (cut_of text).unclosed (cut_of text).pieces (flat_is [] [] Not)

  -- what is made of the pieces that are left is that
  abbrev pub Runs : List Piece → Flat → Type 0
  Runs ps f = run text (cut_of text).unclosed ps f ≡ total

  total_tells : Tells total (tree text)
  total_tells = run_is text (cut_of text).unclosed (cut_of text).pieces

  told_fault : (r : Result (List Node) Fault) (t : Result Tree Fault) (e : Fault) → Tells r t → r ≡ Err e → t ≡ Err e
  told_fault (Ok ns) t e h k = absurd cc
  told_fault (Err d) (Ok t) e h k = absurd h
  told_fault (Err d) (Err c) e h k = let same : d ≡ e = cc in ap (λ (x : Fault). Err x) (h ∙ same)

  pub faulty_text : (e : Fault) → total ≡ Err e → tree text ≡ Err e
  faulty_text e h = told_fault total (tree text) e total_tells h

  told_nodes : (r : Result (List Node) Fault) (t : Result Tree Fault) (ns : List Node) → Tells r t → r ≡ Ok ns → (t ≡ Ok (tree_of ns)) × IsFlat ns
  told_nodes (Err d) t ns h k = absurd cc
  told_nodes (Ok ms) (Err c) ns h k = absurd h
  told_nodes (Ok ms) (Ok t) ns h k =
      let same : ns ≡ flat t = (let e : ms ≡ ns = cc in sym e) ∙ h in
      (ap (λ (x : Tree). Ok x) (sym (ap tree_of same ∙ tree_of-flat t)), subst IsFlat (sym same) (IsFlat-flat t))

  pub whole_text : (ns : List Node) → total ≡ Ok ns → (tree text ≡ Ok (tree_of ns)) × IsFlat ns
  whole_text ns h = told_nodes total (tree text) ns total_tells h

  pub runs_begin : (ps : List Piece) (unclosed : Option ℕ) (f : Flat) → cut_is ps unclosed ≡ cut_of text → f ≡ flat_is [] [] Not → Runs ps f
  runs_begin ps unclosed f e is = ap (λ (c : Cut). run text (cut_of text).unclosed c.pieces f) e ∙ ap (run text (cut_of text).unclosed (cut_of text).pieces) is

  pub fails_end : (error : ParseError) (said : Result (List Node) Fault) → ParseFails error said → said ≡ total → ParseFails error (tree text)
  fails_end parse_error.Memory said h e = tt
  fails_end (parse_error.Fault line kind) said h e = faulty_text (fault line kind) (sym e ∙ h)

-- ---- some pieces, and then others

run_behind : (text : List ℕ) (unclosed : Option ℕ) (qs : List Piece) (r : Result Flat Fault) (k : Flat → Result Flat Fault)
    → then_run (then_step r k) (λ g. run text unclosed qs g) ≡ then_run r (λ f. then_run (k f) (λ g. run text unclosed qs g))
run_behind text unclosed qs (Ok f) k = refl
run_behind text unclosed qs (Err e) k = refl

then_same : (r : Result Flat Fault) (k l : Flat → Result (List Node) Fault) → ((f : Flat) → k f ≡ l f) → then_run r k ≡ then_run r l
then_same (Ok f) k l same = same f
then_same (Err e) k l same = refl

run_append : (text : List ℕ) (unclosed : Option ℕ) (ps qs : List Piece) (f : Flat) → run text unclosed (ps ++ qs) f ≡ then_run (steps text ps f) (λ g. run text unclosed qs g)
run_append text unclosed [] qs f = refl
run_append text unclosed (p ∷ ps) qs f =
    then_same (piece_step text p f) (λ g. run text unclosed (ps ++ qs) g) (λ g. then_run (steps text ps g) (λ h. run text unclosed qs h)) (run_append text unclosed ps qs)
    ∙ sym (run_behind text unclosed qs (piece_step text p f) (λ g. steps text ps g))

module _ (text : List ℕ) (ps : List Piece) (i : ℕ) (d : Piece) (f : Flat) (lt : i < length ps) (s : List ℕ) (is : s ≡ inside text (get_or ps i d).inner) where
  abbrev stepped_to : Result Flat Fault
  stepped_to = step (get_or ps i d).line (move_in f.verbatim (get_or ps i d).line (item_in (get_or ps i d).kind s)) f

  one_of_steps : steps text (drop i ps) f ≡ then_step stepped_to (λ g. steps text (drop (i + 1) ps) g)
  one_of_steps =
      ap (λ xs. steps text xs f) (drop_more ps i d lt)
      ∙ ap (λ (x : List ℕ). then_step (step (get_or ps i d).line (move_in f.verbatim (get_or ps i d).line (item_in (get_or ps i d).kind x)) f) (λ g. steps text (drop (i + 1) ps) g)) (sym is)

  pub steps_on : (g : Flat) (all : Result Flat Fault) → stepped_to ≡ Ok g → steps text (drop i ps) f ≡ all → steps text (drop (i + 1) ps) g ≡ all
  steps_on g all e told = ap (λ r. then_step r (λ h. steps text (drop (i + 1) ps) h)) (sym e) ∙ sym one_of_steps ∙ told

  pub steps_stop : (error : ParseError) (g now : Flat) (all : Result Flat Fault) → Steps {X = Unit {0}} (Err error) g stepped_to → steps text (drop i ps) f ≡ all → Steps {X = Unit {0}} (Err error) now all
  steps_stop parse_error.Memory g now all h told = tt
  steps_stop (parse_error.Fault line kind) g now all h told = sym told ∙ one_of_steps ∙ ap (λ r. then_step r (λ x. steps text (drop (i + 1) ps) x)) h

pub steps_end : (text : List ℕ) (ps : List Piece) (i : ℕ) (f : Flat) (all : Result Flat Fault) → length ps ≤ i → steps text (drop i ps) f ≡ all → all ≡ Ok f
steps_end text ps i f all le told = sym told ∙ ap (λ xs. steps text xs f) (drop_all i ps le)

module _ (text : List ℕ) (here later : Cut) (ps : List Piece) (f : Flat) (one : here ≡ with_front ps later) where
  behind : Runs text here.pieces f → then_run (steps text ps f) (λ g. run text (cut_of text).unclosed later.pieces g) ≡ total text
  behind told = sym (run_append text (cut_of text).unclosed ps later.pieces f) ∙ ap (λ (c : Cut). run text (cut_of text).unclosed c.pieces f) (sym one) ∙ told

  pub runs_past : (g : Flat) → steps text ps f ≡ Ok g → Runs text here.pieces f → Runs text later.pieces g
  runs_past g e told = ap (λ r. then_run r (λ h. run text (cut_of text).unclosed later.pieces h)) (sym e) ∙ behind told

  pub runs_fail : (error : ParseError) (g : Flat) → Steps {X = Unit {0}} (Err error) g (steps text ps f) → Runs text here.pieces f → ParseFails error (tree text)
  runs_fail parse_error.Memory g h told = tt
  runs_fail (parse_error.Fault line kind) g h told =
      faulty_text text (fault line kind) (sym (behind told) ∙ ap (λ r. then_run r (λ x. run text (cut_of text).unclosed later.pieces x)) h)

pub runs_out : (text : List ℕ) (here : Cut) (front : List Piece) (unclosed : Option ℕ) (f : Flat) → here ≡ cut_is [] unclosed → with_front front here ≡ cut_of text → Runs text here.pieces f
    → finish unclosed f.verbatim f ≡ total text
runs_out text here front unclosed f e all told =
    let same : (cut_of text).unclosed ≡ unclosed = ap (λ (c : Cut). c.unclosed) (sym all) ∙ ap (λ (c : Cut). c.unclosed) e in
    ap (λ u. finish u f.verbatim f) (sym same) ∙ ap (λ (c : Cut). run text (cut_of text).unclosed c.pieces f) (sym e) ∙ told
