-- Cells of pieces and of nodes.
use Rattle.std.proofs.Common.{◌≡◌, ◌∙◌, Bool, List, None, Option, Some, [], ap, append_assoc, cond, drop, false, length, map, not, option_map, refl, slice_get, suc, sym, take, true, ℕ, ◌&&◌, ◌++◌, ◌==◌, ◌||◌, ◌∷◌}
use Rattle.std.proofs.lemmas.List.{map-append}
use Rattle.markdown_grammar.specs.Emphasis.{Found, as_inlines, last_that, lengths_fit, opens_for, or_here, plain}
use Rattle.markdown_grammar.specs.Links.{is_bracket}
use Rattle.markdown_grammar.specs.Inlines.{Inlines, before_all, code_span, emphasis, hard_break, image, link, no_inlines, raw_html, soft_break, strong, textual}
use Rattle.markdown_grammar.specs.Pieces.{Piece, delimiter_run, finished, open_bracket}
use Rattle.cm_inlines.specs.Cells.{Cell, bracket_cell, cells_in, cells_of, plain_tokens, run_cell, sealed, token_of}
use Rattle.cm_inlines.specs.Machine as machine
use Rattle.cm_inlines.specs.Machine.{changed, is_sought, last_place}
use Rattle.cm_inlines.specs.Nodes.{cells, cells_at}
use Rattle.cm_inlines.specs.Tokens.{Token, soft_token, text_token, tokens}
use Rattle.cm_inlines.specs.Words.{word_tokens}
use Rattle.cm_inlines.specs.declared.changes.Change.TheVariants.{Freeze}
use Rattle.cm_inlines.specs.declared.node.Node.{Node}
use Rattle.cm_spans.specs.Pieces.{mark_byte}
use Rattle.cm_inlines.specs.declared.node.Node.TheVariants as node

-- ---- one after another

pub cells-append : (t : List ℕ) (ms ns : List Node) → cells t (ms ++ ns) ≡ cells t ms ++ cells t ns
cells-append t [] ns = refl
cells-append t (m ∷ ms) ns = ap (λ (cs : List Cell). cells_at t m ++ cs) (cells-append t ms ns) ∙ sym (append_assoc (cells_at t m) (cells t ms) (cells t ns))

pub cells_of-append : (ps qs : List Piece) → cells_of (ps ++ qs) ≡ cells_of ps ++ cells_of qs
cells_of-append [] qs = refl
cells_of-append (p ∷ ps) qs = ap (λ (cs : List Cell). cells_in p ++ cs) (cells_of-append ps qs) ∙ sym (append_assoc (cells_in p) (cells_of ps) (cells_of qs))

pub plain-append : (cs ds : List Cell) → plain_tokens (cs ++ ds) ≡ plain_tokens cs ++ plain_tokens ds
plain-append [] ds = refl
plain-append (c ∷ cs) ds = ap (λ (ts : List Token). token_of c ∷ ts) (plain-append cs ds)

pub plain_sealed : (ts : List Token) → plain_tokens (map sealed ts) ≡ ts
plain_sealed [] = refl
plain_sealed (t ∷ ts) = ap (λ (us : List Token). t ∷ us) (plain_sealed ts)

pub tokens_before : (xs ys : Inlines) → tokens (before_all xs ys) ≡ tokens xs ++ tokens ys
tokens_before no_inlines ys = refl
tokens_before (textual b xs) ys = ap (λ (ts : List Token). text_token b ∷ ts) (tokens_before xs ys)
tokens_before (soft_break xs) ys = ap (λ (ts : List Token). soft_token ∷ ts) (tokens_before xs ys)
tokens_before (hard_break xs) ys = simp (tokens_before xs ys)
tokens_before (code_span b xs) ys = simp (tokens_before xs ys)
tokens_before (raw_html b xs) ys = simp (tokens_before xs ys)
tokens_before (emphasis body xs) ys = simp (tokens_before xs ys, append_assoc)
tokens_before (strong body xs) ys = simp (tokens_before xs ys, append_assoc)
tokens_before (link u t body xs) ys = simp (tokens_before xs ys, append_assoc)
tokens_before (image u t body xs) ys = simp (tokens_before xs ys, append_assoc)

plain_piece : (p : Piece) → plain_tokens (cells_in p) ≡ tokens (as_inlines p)
plain_piece (finished xs) = plain_sealed (tokens xs)
plain_piece (delimiter_run mark len first o c) = refl
plain_piece (open_bracket is_image active behind) = refl

pub plain_is : (ps : List Piece) → plain_tokens (cells_of ps) ≡ tokens (plain ps)
plain_is [] = refl
plain_is (p ∷ ps) =
    plain-append (cells_in p) (cells_of ps) ∙ ap (λ (ts : List Token). ts ++ plain_tokens (cells_of ps)) (plain_piece p) ∙ ap (λ (ts : List Token). tokens (as_inlines p) ++ ts) (plain_is ps)
    ∙ sym (tokens_before (as_inlines p) (plain ps))

-- ---- the last cell that passes

abbrev pub FoundCell : Type 0
FoundCell = List Cell × Cell × List Cell

abbrev pub or_cell : Option FoundCell → Bool → Cell → List Cell → Option FoundCell
or_cell (Some f) b c cs = Some (c ∷ f.0, f.1, f.2)
or_cell None true c cs = Some ([], c, cs)
or_cell None false c cs = None

abbrev pub last_cell : (Cell → Bool) → List Cell → Option FoundCell
last_cell q [] = None
last_cell q (c ∷ cs) = or_cell (last_cell q cs) (q c) c cs

abbrev pub pushed : List Cell → Option FoundCell → Option FoundCell
pushed xs (Some f) = Some (xs ++ f.0, f.1, f.2)
pushed xs None = None

pushed_none : (o : Option FoundCell) → o ≡ pushed [] o
pushed_none (Some f) = refl
pushed_none None = refl

one_failed : (o : Option FoundCell) (xs : List Cell) (c : Cell) (cs : List Cell) (b : Bool) → b ≡ false → or_cell (pushed xs o) b c cs ≡ pushed (c ∷ xs) o
one_failed (Some f) xs c cs b e = refl
one_failed None xs c cs b e = ap (λ (x : Bool). or_cell None x c cs) e

last_sealed : (q : Cell → Bool) → ((t : Token) → q (sealed t) ≡ false) → (ts : List Token) (cs : List Cell) → last_cell q (map sealed ts ++ cs) ≡ pushed (map sealed ts) (last_cell q cs)
last_sealed q fails [] cs = pushed_none (last_cell q cs)
last_sealed q fails (t ∷ ts) cs =
    ap (λ (o : Option FoundCell). or_cell o (q (sealed t)) (sealed t) (map sealed ts ++ cs)) (last_sealed q fails ts cs) ∙ one_failed (last_cell q cs) (map sealed ts) (sealed t) (map sealed ts ++ cs) (q (sealed t)) (fails t)

-- a test of pieces and the same of cells
pub record Matches (qp : Piece → Bool) (qc : Cell → Bool) : Type 0 where
  pub no_finished : (xs : Inlines) → qp (finished xs) ≡ false
  pub no_sealed : (t : Token) → qc (sealed t) ≡ false
  pub runs : (mark len first : ℕ) (o c : Bool) → qc (run_cell mark len first o c) ≡ qp (delimiter_run mark len first o c)
  pub brackets : (is_image active : Bool) (behind : List ℕ) → qc (bracket_cell is_image active behind) ≡ qp (open_bracket is_image active behind)

abbrev pub cell_in : Piece → Cell
cell_in (finished xs) = sealed soft_token
cell_in (delimiter_run mark len first o c) = run_cell mark len first o c
cell_in (open_bracket is_image active behind) = bracket_cell is_image active behind

abbrev pub cells_found : Found → FoundCell
cells_found f = (cells_of f.0, cell_in f.1, cells_of f.2)

finished_case : (o : Option Found) (xs : Inlines) (ps : List Piece) (b : Bool) → b ≡ false → pushed (map sealed (tokens xs)) (option_map cells_found o) ≡ option_map cells_found (or_here o b (finished xs) ps)
finished_case (Some f) xs ps b e = refl
finished_case None xs ps b e = ap (λ (x : Bool). option_map cells_found (or_here None x (finished xs) ps)) (sym e)

run_case : (o : Option Found) (mark len first : ℕ) (op cl : Bool) (ps : List Piece) (b : Bool) → or_cell (option_map cells_found o) b (run_cell mark len first op cl) (cells_of ps) ≡ option_map cells_found (or_here o b (delimiter_run mark len first op cl) ps)
run_case (Some f) mark len first op cl ps b = refl
run_case None mark len first op cl ps true = refl
run_case None mark len first op cl ps false = refl

bracket_case : (o : Option Found) (is_image active : Bool) (behind : List ℕ) (ps : List Piece) (b : Bool) → or_cell (option_map cells_found o) b (bracket_cell is_image active behind) (cells_of ps) ≡ option_map cells_found (or_here o b (open_bracket is_image active behind) ps)
bracket_case (Some f) is_image active behind ps b = refl
bracket_case None is_image active behind ps true = refl
bracket_case None is_image active behind ps false = refl

pub last_pieces : (qp : Piece → Bool) (qc : Cell → Bool) → Matches qp qc → (ps : List Piece) → last_cell qc (cells_of ps) ≡ option_map cells_found (last_that qp ps)
last_pieces qp qc m [] = refl
last_pieces qp qc m (finished xs ∷ ps) =
    last_sealed qc m.no_sealed (tokens xs) (cells_of ps) ∙ ap (pushed (map sealed (tokens xs))) (last_pieces qp qc m ps) ∙ finished_case (last_that qp ps) xs ps (qp (finished xs)) (m.no_finished xs)
last_pieces qp qc m (delimiter_run mark len first o c ∷ ps) =
    ap (λ (x : Option FoundCell). or_cell x (qc (run_cell mark len first o c)) (run_cell mark len first o c) (cells_of ps)) (last_pieces qp qc m ps)
    ∙ ap (λ (b : Bool). or_cell (option_map cells_found (last_that qp ps)) b (run_cell mark len first o c) (cells_of ps)) (m.runs mark len first o c)
    ∙ run_case (last_that qp ps) mark len first o c ps (qp (delimiter_run mark len first o c))
last_pieces qp qc m (open_bracket is_image active behind ∷ ps) =
    ap (λ (x : Option FoundCell). or_cell x (qc (bracket_cell is_image active behind)) (bracket_cell is_image active behind) (cells_of ps)) (last_pieces qp qc m ps)
    ∙ ap (λ (b : Bool). or_cell (option_map cells_found (last_that qp ps)) b (bracket_cell is_image active behind) (cells_of ps)) (m.brackets is_image active behind)
    ∙ bracket_case (last_that qp ps) is_image active behind ps (qp (open_bracket is_image active behind))

-- ---- the same in nodes

-- a node has no cell that passes, or one, which does
abbrev pub NodeCase : (Cell → Bool) → List Cell → Bool → Type 0
NodeCase qc cs true = (c : Cell) × (cs ≡ c ∷ []) × (qc c ≡ true)
NodeCase qc cs false = (ds : List Cell) → last_cell qc (cs ++ ds) ≡ pushed cs (last_cell qc ds)

pub record FoundAt (t : List ℕ) (qn : Node → Bool) (qc : Cell → Bool) (k : ℕ) (ns : List Node) : Type 0 where
  pub node : Node
  pub at : slice_get ns k ≡ Some node
  pub passes : qn node ≡ true
  pub cell : Cell
  pub single : cells_at t node ≡ cell ∷ []
  pub split : ns ≡ take k ns ++ node ∷ drop (suc k) ns
  pub size : length (take k ns) ≡ k
  pub found : last_cell qc (cells t ns) ≡ Some (cells t (take k ns), cell, cells t (drop (suc k) ns))

abbrev pub NodesCase : List ℕ → (Node → Bool) → (Cell → Bool) → List Node → Option ℕ → Type 0
NodesCase t qn qc ns None = last_cell qc (cells t ns) ≡ None
NodesCase t qn qc ns (Some k) = FoundAt t qn qc k ns

found_none : (o : Option FoundCell) (c : Cell) (cs : List Cell) (b : Bool) → o ≡ None → b ≡ true → or_cell o b c cs ≡ Some ([], c, cs)
found_none o c cs b e f = rw (e, f) refl

shifted : (t : List ℕ) (qc : Cell → Bool) (n : Node) (ns : List Node) (b : Bool) (f : FoundCell) → NodeCase qc (cells_at t n) b → last_cell qc (cells t ns) ≡ Some f → last_cell qc (cells t (n ∷ ns)) ≡ Some (cells_at t n ++ f.0, f.1, f.2)
shifted t qc n ns true f (c, e, h) k =
    ap (λ (cs : List Cell). last_cell qc (cs ++ cells t ns)) e ∙ ap (λ (o : Option FoundCell). or_cell o (qc c) c (cells t ns)) k ∙ ap (λ (cs : List Cell). Some (cs ++ f.0, f.1, f.2)) (sym e)
shifted t qc n ns false f h k = h (cells t ns) ∙ ap (pushed (cells_at t n)) k

here_or_none : (t : List ℕ) (qn : Node → Bool) (qc : Cell → Bool) (n : Node) (ns : List Node) (b : Bool) → qn n ≡ b → NodeCase qc (cells_at t n) b → last_cell qc (cells t ns) ≡ None → NodesCase t qn qc (n ∷ ns) (cond b (Some 0) None)
here_or_none t qn qc n ns true e (c, s, h) k = record {
  node = n;
  at = refl;
  passes = e;
  cell = c;
  single = s;
  split = refl;
  size = refl;
  found = ap (λ (cs : List Cell). last_cell qc (cs ++ cells t ns)) s ∙ found_none (last_cell qc (cells t ns)) c (cells t ns) (qc c) k h;
}
here_or_none t qn qc n ns false e h k = h (cells t ns) ∙ ap (pushed (cells_at t n)) k

later : (t : List ℕ) (qn : Node → Bool) (qc : Cell → Bool) (n : Node) (ns : List Node) (b : Bool) (k : ℕ) → NodeCase qc (cells_at t n) b → FoundAt t qn qc k ns → FoundAt t qn qc (suc k) (n ∷ ns)
later t qn qc n ns b k h f = record {
  node = f.node;
  at = f.at;
  passes = f.passes;
  cell = f.cell;
  single = f.single;
  split = ap (λ (xs : List Node). n ∷ xs) f.split;
  size = ap (λ (x : ℕ). suc x) f.size;
  found = shifted t qc n ns b (cells t (take k ns), f.cell, cells t (drop (suc k) ns)) h f.found;
}

pub last_nodes : (t : List ℕ) (qn : Node → Bool) (qc : Cell → Bool) → ((n : Node) → NodeCase qc (cells_at t n) (qn n)) → (ns : List Node) → NodesCase t qn qc ns (last_place qn ns)
last_nodes t qn qc m [] = refl
last_nodes t qn qc m (n ∷ ns) = go (last_place qn ns) (last_nodes t qn qc m ns) where
  go : (o : Option ℕ) → NodesCase t qn qc ns o → NodesCase t qn qc (n ∷ ns) (elim o as (λ x. Option ℕ) [ Some k ↦ Some (suc k) | None ↦ cond (qn n) (Some 0) None ])
  go (Some k) f = later t qn qc n ns (qn n) k (m n) f
  go None e = here_or_none t qn qc n ns (qn n) refl (m n) e

-- ---- the two tests

abbrev pub bracket_test : Cell → Bool
bracket_test (bracket_cell is_image active behind) = true
bracket_test (sealed t) = false
bracket_test (run_cell mark len first o c) = false

abbrev pub opener_test : ℕ → ℕ → Bool → Cell → Bool
opener_test mark first opens (run_cell m len f o both) = o && ((m == mark) && (not (both || opens) || lengths_fit f first))
opener_test mark first opens (sealed t) = false
opener_test mark first opens (bracket_cell is_image active behind) = false

pub bracket_matches : Matches is_bracket bracket_test
bracket_matches = record { no_finished = λ xs. refl; no_sealed = λ t. refl; runs = λ m l f o c. refl; brackets = λ i a b. refl }

pub opener_matches : (mark first : ℕ) (opens : Bool) → Matches (opens_for mark first opens) (opener_test mark first opens)
opener_matches mark first opens = record { no_finished = λ xs. refl; no_sealed = λ t. refl; runs = λ m l f o c. refl; brackets = λ i a b. refl }

single_case : (qc : Cell → Bool) (c : Cell) (b : Bool) → qc c ≡ b → NodeCase qc (c ∷ []) b
single_case qc c true e = (c, refl, e)
single_case qc c false e = λ ds. ap (λ (o : Option FoundCell). or_cell o (qc c) c ds) (pushed_none (last_cell qc ds)) ∙ one_failed (last_cell qc ds) [] c ds (qc c) e

one_sealed : (o : Option FoundCell) (c : Cell) (ds : List Cell) → or_cell o false c ds ≡ pushed (c ∷ []) o
one_sealed (Some f) c ds = refl
one_sealed None c ds = refl

three_sealed : (o : Option FoundCell) (a b c : Cell) (ds : List Cell) → or_cell (or_cell (or_cell o false c ds) false b (c ∷ ds)) false a (b ∷ c ∷ ds) ≡ pushed (a ∷ b ∷ c ∷ []) o
three_sealed (Some f) a b c ds = refl
three_sealed None a b c ds = refl

pub bracket_nodes : (t : List ℕ) (n : Node) → NodeCase bracket_test (cells_at t n) (is_sought machine.Bracket n)
bracket_nodes t (node.Opening o) = single_case bracket_test (bracket_cell o.is_image o.is_active (drop o.behind t)) true refl
bracket_nodes t (node.Run r) = single_case bracket_test (run_cell (mark_byte r.mark) r.len r.first r.opens r.closes) false refl
bracket_nodes t node.Nothing = λ ds. pushed_none (last_cell bracket_test ds)
bracket_nodes t (node.Words s) = λ ds. last_sealed bracket_test (λ u. refl) (word_tokens s.now) ds
bracket_nodes t (node.Uri s) = λ ds. three_sealed (last_cell bracket_test ds) _ _ _ ds
bracket_nodes t (node.Email s) = λ ds. three_sealed (last_cell bracket_test ds) _ _ _ ds
bracket_nodes t n = λ ds. one_sealed (last_cell bracket_test ds) _ ds

pub opener_nodes : (t : List ℕ) (mark first : ℕ) (opens : Bool) (n : Node) → NodeCase (opener_test mark first opens) (cells_at t n) (is_sought (machine.Opener mark first opens) n)
opener_nodes t mark first opens (node.Run r) = single_case (opener_test mark first opens) (run_cell (mark_byte r.mark) r.len r.first r.opens r.closes) (machine.opens_for mark first opens r) refl
opener_nodes t mark first opens (node.Opening o) = single_case (opener_test mark first opens) (bracket_cell o.is_image o.is_active (drop o.behind t)) false refl
opener_nodes t mark first opens node.Nothing = λ ds. pushed_none (last_cell (opener_test mark first opens) ds)
opener_nodes t mark first opens (node.Words s) = λ ds. last_sealed (opener_test mark first opens) (λ u. refl) (word_tokens s.now) ds
opener_nodes t mark first opens (node.Uri s) = λ ds. three_sealed (last_cell (opener_test mark first opens) ds) _ _ _ ds
opener_nodes t mark first opens (node.Email s) = λ ds. three_sealed (last_cell (opener_test mark first opens) ds) _ _ _ ds
opener_nodes t mark first opens n = λ ds. one_sealed (last_cell (opener_test mark first opens) ds) _ ds

-- ---- what is frozen

-- a frozen node is text where it was a run or a bracket
frozen_one : (t : List ℕ) (n : Node) → cells_at t (changed Freeze n) ≡ map sealed (plain_tokens (cells_at t n))
frozen_one t (node.Run r) = refl
frozen_one t (node.Opening o) = refl
frozen_one t (node.Words s) = ap (map sealed) (sym (plain_sealed (word_tokens s.now)))
frozen_one t n = refl

pub frozen : (t : List ℕ) (ns : List Node) → cells t (map (changed Freeze) ns) ≡ map sealed (plain_tokens (cells t ns))
frozen t [] = refl
frozen t (n ∷ ns) =
    ap (λ (cs : List Cell). cs ++ cells t (map (changed Freeze) ns)) (frozen_one t n) ∙ ap (λ (cs : List Cell). map sealed (plain_tokens (cells_at t n)) ++ cs) (frozen t ns)
    ∙ sym (map-append sealed (plain_tokens (cells_at t n)) (plain_tokens (cells t ns))) ∙ ap (map sealed) (sym (plain-append (cells_at t n) (cells t ns)))
