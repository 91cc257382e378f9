-- The nodes of a template while they are made, piece by piece.
use Rattle.std.specs.Prelude.{◌≡◌, ℕ, zero, suc, ◌+◌, ◌-◌, Bool, List, [], ◌∷◌, ◌++◌, length, if◌then◌else◌, Option, Some, None, Result, Ok, Err}
use Rattle.site_base.specs.declared.faults.FaultKind.TheVariants.{LiquidSyntax}
use Rattle.liquid_grammar.specs.declared.piece.Piece.{Piece}
use Rattle.liquid_grammar.specs.declared.item.Part.{Part}
use Rattle.liquid_grammar.specs.declared.item.BlockName.{BlockName}
use Rattle.liquid_grammar.specs.declared.item.Block.{Block}
use Rattle.liquid_grammar.specs.declared.item.Verbatim.{Verbatim}
use Rattle.liquid_grammar.specs.declared.item.Verbatim.TheVariants as verbatim
use Rattle.liquid_grammar.specs.declared.item.Move.{Move}
use Rattle.liquid_grammar.specs.declared.item.Move.TheVariants as moves
use Rattle.liquid_grammar.specs.Items.{item_of}
use Rattle.liquid_grammar.specs.Trees.{Fault, fault, name_of, is_last, may_follow, same_block, move_in}
use Rattle.liquid_parse.specs.declared.node.Node.{Node}
use Rattle.liquid_parse.specs.declared.node.Node.TheVariants as node
use Rattle.liquid_parse.specs.declared.building.Open.{Open}
use Rattle.liquid_parse.specs.declared.building.Building.{Building}
use Rattle.liquid_parse.specs.declared.error.ParseError.{ParseError}
use Rattle.liquid_parse.specs.declared.error.ParseError.TheVariants as parse_error

pub record Flat : Type 0 where
  pub nodes : List Node
  pub stack : List Open
  pub verbatim : Verbatim

abbrev pub flat_is : List Node → List Open → Verbatim → Flat
flat_is nodes stack v = record { nodes = nodes; stack = stack; verbatim = v }

abbrev pub flat_of : Building → Flat
flat_of b = flat_is b.nodes.items b.stack.items b.verbatim

-- the innermost open block, and the others
abbrev pub top : List Open → Option Open
top [] = None
top (o ∷ []) = Some o
top (o ∷ q ∷ os) = top (q ∷ os)

abbrev pub below : List Open → List Open
below [] = []
below (o ∷ []) = []
below (o ∷ q ∷ os) = o ∷ below (q ∷ os)

abbrev pub with_len : ℕ → Node → Node
with_len len (node.Leaf line l) = node.Leaf line l
with_len len (node.Block line b old) = node.Block line b len
with_len len (node.Part line p old) = node.Part line p len

-- a node that has all of the nodes behind it
abbrev pub set_len : ℕ → ℕ → List Node → List Node
set_len len place [] = []
set_len len zero (n ∷ ns) = with_len len n ∷ ns
set_len len (suc place) (n ∷ ns) = n ∷ set_len len place ns

abbrev pub close_at : ℕ → List Node → List Node
close_at place nodes = set_len (length nodes - place - 1) place nodes

abbrev pub open_is : ℕ → ℕ → ℕ → BlockName → Bool → Open
open_is line node part name last = record { line = line; node = node; part = part; name = name; is_last = last }

abbrev pub refused : ℕ → Result Flat Fault
refused line = Err (fault line LiquidSyntax)

abbrev pub opened : ℕ → Block → Part → Flat → Flat
opened line b p f =
    flat_is (f.nodes ++ (node.Block line b 0 ∷ node.Part line p 0 ∷ [])) (f.stack ++ open_is line (length f.nodes) (length f.nodes + 1) (name_of b) (is_last p) ∷ []) f.verbatim

abbrev pub turned_at : ℕ → Part → Flat → Open → Flat
turned_at line p f o =
    flat_is (close_at o.part f.nodes ++ node.Part line p 0 ∷ []) (below f.stack ++ open_is o.line o.node (length f.nodes) o.name (is_last p) ∷ []) f.verbatim

abbrev pub turn : ℕ → Part → Flat → Option Open → Result Flat Fault
turn line p f None = refused line
turn line p f (Some o) = if may_follow o.name o.is_last p then Ok (turned_at line p f o) else refused line

abbrev pub ended_at : Flat → Open → Flat
ended_at f o = flat_is (close_at o.node (close_at o.part f.nodes)) (below f.stack) f.verbatim

abbrev pub end : ℕ → BlockName → Flat → Option Open → Result Flat Fault
end line b f None = refused line
end line b f (Some o) = if same_block o.name b then Ok (ended_at f o) else refused line

abbrev pub step : ℕ → Move → Flat → Result Flat Fault
step line (moves.Passes v) f = Ok (flat_is f.nodes f.stack v)
step line (moves.Adds l) f = Ok (flat_is (f.nodes ++ node.Leaf line l ∷ []) f.stack f.verbatim)
step line (moves.Opens b p) f = Ok (opened line b p f)
step line (moves.Turns p) f = turn line p f (top f.stack)
step line (moves.Ends b) f = end line b f (top f.stack)
step line (moves.Fails kind) f = Err (fault line kind)

-- the line of what is open at the end: a raw text, a comment, or the innermost block
abbrev pub open_line : Verbatim → Option Open → Option ℕ
open_line verbatim.Not None = None
open_line verbatim.Not (Some o) = Some o.line
open_line (verbatim.Raw line) o = Some line
open_line (verbatim.Comment line) o = Some line

abbrev pub finished : List Node → Option ℕ → Result (List Node) Fault
finished nodes None = Ok nodes
finished nodes (Some line) = Err (fault line LiquidSyntax)

abbrev pub first_line : Option ℕ → Option ℕ → Option ℕ
first_line None other = other
first_line (Some line) other = Some line

abbrev pub finish : Option ℕ → Verbatim → Flat → Result (List Node) Fault
finish unclosed v f = finished f.nodes (first_line unclosed (open_line v (top f.stack)))

abbrev pub then_run : Result Flat Fault → (Flat → Result (List Node) Fault) → Result (List Node) Fault
then_run (Ok f) run = run f
then_run (Err e) run = Err e

abbrev pub piece_step : List ℕ → Piece → Flat → Result Flat Fault
piece_step text p f = step p.line (move_in f.verbatim p.line (item_of text p)) f

abbrev pub then_step : Result Flat Fault → (Flat → Result Flat Fault) → Result Flat Fault
then_step (Ok f) more = more f
then_step (Err e) more = Err e

-- some pieces of a text, one after another
abbrev pub steps : List ℕ → List Piece → Flat → Result Flat Fault
steps text [] f = Ok f
steps text (p ∷ ps) f = then_step (piece_step text p f) (λ g. steps text ps g)

-- the pieces of a text, one after another
module _ (text : List ℕ) (unclosed : Option ℕ) where
  abbrev pub run : List Piece → Flat → Result (List Node) Fault
  run [] f = finish unclosed f.verbatim f
  run (p ∷ ps) f = then_run (piece_step text p f) (λ g. run ps g)

-- what a call leaves, or its fault, unless memory was wanting
abbrev pub Steps : {X : Type 0} → Result X ParseError → Flat → Result Flat Fault → Type 0
Steps (Ok x) now r = r ≡ Ok now
Steps (Err (parse_error.Fault line kind)) now r = r ≡ Err (fault line kind)
Steps (Err parse_error.Memory) now r = Unit {0}
