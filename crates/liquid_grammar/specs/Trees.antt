-- The tree of a template, or its first fault: which tags open blocks, which part them and which end them. After the reference of Liquid 4 (Shopify), "Tags"; docs/PROFILE.md says which fault is named.
use Rattle.std.specs.Prelude.{ℕ, Bool, true, false, List, [], ◌∷◌, Option, Some, None, Result, Ok, Err}
use Rattle.site_base.specs.declared.faults.FaultKind.{FaultKind}
use Rattle.site_base.specs.declared.faults.FaultKind.TheVariants.{LiquidSyntax}
use Rattle.liquid_grammar.specs.declared.piece.Piece.{Piece}
use Rattle.liquid_grammar.specs.declared.item.Leaf.{Leaf}
use Rattle.liquid_grammar.specs.declared.item.Block.{Block}
use Rattle.liquid_grammar.specs.declared.item.Block.TheVariants as blocks
use Rattle.liquid_grammar.specs.declared.item.BlockName.{BlockName}
use Rattle.liquid_grammar.specs.declared.item.BlockName.TheVariants as block_name
use Rattle.liquid_grammar.specs.declared.item.Part.{Part}
use Rattle.liquid_grammar.specs.declared.item.Part.TheVariants.{Test, When, Otherwise}
use Rattle.liquid_grammar.specs.declared.item.Item.{Item}
use Rattle.liquid_grammar.specs.declared.item.Item.TheVariants.{Nothing}
use Rattle.liquid_grammar.specs.declared.item.Item.TheVariants as item
use Rattle.liquid_grammar.specs.declared.item.Verbatim.{Verbatim}
use Rattle.liquid_grammar.specs.declared.item.Verbatim.TheVariants.{Not}
use Rattle.liquid_grammar.specs.declared.item.Verbatim.TheVariants as verbatim
use Rattle.liquid_grammar.specs.declared.item.Move.{Move}
use Rattle.liquid_grammar.specs.declared.item.Move.TheVariants.{Passes, Adds, Fails}
use Rattle.liquid_grammar.specs.declared.item.Move.TheVariants as moves
use Rattle.liquid_grammar.specs.Pieces.{Cut, cut_of}
use Rattle.liquid_grammar.specs.Items.{item_of}

-- Nodes one after another: each constructor is a node, with the line of its tag, and with those that follow it.
pub data Tree : Type 0 where
  done : Tree
  leaf : (line : ℕ) → (l : Leaf) → (rest : Tree) → Tree
  -- a block, with its parts one after another
  block : (line : ℕ) → (b : Block) → (parts rest : Tree) → Tree
  -- a part of a block, with the parts that follow it
  part : (line : ℕ) → (p : Part) → (body rest : Tree) → Tree

pub record Fault : Type 0 where
  pub line : ℕ
  pub kind : FaultKind

abbrev pub fault : ℕ → FaultKind → Fault
fault line kind = record { line = line; kind = kind }

abbrev pub append : Tree → Tree → Tree
append done g = g
append (leaf line l rest) g = leaf line l (append rest g)
append (block line b parts rest) g = block line b parts (append rest g)
append (part line p body rest) g = part line p body (append rest g)

-- ---- Which parts and ends fit a block

abbrev pub name_of : Block → BlockName
name_of blocks.If = block_name.If
name_of blocks.Unless = block_name.Unless
name_of (blocks.Case e) = block_name.Case
name_of (blocks.For l) = block_name.For
name_of (blocks.TableRow l) = block_name.TableRow
name_of (blocks.Capture x) = block_name.Capture
name_of (blocks.Highlight x) = block_name.Highlight

-- the last part of a block
abbrev pub is_last : Part → Bool
is_last Otherwise = true
is_last _ = false

-- a block may have such a part behind one that is not the last
abbrev pub has_part : BlockName → Part → Bool
has_part block_name.If (Test c) = true
has_part block_name.If Otherwise = true
has_part block_name.Unless (Test c) = true
has_part block_name.Unless Otherwise = true
has_part block_name.Case (When vs) = true
has_part block_name.Case Otherwise = true
has_part block_name.For Otherwise = true
has_part _ _ = false

abbrev pub may_follow : BlockName → Bool → Part → Bool
may_follow b true p = false
may_follow b false p = has_part b p

abbrev pub same_block : BlockName → BlockName → Bool
same_block block_name.If block_name.If = true
same_block block_name.Unless block_name.Unless = true
same_block block_name.Case block_name.Case = true
same_block block_name.For block_name.For = true
same_block block_name.TableRow block_name.TableRow = true
same_block block_name.Capture block_name.Capture = true
same_block block_name.Highlight block_name.Highlight = true
same_block _ _ = false

-- ---- What pieces do, in raw texts and comments and outside of them

abbrev pub end_move : BlockName → Move
end_move block_name.Raw = Fails LiquidSyntax
end_move block_name.Comment = Fails LiquidSyntax
end_move b = moves.Ends b

abbrev pub raw_end : ℕ → BlockName → Move
raw_end line block_name.Raw = Passes Not
raw_end line _ = Fails LiquidSyntax

abbrev pub comment_end : ℕ → BlockName → Move
comment_end line block_name.Comment = Passes Not
comment_end line _ = Fails LiquidSyntax

-- a raw text holds text alone, and a comment nothing that is kept
abbrev pub move : Verbatim → ℕ → Item → Move
move Not line Nothing = Passes Not
move Not line (item.Leaf l) = Adds l
move Not line (item.Opens b p) = moves.Opens b p
move Not line (item.Turns p) = moves.Turns p
move Not line (item.Ends b) = end_move b
move Not line item.Raw = Passes (verbatim.Raw line)
move Not line item.Comment = Passes (verbatim.Comment line)
move (verbatim.Raw start) line Nothing = Passes (verbatim.Raw start)
move (verbatim.Raw start) line (item.Leaf l) = Adds l
move (verbatim.Raw start) line (item.Ends b) = raw_end start b
move (verbatim.Raw start) line _ = Fails LiquidSyntax
move (verbatim.Comment start) line Nothing = Passes (verbatim.Comment start)
move (verbatim.Comment start) line (item.Ends b) = comment_end start b
move (verbatim.Comment start) line _ = Fails LiquidSyntax

abbrev pub move_in : Verbatim → ℕ → Result Item FaultKind → Move
move_in v line (Ok i) = move v line i
move_in v line (Err kind) = Fails kind

-- ---- Blocks

-- What the rest of a text is: nodes up to the first piece that turns to a part of a block or ends a block which is not in that
-- rest, that piece with its line, and what follows it. It is cut off at its first fault.
pub data Rest : Type 0 where
  at_end : (nodes : Tree) → Rest
  turned : (nodes : Tree) → (line : ℕ) → (p : Part) → (after : Rest) → Rest
  ended : (nodes : Tree) → (line : ℕ) → (b : BlockName) → (after : Rest) → Rest
  faulty : (f : Fault) → Rest

-- a change of the nodes in front
abbrev pub in_front : (Tree → Tree) → Rest → Rest
in_front f (at_end nodes) = at_end (f nodes)
in_front f (turned nodes line p after) = turned (f nodes) line p after
in_front f (ended nodes line b after) = ended (f nodes) line b after
in_front f (faulty e) = faulty e

-- a part of a block that is open
pub record Opening : Type 0 where
  -- the line of the block's tag
  pub line : ℕ
  pub block : Block
  -- the parts before this one
  pub parts : Tree
  -- the line of this part's tag
  pub part_line : ℕ
  pub part : Part

abbrev pub with_body : Opening → Tree → Tree
with_body o body = append o.parts (part o.part_line o.part body done)

abbrev pub next_opening : Opening → Tree → ℕ → Part → Opening
next_opening o body line p = record { line = o.line; block = o.block; parts = with_body o body; part_line = line; part = p }

-- the whole block in front of what follows it
abbrev pub closed : Opening → Tree → Rest → Rest
closed o body after = in_front (block o.line o.block (with_body o body)) after

-- a block whose open part begins before the rest
abbrev pub block_from : Opening → Rest → Rest
block_from o (at_end nodes) = faulty (fault o.line LiquidSyntax)
block_from o (faulty f) = faulty f
block_from o (turned body line p after) = elim (may_follow (name_of o.block) (is_last o.part) p) [
  | true ↦ block_from (next_opening o body line p) after
  | false ↦ faulty (fault line LiquidSyntax)
]
block_from o (ended body line b after) = elim (same_block (name_of o.block) b) [
  | true ↦ closed o body after
  | false ↦ faulty (fault line LiquidSyntax)
]

abbrev pub first_opening : ℕ → Block → Part → Opening
first_opening line b p = record { line = line; block = b; parts = done; part_line = line; part = p }

-- ---- Trees

-- the end of the text, or a piece without its end
abbrev pub last_rest : Option ℕ → Verbatim → Rest
last_rest (Some line) v = faulty (fault line LiquidSyntax)
last_rest None Not = at_end done
last_rest None (verbatim.Raw line) = faulty (fault line LiquidSyntax)
last_rest None (verbatim.Comment line) = faulty (fault line LiquidSyntax)

abbrev pub after_move : Verbatim → ℕ → Move → (Verbatim → Rest) → Rest
after_move v line (Passes w) rest = rest w
after_move v line (Adds l) rest = in_front (leaf line l) (rest v)
after_move v line (moves.Opens b p) rest = block_from (first_opening line b p) (rest v)
after_move v line (moves.Turns p) rest = turned done line p (rest v)
after_move v line (moves.Ends b) rest = ended done line b (rest v)
after_move v line (Fails kind) rest = faulty (fault line kind)

-- the pieces of a text, up to a piece without its end
module _ (text : List ℕ) (unclosed : Option ℕ) where
  abbrev pub rest_of : Verbatim → List Piece → Rest
  rest_of v [] = last_rest unclosed v
  rest_of v (p ∷ ps) = after_move v p.line (move_in v p.line (item_of text p)) (λ w. rest_of w ps)

-- a whole text turns to no part and ends no block that it did not open
abbrev pub whole : Rest → Result Tree Fault
whole (at_end nodes) = Ok nodes
whole (turned nodes line p after) = Err (fault line LiquidSyntax)
whole (ended nodes line b after) = Err (fault line LiquidSyntax)
whole (faulty f) = Err f

abbrev pub tree_of_cut : List ℕ → Cut → Result Tree Fault
tree_of_cut text c = whole (rest_of text c.unclosed Not c.pieces)

abbrev pub tree : List ℕ → Result Tree Fault
tree text = tree_of_cut text (cut_of text)
