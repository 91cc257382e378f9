-- Blocks that write nothing, since their parts hold white space, `assign`, `capture` and such blocks alone. docs/PROFILE.md has the rule.
use Rattle.std.specs.Prelude.{ℕ, Bool, true, false, ◌&&◌, ◌||◌, List, [], ◌∷◌, Option, Some, None}
use Rattle.std.specs.List.{list_all}
use Rattle.filter_base.specs.White.{is_white}
use Rattle.liquid_grammar.specs.declared.item.Leaf.{Leaf}
use Rattle.liquid_grammar.specs.declared.item.Leaf.TheVariants as leaves
use Rattle.liquid_grammar.specs.declared.item.Block.{Block}
use Rattle.liquid_grammar.specs.declared.item.Block.TheVariants as blocks
use Rattle.liquid_grammar.specs.Trees.{Tree, done, leaf, block, part}
use Rattle.liquid_tags.specs.Nodes.{is_body}
use Rattle.liquid_tags.specs.declared.blanks.Counts.{Counts}
use Rattle.liquid_tags.specs.declared.blanks.Counts.TheVariants.{ByParts, ByBranches, Always, Never}

abbrev pub is_blank_leaf : Leaf → Bool
is_blank_leaf (leaves.Text t) = list_all is_white t
is_blank_leaf (leaves.Assign a) = true
is_blank_leaf _ = false

abbrev pub counts_of : Block → Counts
counts_of blocks.If = ByParts
counts_of blocks.Unless = ByParts
counts_of (blocks.Case e) = ByBranches
counts_of (blocks.For l) = ByParts
counts_of (blocks.TableRow l) = Never
counts_of (blocks.Capture x) = Always
counts_of (blocks.Highlight x) = Never

abbrev pub counted_as : Counts → Bool → Bool → Bool
counted_as ByParts parts branches = parts
counted_as ByBranches parts branches = branches
counted_as Always parts branches = true
counted_as Never parts branches = false

abbrev mutual
  -- these nodes write nothing but white space
  pub writes_nothing : Tree → Bool
  writes_nothing done = true
  writes_nothing (leaf line l rest) = is_blank_leaf l && writes_nothing rest
  writes_nothing (block line b parts rest) = counted_as (counts_of b) (writes_nothing parts) (branches_write_nothing parts) && writes_nothing rest
  writes_nothing (part line p body rest) = writes_nothing body && writes_nothing rest

  -- the same, but for a first part that stands before all branches
  pub branches_write_nothing : Tree → Bool
  branches_write_nothing done = true
  branches_write_nothing (leaf line l rest) = is_blank_leaf l && writes_nothing rest
  branches_write_nothing (block line b parts rest) = counted_as (counts_of b) (writes_nothing parts) (branches_write_nothing parts) && writes_nothing rest
  branches_write_nothing (part line p body rest) = (is_body p || writes_nothing body) && writes_nothing rest

-- whether a block writes nothing
abbrev pub is_silent : Block → Tree → Bool
is_silent b parts = counted_as (counts_of b) (writes_nothing parts) (branches_write_nothing parts)

-- ---- How the nodes that are left to look at tell of all

-- none are left where something is written
abbrev pub left_write_nothing : Option Tree → Bool
left_write_nothing None = false
left_write_nothing (Some left) = writes_nothing left
