-- The walk over the lines as the code keeps it.
use Rattle.std.specs.Prelude.{List, None, Option, Some, ℕ}
use Rattle.cm_blocks.specs.declared.walk.Walk.{Walk}
use Rattle.markdown_grammar.specs.Columns.{lazy_line}
use Rattle.cm_blocks.specs.declared.kinds.Leaf.{Leaf}
use Rattle.cm_blocks.specs.Flat.{Flat, gap_put, leaf_more, leaf_on, leaf_put}

abbrev pub shown : Walk → Flat
shown w = record { tokens = w.tokens.items; stack = w.stack; leaf = w.leaf; filled = w.is_filled }

-- a leaf, or a blank line
abbrev pub put_in : Option Leaf → Flat → Flat
put_in (Some s) f = leaf_put s f
put_in None f = gap_put f

-- the open leaf has a lazy line
abbrev pub lazily_on : List ℕ → Flat → Flat
lazily_on t f = leaf_on f (lazy_line t) (leaf_more f.leaf (lazy_line t))
