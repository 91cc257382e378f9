-- Nodes by their tree, and the parts of a block.
use Rattle.std.specs.Prelude.{ℕ, suc, ◌+◌, Bool, true, false, if◌then◌else◌, Option, Some, None}
use Rattle.liquid_grammar.specs.declared.item.Part.{Part}
use Rattle.liquid_grammar.specs.declared.item.Part.TheVariants.{Body, Test, When, Otherwise}
use Rattle.liquid_grammar.specs.Trees.{Tree, done, leaf, block, part, append}
use Rattle.liquid_tags.specs.declared.nodes.First.{First}
use Rattle.liquid_tags.specs.declared.nodes.First.TheVariants as first
use Rattle.liquid_tags.specs.declared.nodes.FirstPart.{FirstPart}

-- the tree of which this is the first node, with what is in it and what follows it
abbrev pub first_tree : First → Tree
first_tree (first.Leaf line l rest) = leaf line l.now rest
first_tree (first.Block line b parts rest) = block line b.now parts rest
first_tree (first.Part line p body rest) = part line p.now body rest
first_tree first.Nothing = done

-- how many nodes there are
abbrev pub node_count : Tree → ℕ
node_count done = 0
node_count (leaf line l rest) = suc (node_count rest)
node_count (block line b parts rest) = suc (node_count parts + node_count rest)
node_count (part line p body rest) = suc (node_count body + node_count rest)

abbrev pub is_done : Tree → Bool
is_done done = true
is_done _ = false

-- the nodes in the first node, and then those behind it
abbrev pub entered : Tree → Tree
entered done = done
entered (leaf line l rest) = rest
entered (block line b parts rest) = append parts rest
entered (part line p body rest) = append body rest

-- ---- Parts

-- from the first part on
abbrev pub parts_from : Tree → Tree
parts_from done = done
parts_from (leaf line l rest) = parts_from rest
parts_from (block line b parts rest) = parts_from rest
parts_from (part line p body rest) = part line p body rest

-- the tree of which this is the first node
abbrev pub part_tree : Option FirstPart → Tree
part_tree None = done
part_tree (Some f) = part f.line f.part.now f.body f.behind

abbrev pub is_body : Part → Bool
is_body Body = true
is_body (Test c) = false
is_body (When es) = false
is_body Otherwise = false

abbrev pub is_otherwise : Part → Bool
is_otherwise Body = false
is_otherwise (Test c) = false
is_otherwise (When es) = false
is_otherwise Otherwise = true

-- the nodes of the first part that passes a test
abbrev pub nodes_of : (Part → Bool) → Tree → Option Tree
nodes_of test done = None
nodes_of test (leaf line l rest) = nodes_of test rest
nodes_of test (block line b parts rest) = nodes_of test rest
nodes_of test (part line p body rest) = if test p then Some body else nodes_of test rest

-- the nodes of a loop's part without an element, where there is one
abbrev pub else_of : Tree → Option Tree
else_of parts = nodes_of is_otherwise parts

abbrev pub or_done : Option Tree → Tree
or_done None = done
or_done (Some nodes) = nodes

-- the nodes of the part with which a block begins
abbrev pub body_of : Tree → Tree
body_of parts = or_done (nodes_of is_body parts)

-- without a first part that stands before all branches of a `case`
abbrev pub branches_of : Tree → Tree
branches_of done = done
branches_of (leaf line l rest) = leaf line l rest
branches_of (block line b parts rest) = block line b parts rest
branches_of (part line p body rest) = if is_body p then rest else part line p body rest
