-- A tree as a flat list of nodes, where blocks and parts have the numbers of nodes in them.
use Rattle.std.specs.Prelude.{◌≡◌, ℕ, List, [], ◌∷◌, ◌++◌, length, take, drop}
use Rattle.site_base.specs.Recursion.{down}
use Rattle.liquid_grammar.specs.Trees.{Tree, done, leaf, block, part}
use Rattle.liquid_parse.specs.declared.node.Node.{Node}
use Rattle.liquid_parse.specs.declared.node.Node.TheVariants as node

abbrev pub flat : Tree → List Node
flat done = []
flat (leaf line l rest) = node.Leaf line l ∷ flat rest
flat (block line b parts rest) = node.Block line b (length (flat parts)) ∷ (flat parts ++ flat rest)
flat (part line p body rest) = node.Part line p (length (flat body)) ∷ (flat body ++ flat rest)

-- how many of the nodes that follow a node are in it
abbrev pub len_of : Node → ℕ
len_of (node.Leaf line l) = 0
len_of (node.Block line b len) = len
len_of (node.Part line p len) = len

-- a node with the tree of what is in it, in front of what follows it
abbrev pub with_node : Node → Tree → Tree → Tree
with_node (node.Leaf line l) inside rest = leaf line l rest
with_node (node.Block line b len) inside rest = block line b inside rest
with_node (node.Part line p len) inside rest = part line p inside rest

abbrev pub tree_step : (List Node → Tree) → List Node → Tree
tree_step tree [] = done
tree_step tree (n ∷ ns) = with_node n (tree (take (len_of n) ns)) (tree (drop (len_of n) ns))

-- the tree that a flat list stands for
unfoldable pub tree_of : List Node → Tree
tree_of nodes = down length done tree_step nodes

-- the list is laid out as its tree
abbrev pub IsFlat : List Node → Type 0
IsFlat nodes = flat (tree_of nodes) ≡ nodes
