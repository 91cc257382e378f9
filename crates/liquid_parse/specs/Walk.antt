-- Walking over a flat list.
use Rattle.std.specs.Prelude.{◌≡◌, ◌+◌, List, length}
use Rattle.liquid_parse.specs.declared.node.Node.{Node}
use Rattle.liquid_parse.specs.Flat.{IsFlat, tree_of, with_node}

-- the first of the nodes, what is in it, and what follows it
pub record IsFirst (nodes : List Node) (node : Node) (inside rest : List Node) : Type 0 where
  pub inside_flat : IsFlat inside
  pub rest_flat : IsFlat rest
  pub tree : tree_of nodes ≡ with_node node (tree_of inside) (tree_of rest)
  pub len : length inside + length rest + 1 ≡ length nodes
