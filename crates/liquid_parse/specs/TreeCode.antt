-- A tree as its nodes, by which a proof tells trees apart.
use Rattle.std.specs.Prelude.{List}
use Rattle.std.specs.Coded.{Coded, code_by, coded_list}
use Rattle.liquid_grammar.specs.Trees.{Tree}
use Rattle.liquid_parse.specs.declared.node.Node.{Node}
use Rattle.liquid_parse.specs.Flat.{flat, tree_of}
use Rattle.liquid_parse.specs.FlatLaws.{tree_of-flat}

abbrev pub tree_code : Coded Node → Coded Tree
tree_code node_code = code_by (List Node) (coded_list node_code) flat tree_of tree_of-flat
