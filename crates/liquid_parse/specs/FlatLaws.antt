-- A flat list and its tree.
use Rattle.std.proofs.Common.{◌≡◌, List, [], ◌∷◌, ◌++◌, length, take, drop, refl, sym, ap, ◌∙◌, arith}
use Rattle.std.proofs.lemmas.List.{take_at, drop_at, length-take, length-drop}
use Rattle.site_base.specs.Recursion.{Falls, down_is}
use Rattle.liquid_grammar.specs.Trees.{Tree, done, leaf, block, part}
use Rattle.liquid_parse.specs.declared.node.Node.{Node}
use Rattle.liquid_parse.specs.declared.node.Node.TheVariants as node
use Rattle.liquid_parse.specs.Flat.{flat, len_of, with_node, tree_step, tree_of, IsFlat}

falls : Falls length done tree_step
falls f g [] h = refl
falls f g (n ∷ ns) h =
    ap (λ t. with_node n t (f (drop (len_of n) ns))) (h (take (len_of n) ns) (omega (arith, length-take (len_of n) ns)))
    ∙ ap (λ t. with_node n (g (take (len_of n) ns)) t) (h (drop (len_of n) ns) (omega (arith, length-drop (len_of n) ns)))

pub tree_of_is : (nodes : List Node) → tree_of nodes ≡ tree_step tree_of nodes
unfolding tree_of
tree_of_is nodes = down_is length done tree_step falls nodes

around : (n : Node) (inside rest : Tree) (a r : List Node) → len_of n ≡ length a → tree_of a ≡ inside → tree_of r ≡ rest → tree_of (n ∷ (a ++ r)) ≡ with_node n inside rest
around n inside rest a r e f g =
    let one : take (len_of n) (a ++ r) ≡ a = take_at a r (len_of n) (sym e) in
    let after : drop (len_of n) (a ++ r) ≡ r = drop_at a r (len_of n) (sym e) in
    tree_of_is (n ∷ (a ++ r)) ∙ ap (λ x. with_node n (tree_of x) (tree_of (drop (len_of n) (a ++ r)))) one ∙ ap (λ x. with_node n (tree_of a) (tree_of x)) after
    ∙ ap (λ t. with_node n t (tree_of r)) f ∙ ap (λ t. with_node n inside t) g

-- what is laid out is read again
pub tree_of-flat : (t : Tree) → tree_of (flat t) ≡ t
tree_of-flat done = tree_of_is []
tree_of-flat (leaf line l rest) = tree_of_is (node.Leaf line l ∷ flat rest) ∙ ap (leaf line l) (tree_of-flat rest)
tree_of-flat (block line b parts rest) = around (node.Block line b (length (flat parts))) parts rest (flat parts) (flat rest) refl (tree_of-flat parts) (tree_of-flat rest)
tree_of-flat (part line p body rest) = around (node.Part line p (length (flat body))) body rest (flat body) (flat rest) refl (tree_of-flat body) (tree_of-flat rest)

pub IsFlat-flat : (t : Tree) → IsFlat (flat t)
IsFlat-flat t = ap flat (tree_of-flat t)
