-- Nodes one after another: how they are laid out, how many they are, and their parts.
use Rattle.std.proofs.Common.{◌≡◌, ◌∙◌, ℕ, suc, ◌+◌, ◌-◌, ◌<◌, ◌≤◌, Bool, true, false, cond, List, [], ◌∷◌, ◌++◌, Option, Some, None, length, take, drop, refl, sym, ap, subst, arith, append_assoc, length-append}
use Rattle.std.proofs.lemmas.List.{take_rest}
use Rattle.liquid_grammar.specs.declared.item.Part.{Part}
use Rattle.liquid_grammar.specs.Trees.{Tree, done, leaf, block, part, append}
use Rattle.liquid_parse.specs.declared.node.Node.{Node}
use Rattle.liquid_parse.specs.declared.node.Node.TheVariants as node
use Rattle.liquid_parse.specs.Flat.{flat, tree_of, IsFlat}
use Rattle.liquid_parse.specs.FlatLaws.{tree_of_is, tree_of-flat, IsFlat-flat}
use Rattle.liquid_tags.specs.Nodes.{node_count, is_done, entered, parts_from, nodes_of, is_body, body_of, or_done, branches_of}

pub tree_of-none : tree_of [] ≡ done
tree_of-none = tree_of_is []

pub IsFlat-none : IsFlat []
IsFlat-none = ap flat tree_of-none

pub ruleset none_at_all = (tree_of-none, IsFlat-none)

-- ---- Nodes that stand before others

behind_node : (n : Node) (a b c d : List Node) → d ≡ b ++ c → n ∷ (a ++ d) ≡ (n ∷ (a ++ b)) ++ c
behind_node n a b c d e = ap (λ (x : List Node). n ∷ (a ++ x)) e ∙ ap (λ (x : List Node). n ∷ x) (sym (append_assoc a b c))

flat-append : (t u : Tree) → flat (append t u) ≡ flat t ++ flat u
flat-append done u = refl
flat-append (leaf line l rest) u = ap (λ (x : List Node). node.Leaf line l ∷ x) (flat-append rest u)
flat-append (block line b parts rest) u = behind_node (node.Block line b (length (flat parts))) (flat parts) (flat rest) (flat u) (flat (append rest u)) (flat-append rest u)
flat-append (part line p body rest) u = behind_node (node.Part line p (length (flat body))) (flat body) (flat rest) (flat u) (flat (append rest u)) (flat-append rest u)

flat-entered : (t : Tree) → flat (entered t) ≡ drop 1 (flat t)
flat-entered done = refl
flat-entered (leaf line l rest) = refl
flat-entered (block line b parts rest) = flat-append parts rest
flat-entered (part line p body rest) = flat-append body rest

module _ (nodes behind : List Node) (e : behind ≡ drop 1 nodes) (h : IsFlat nodes) where
  behind-entered : flat (entered (tree_of nodes)) ≡ behind
  behind-entered = flat-entered (tree_of nodes) ∙ ap (drop 1) h ∙ sym e

  pub entered_flat : IsFlat behind
  entered_flat = subst (λ (ns : List Node). IsFlat ns) behind-entered (IsFlat-flat (entered (tree_of nodes)))

  pub entered_tree : tree_of behind ≡ entered (tree_of nodes)
  entered_tree = ap tree_of (sym behind-entered) ∙ tree_of-flat (entered (tree_of nodes))

-- ---- How many nodes there are

count-append : (t u : Tree) → node_count (append t u) ≡ node_count t + node_count u
count-append done u = omega arith
count-append (leaf line l rest) u = omega (arith, count-append rest u)
count-append (block line b parts rest) u = omega (arith, count-append rest u)
count-append (part line p body rest) u = omega (arith, count-append rest u)

pub count-entered : (t : Tree) → is_done t ≡ false → node_count (entered t) < node_count t
count-entered done some = absurd cc
count-entered (leaf line l rest) some = omega arith
count-entered (block line b parts rest) some = omega (arith, count-append parts rest)
count-entered (part line p body rest) some = omega (arith, count-append body rest)

pub count-branches : (t : Tree) → node_count (branches_of t) ≤ node_count t
count-branches done = omega arith
count-branches (leaf line l rest) = omega arith
count-branches (block line b parts rest) = omega arith
count-branches (part line p body rest) = go (is_body p)
  where
    go : (b : Bool) → node_count (cond b rest (part line p body rest)) ≤ node_count (part line p body rest)
    go true = omega arith
    go false = omega arith

-- ---- Parts

count-from : (t : Tree) → node_count (parts_from t) ≤ node_count t
count-from done = omega arith
count-from (leaf line l rest) = omega (arith, count-from rest)
count-from (block line b parts rest) = omega (arith, count-from rest)
count-from (part line p body rest) = omega arith

nodes-from : (test : Part → Bool) (t : Tree) → nodes_of test (parts_from t) ≡ nodes_of test t
nodes-from test done = refl
nodes-from test (leaf line l rest) = nodes-from test rest
nodes-from test (block line b parts rest) = nodes-from test rest
nodes-from test (part line p body rest) = refl

module _ (t : Tree) (line : ℕ) (p : Part) (body behind : Tree) where
  pub count_behind : part line p body behind ≡ parts_from t → node_count behind < node_count t
  count_behind e = let same : suc (node_count body + node_count behind) ≡ node_count (parts_from t) = ap node_count e in omega (arith, same, count-from t)

module _ (test : Part → Bool) (t : Tree) where
  pub none_taken : done ≡ parts_from t → nodes_of test t ≡ None
  none_taken e = sym (nodes-from test t) ∙ ap (nodes_of test) (sym e)

  module _ (line : ℕ) (p : Part) (body behind : Tree) where
    first_is : part line p body behind ≡ parts_from t → nodes_of test t ≡ cond (test p) (Some body) (nodes_of test behind)
    first_is e = sym (nodes-from test t) ∙ ap (nodes_of test) (sym e)

    pub part_taken : part line p body behind ≡ parts_from t → test p ≡ true → nodes_of test t ≡ Some body
    part_taken e h = first_is e ∙ ap (λ b. cond b (Some body) (nodes_of test behind)) h

    pub part_passed : part line p body behind ≡ parts_from t → test p ≡ false → nodes_of test t ≡ nodes_of test behind
    part_passed e h = first_is e ∙ ap (λ b. cond b (Some body) (nodes_of test behind)) h

module _ (t : Tree) where
  pub body_none : done ≡ parts_from t → body_of t ≡ done
  body_none e = ap or_done (none_taken is_body t e)

  pub body_taken : (line : ℕ) (p : Part) (body behind : Tree) → part line p body behind ≡ parts_from t → is_body p ≡ true → body_of t ≡ body
  body_taken line p body behind e h = ap or_done (part_taken is_body t line p body behind e h)

  pub body_passed : (line : ℕ) (p : Part) (body behind : Tree) → part line p body behind ≡ parts_from t → is_body p ≡ false → body_of t ≡ body_of behind
  body_passed line p body behind e h = ap or_done (part_passed is_body t line p body behind e h)

pub ruleset taking = (count_behind, none_taken, part_taken, part_passed, body_none, body_taken, body_passed)
