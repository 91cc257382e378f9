-- The first node of a flat list.
use Rattle.std.proofs.Common.{◌≡◌, ◌-◌, ◌<◌, ◌≤◌, List, [], ◌∷◌, ◌++◌, length, take, drop, get_or, refl, sym, ap, subst, ◌∙◌, arith}
use Rattle.std.proofs.lemmas.List.{take_at, drop_at, take_all, length-append, length-take, length-drop}
use Rattle.liquid_parse.specs.declared.node.Node.{Node}
use Rattle.liquid_parse.specs.declared.node.Node.TheVariants as node
use Rattle.liquid_parse.specs.Flat.{flat, len_of, tree_of, IsFlat}
use Rattle.liquid_parse.specs.FlatLaws.{tree_of_is}
use Rattle.liquid_parse.specs.Walk.{IsFirst}

flat_nil : IsFlat []
flat_nil = ap flat (tree_of_is [])

-- what is in a node, and what follows it, where it is as long as it says
around : (n : Node) (ns a r : List Node) → a ≡ flat (tree_of (take (len_of n) ns)) → r ≡ flat (tree_of (drop (len_of n) ns)) → length a ≡ len_of n → a ++ r ≡ ns → (len_of n ≤ length ns) × IsFirst (n ∷ ns) n (take (len_of n) ns) (drop (len_of n) ns)
around n ns a r is_a is_r len all =
    let k = len_of n in
    let fits : k ≤ length ns = omega (arith, ap length all, length-append a r, len) in
    let front : take k ns ≡ a = ap (take k) (sym all) ∙ take_at a r k len in
    let behind : drop k ns ≡ r = ap (drop k) (sym all) ∙ drop_at a r k len in (
      fits,
      record {
        inside_flat = sym is_a ∙ sym front;
        rest_flat = sym is_r ∙ sym behind;
        tree = tree_of_is (n ∷ ns);
        len = omega (arith, fits, length-take k ns, length-drop k ns);
      },
    )

pub first_node : (n : Node) (ns : List Node) → IsFlat (n ∷ ns) → (len_of n ≤ length ns) × IsFirst (n ∷ ns) n (take (len_of n) ns) (drop (len_of n) ns)
first_node (node.Leaf line l) ns h =
    let e : node.Leaf line l ∷ flat (tree_of ns) ≡ node.Leaf line l ∷ ns = ap flat (sym (tree_of_is (node.Leaf line l ∷ ns))) ∙ h in
    let r : flat (tree_of ns) ≡ ns = cc in
    (omega arith, record { inside_flat = flat_nil; rest_flat = r; tree = tree_of_is (node.Leaf line l ∷ ns); len = omega arith })
first_node (node.Block line b k) ns h =
    let a = flat (tree_of (take k ns)) in
    let r = flat (tree_of (drop k ns)) in
    let e : node.Block line b (length a) ∷ (a ++ r) ≡ node.Block line b k ∷ ns = ap flat (sym (tree_of_is (node.Block line b k ∷ ns))) ∙ h in
    let len : length a ≡ k = cc in
    let all : a ++ r ≡ ns = cc in
    around (node.Block line b k) ns a r refl refl len all
first_node (node.Part line p k) ns h =
    let a = flat (tree_of (take k ns)) in
    let r = flat (tree_of (drop k ns)) in
    let e : node.Part line p (length a) ∷ (a ++ r) ≡ node.Part line p k ∷ ns = ap flat (sym (tree_of_is (node.Part line p k ∷ ns))) ∙ h in
    let len : length a ≡ k = cc in
    let all : a ++ r ≡ ns = cc in
    around (node.Part line p k) ns a r refl refl len all

pub first_in : (nodes behind : List Node) (n d : Node) → 0 < length nodes → n ≡ get_or nodes 0 d → behind ≡ drop 1 nodes → IsFlat nodes → (len_of n ≤ length behind) × IsFirst nodes n (take (len_of n) behind) (drop (len_of n) behind)
first_in [] behind n d lt e k h = absurd (omega arith)
first_in (x ∷ xs) behind n d lt e k h =
    subst (λ (y : Node). (len_of y ≤ length behind) × IsFirst (x ∷ xs) y (take (len_of y) behind) (drop (len_of y) behind)) (sym e)
    (subst (λ (ys : List Node). (len_of x ≤ length ys) × IsFirst (x ∷ xs) x (take (len_of x) ys) (drop (len_of x) ys)) (sym k) (first_node x xs h))

-- the part of a list from its second element on
pub behind_first : (nodes : List Node) → take (length nodes - 1) (drop 1 nodes) ≡ drop 1 nodes
behind_first nodes = take_all (length nodes - 1) (drop 1 nodes) (omega (arith, length-drop 1 nodes))
