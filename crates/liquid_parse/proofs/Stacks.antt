-- The innermost open block, and the nodes that are given their lengths.
use Rattle.std.proofs.Common.{◌≡◌, ℕ, zero, suc, ◌<◌, ◌≤◌, List, [], ◌∷◌, ◌++◌, length, get_or, set, Option, Some, None, refl, sym, ap, ◌∙◌, arith}
use Rattle.std.specs.Option.{option_to_list, MatchOption}
use Rattle.std.proofs.lemmas.List.{append-nil, nil_from_length}
use Rattle.liquid_parse.specs.declared.node.Node.{Node}
use Rattle.liquid_parse.specs.declared.building.Open.{Open}
use Rattle.liquid_parse.specs.Machine.{top, below, with_len, set_len}

pub top-last : (os : List Open) (o : Open) → top (os ++ o ∷ []) ≡ Some o
top-last [] o = refl
top-last (x ∷ []) o = refl
top-last (x ∷ y ∷ ys) o = top-last (y ∷ ys) o

pub below-last : (os : List Open) (o : Open) → below (os ++ o ∷ []) ≡ os
below-last [] o = refl
below-last (x ∷ []) o = refl
below-last (x ∷ y ∷ ys) o = ap (λ (r : List Open). x ∷ r) (below-last (y ∷ ys) o)

pub popped : (stack rest : List Open) (r : Option Open) (n k : ℕ) (Q : Open → Type 0) → length stack ≡ n → stack ≡ rest ++ option_to_list r → MatchOption r ((n ≡ 0) × (k ≡ 0)) Q → (r ≡ top stack) × (rest ≡ below stack)
popped stack rest None n k Q len e none =
    let nil : stack ≡ [] = nil_from_length stack (len ∙ none.0) in
    (sym (ap top nil), sym (append-nil rest) ∙ sym e ∙ nil ∙ sym (ap below nil))
popped stack rest (Some o) n k Q len e some = (sym (ap top e ∙ top-last rest o), sym (ap below e ∙ below-last rest o))

pub set_is : (ns : List Node) (i len : ℕ) (n : Node) → i < length ns → n ≡ get_or ns i n → set ns i (with_len len n) ≡ set_len len i ns
set_is [] i len n lt e = absurd (omega arith)
set_is (x ∷ xs) zero len n lt e = ap (λ (y : Node). with_len len y ∷ xs) e
set_is (x ∷ xs) (suc i) len n lt e = ap (λ (r : List Node). x ∷ r) (set_is xs i len n (omega arith) e)

pub set_beyond : (ns : List Node) (i len : ℕ) → length ns ≤ i → ns ≡ set_len len i ns
set_beyond [] i len le = refl
set_beyond (x ∷ xs) zero len le = absurd (omega arith)
set_beyond (x ∷ xs) (suc i) len le = ap (λ (r : List Node). x ∷ r) (set_beyond xs i len (omega arith))
