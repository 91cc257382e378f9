-- Lists of values that are made one value after another.
use Rattle.std.proofs.Common.{◌≡◌, ℕ, zero, suc, ◌+◌, ◌-◌, ◌<◌, ◌≤◌, ℤ, pos, ◌+ℤ◌, List, [], ◌∷◌, ◌++◌, length, drop, get_or, refl, sym, ap, ◌∙◌, append_assoc, arith}
use Rattle.std.proofs.lemmas.Int.{ints}
use Rattle.std.proofs.lemmas.List.{at_drop_more, at_drop_all}
use Rattle.site_base.specs.Plain.{Plain, int, Items, no_items, item, onto}
use Rattle.site_base.specs.Values.{value_text}
use Rattle.site_base.specs.View.{plain, items_of}
use Rattle.site_base.specs.declared.value.Value.{Value}
use Rattle.site_base.specs.declared.value.Value.TheVariants as the
use Rattle.filter_base.specs.Elements.{counted}
use Rattle.filter_base.specs.Lists.{last_or, last_item, texts_behind}

pub onto_item : (is js : Items) (v : Plain) → onto (onto is (item v no_items)) js ≡ onto is (item v js)
onto_item no_items js v = refl
onto_item (item w is) js v = ap (item w) (onto_item is js v)

pub onto_nothing : (is : Items) → onto is no_items ≡ is
onto_nothing no_items = refl
onto_nothing (item w is) = ap (item w) (onto_nothing is)

pub counted_more : (is : Items) (a : ℤ) (n i : ℕ) → i < n → onto (onto is (item (int (a +ℤ pos i)) no_items)) (counted (a +ℤ pos (i + 1)) (n - (i + 1))) ≡ onto is (counted (a +ℤ pos i) (n - i))
counted_more is a n i lt =
    let one : n - i ≡ suc (n - (i + 1)) = omega arith in
    let next : a +ℤ pos i +ℤ pos 1 ≡ a +ℤ pos (i + 1) = omega (arith, ints) in
    onto_item is (counted (a +ℤ pos (i + 1)) (n - (i + 1))) (int (a +ℤ pos i))
    ∙ ap (λ b. onto is (item (int (a +ℤ pos i)) (counted b (n - (i + 1))))) (sym next)
    ∙ ap (λ k. onto is (counted (a +ℤ pos i) k)) (sym one)

-- a list that is made of one value for each of a slice
module _ {X : Type 0} (made : List X → Items) (one : X → Plain) (step : (x : X) (xs : List X) → made (x ∷ xs) ≡ item (one x) (made xs)) where
  pub made_more : (is : Items) (xs : List X) (i : ℕ) (x : X) (v : Plain) → i < length xs → x ≡ get_or xs i x → v ≡ one x
      → onto (onto is (item v no_items)) (made (drop (i + 1) xs)) ≡ onto is (made (drop i xs))
  made_more is xs i x v lt e w =
      onto_item is (made (drop (i + 1) xs)) v
      ∙ ap (λ (u : Plain). onto is (item u (made (drop (i + 1) xs)))) w
      ∙ ap (onto is) (sym (step x (drop (i + 1) xs)) ∙ ap (λ (y : X). made (y ∷ drop (i + 1) xs)) e ∙ sym (at_drop_more made xs i x lt))

-- nothing is left to make at the end of the slice
pub made_end : {X : Type 0} (made : List X → Items) (is : Items) (xs : List X) (i : ℕ) → made [] ≡ no_items → length xs ≤ i → is ≡ onto is (made (drop i xs))
made_end made is xs i none le = sym (ap (onto is) (at_drop_all made xs i le ∙ none) ∙ onto_nothing is)

-- a list with one more value of a slice
pub pushed : (is : Items) (vs : List Value) (i : ℕ) (v : Value) → i < length vs → v ≡ get_or vs i v → onto (onto is (item (plain v) no_items)) (items_of (drop (i + 1) vs)) ≡ onto is (items_of (drop i vs))
pushed is vs i v lt e = made_more items_of plain (λ _ _. refl) is vs i v (plain v) lt e refl

last_more : (vs : List Value) (u v : Value) (k : ℕ) → length vs ≡ suc k → v ≡ get_or vs k v → last_or (plain u) (items_of vs) ≡ plain v
last_more [] u v k l e = absurd (omega arith)
last_more (w ∷ []) u v zero l e = ap plain (sym e)
last_more (w ∷ []) u v (suc k) l e = absurd (omega arith)
last_more (w ∷ x ∷ vs) u v zero l e = absurd (omega arith)
last_more (w ∷ x ∷ vs) u v (suc k) l e = last_more (x ∷ vs) w v k (omega arith) e

pub last_at : (vs : List Value) (v : Value) → 0 < length vs → v ≡ get_or vs (length vs - 1) v → plain v ≡ last_item (items_of vs)
last_at vs v lt e = sym (last_more vs the.Nil v (length vs - 1) (omega arith) e)

-- the texts of values one after another
pub next_text : (old before between : List ℕ) (vs : List Value) (i : ℕ) (v : Value) → i < length vs → v ≡ get_or vs i v
    → old ++ ((before ++ value_text (plain v)) ++ texts_behind between between (items_of (drop (i + 1) vs))) ≡ old ++ texts_behind before between (items_of (drop i vs))
next_text old before between vs i v lt e =
    ap (λ (t : List ℕ). old ++ t) (append_assoc before (value_text (plain v)) (texts_behind between between (items_of (drop (i + 1) vs)))
    ∙ ap (λ (w : Value). before ++ (value_text (plain w) ++ texts_behind between between (items_of (drop (i + 1) vs)))) e
    ∙ sym (at_drop_more (λ xs. texts_behind before between (items_of xs)) vs i v lt))
