-- Items among others, one by one.
use Rattle.std.proofs.Common.{◌≡◌, ℕ, zero, suc, ◌+◌, ◌-◌, ◌<◌, ◌≤◌, ◌≢◌, true, false, ◌||◌, List, length, drop, get_or, refl, ap, sym, ◌∙◌, arith}
use Rattle.std.proofs.lemmas.List.{at_drop_more, at_drop_all}
use Rattle.site_base.specs.Plain.{Plain, Items, no_items, item, onto}
use Rattle.site_base.specs.View.{plain, items_of}
use Rattle.site_base.specs.declared.item_name.ItemName.{ItemName}
use Rattle.site_base.specs.declared.value.Value.{Value}
use Rattle.filter_base.proofs.ItemLaws.{onto_item, onto_nothing}
use Rattle.liquid_values.specs.Names.{is_item, others, holds_item}

module _ (n : ItemName) (vs : List Value) (i : ℕ) where
  pub holds-more : (v : Value) → i < length vs → v ≡ get_or vs i v → holds_item n (items_of (drop i vs)) ≡ (is_item n (plain v) || holds_item n (items_of (drop (i + 1) vs)))
  holds-more v lt e = at_drop_more (λ xs. holds_item n (items_of xs)) vs i v lt ∙ ap (λ (w : Value). is_item n (plain w) || holds_item n (items_of (drop (i + 1) vs))) (sym e)

  pub holds-none : length vs ≤ i → holds_item n (items_of (drop i vs)) ≡ false
  holds-none le = at_drop_all (λ xs. holds_item n (items_of xs)) vs i le

skip : (n : ItemName) (left : ℕ) (v : Plain) (is : Items) → is_item n v ≡ true → others n left (item v is) ≡ others n left is
skip n zero v is h = refl
skip n (suc left) v is h = rw (h, others) refl

keep : (n : ItemName) (left : ℕ) (v : Plain) (is : Items) → is_item n v ≡ false → left ≢ 0 → others n left (item v is) ≡ item v (others n (left - 1) is)
keep n zero v is h some = absurd (some refl)
keep n (suc left) v is h some = let e : left ≡ suc left - 1 = omega arith in rw (h, others) (ap (λ m. item v (others n m is)) e)

no-more : (n : ItemName) (left : ℕ) → others n left no_items ≡ no_items
no-more n zero = refl
no-more n (suc left) = refl

module _ (n : ItemName) (vs : List Value) (i : ℕ) (list : Items) (left : ℕ) where
  others-first : (v : Value) → i < length vs → v ≡ get_or vs i v → onto list (others n left (items_of (drop i vs))) ≡ onto list (others n left (item (plain v) (items_of (drop (i + 1) vs))))
  others-first v lt e = at_drop_more (λ xs. onto list (others n left (items_of xs))) vs i v lt ∙ ap (λ (w : Value). onto list (others n left (item (plain w) (items_of (drop (i + 1) vs))))) (sym e)

  pub others-skip : (v : Value) → i < length vs → v ≡ get_or vs i v → is_item n (plain v) ≡ true → onto list (others n left (items_of (drop i vs))) ≡ onto list (others n left (items_of (drop (i + 1) vs)))
  others-skip v lt e h = others-first v lt e ∙ ap (onto list) (skip n left (plain v) (items_of (drop (i + 1) vs)) h)

  pub others-keep : (v : Value) → i < length vs → v ≡ get_or vs i v → is_item n (plain v) ≡ false → left ≢ 0
      → onto list (others n left (items_of (drop i vs))) ≡ onto (onto list (item (plain v) no_items)) (others n (left - 1) (items_of (drop (i + 1) vs)))
  others-keep v lt e h some =
      others-first v lt e ∙ ap (onto list) (keep n left (plain v) (items_of (drop (i + 1) vs)) h some) ∙ sym (onto_item list (others n (left - 1) (items_of (drop (i + 1) vs))) (plain v))

  pub others-end : length vs ≤ i → onto list (others n left (items_of (drop i vs))) ≡ list
  others-end le = at_drop_all (λ xs. onto list (others n left (items_of xs))) vs i le ∙ ap (onto list) (no-more n left) ∙ onto_nothing list

pub others-full : (n : ItemName) (is list : Items) → onto list (others n 0 is) ≡ list
others-full n is list = onto_nothing list
