-- Lists that are filled with one value after another.
use Rattle.std.proofs.Common.{◌≡◌, ℕ, ◌+◌, ◌<◌, ◌≤◌, Bool, true, false, cond, List, [], ◌∷◌, length, drop, get_or, sym, ap, ◌∙◌}
use Rattle.std.specs.Prelude.{filter}
use Rattle.std.proofs.lemmas.List.{at_drop_more, at_drop_all}
use Rattle.data_files.proofs.ItemLaws.{onto_item, onto_nothing}
use Rattle.site_base.specs.Plain.{Plain, Items, no_items, item, onto}
use Rattle.site_reader.specs.declared.site_item.SiteItem.{SiteItem}
use Rattle.site_variables.specs.Choosing.{named_if}
use Rattle.site_variables.specs.Lists.{each, named}

-- a list that is made of one value for each of a slice
module _ {X : Type 0} (made : List X → Items) (one : X → Plain) (step : (x : X) (xs : List X) → made (x ∷ xs) ≡ item (one x) (made xs)) where
  pub made_more : (is : Items) (xs : List X) (i : ℕ) (x : X) (v : Plain) → i < length xs → x ≡ get_or xs i x → v ≡ one x
      → onto (onto is (item v no_items)) (made (drop (i + 1) xs)) ≡ onto is (made (drop i xs))
  made_more is xs i x v lt e w =
      onto_item is (made (drop (i + 1) xs)) v
      ∙ ap (λ (u : Plain). onto is (item u (made (drop (i + 1) xs)))) w
      ∙ ap (onto is) (sym (step x (drop (i + 1) xs)) ∙ ap (λ (y : X). made (y ∷ drop (i + 1) xs)) e ∙ sym (at_drop_more made xs i x lt))

-- nothing is left to make at the end of the slice
pub made_end : {X : Type 0} (made : List X → Items) (is : Items) (xs : List X) (i : ℕ) → made [] ≡ no_items → length xs ≤ i → is ≡ onto is (made (drop i xs))
made_end made is xs i none le = sym (ap (onto is) (at_drop_all made xs i le ∙ none) ∙ onto_nothing is)

-- an item that belongs there, or not
kept : (b : Bool) (is : Items) (x : SiteItem) (rest : List SiteItem) → onto (onto is (named_if b x)) (each named rest) ≡ onto is (each named (cond b (x ∷ rest) rest))
kept true is x rest = onto_item is (each named rest) (named x)
kept false is x rest = ap (λ js. onto js (each named rest)) (onto_nothing is)

pub kept_more : (p : SiteItem → Bool) (is : Items) (xs : List SiteItem) (i : ℕ) (x : SiteItem) (b : Bool) → i < length xs → x ≡ get_or xs i x → b ≡ p x
    → onto (onto is (named_if b x)) (each named (filter p (drop (i + 1) xs))) ≡ onto is (each named (filter p (drop i xs)))
kept_more p is xs i x b lt e w =
    let rest = filter p (drop (i + 1) xs) in
    kept b is x rest
    ∙ ap (λ (c : Bool). onto is (each named (cond c (x ∷ rest) rest))) w
    ∙ ap (onto is) (ap (λ (y : SiteItem). each named (filter p (y ∷ drop (i + 1) xs))) e ∙ sym (at_drop_more (λ ys. each named (filter p ys)) xs i x lt))
