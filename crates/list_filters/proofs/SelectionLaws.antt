-- Elements that are chosen by their keys, one after another.
use Rattle.std.proofs.Common.{◌≡◌, ℕ, ◌+◌, ◌<◌, Bool, true, false, cond, not, ◌||◌, List, ◌∷◌, length, get_or, drop, map, refl, sym, ap, ◌∙◌, Option}
use Rattle.std.specs.List.{list_any}
use Rattle.std.specs.Str.{bytes_eq}
use Rattle.std.proofs.lemmas.Cmp.{nat_list_eq_equiv}
use Rattle.std.proofs.lemmas.List.{at_drop_more}
use Rattle.site_base.specs.Code.{code}
use Rattle.site_base.specs.Plain.{Plain, list, Items, no_items, onto}
use Rattle.read_record.specs.Queries.{Give, bind, View, Trace, RanTo, run}
use Rattle.read_record.proofs.QueryLaws.{run_gave}
use Rattle.filter_base.specs.Keyed.{Source, Entry, keyed, values}
use Rattle.filter_base.proofs.ItemLaws.{onto_item, onto_nothing}
use Rattle.list_filters.specs.Choosing.{chosen, first_of_each, item_if, same_value}

-- what a filter makes of elements and keys
pub selected : (view : View) (t s : Trace) (name : Option (List ℕ)) (v : Plain) (makes : Source → Items) (found : Source) (is : Items) → run view t (keyed name v) ≡ RanTo found s
    → is ≡ makes found → run view t (bind (keyed name v) (λ x. Give (list (makes x)))) ≡ RanTo (list is) s
selected view t s name v makes found is gave made =
    run_gave view t (keyed name v) (λ x. Give (list (makes x))) found s gave ∙ ap (λ (js : Items). RanTo (list js) s) (sym made)

onto_if : (is js : Items) (b : Bool) (v : Plain) → onto (onto is (item_if b v no_items)) js ≡ onto is (item_if b v js)
onto_if is js true v = onto_item is js v
onto_if is js false v = ap (λ (x : Items). onto x js) (onto_nothing is)

value_if : (b : Bool) (e : Entry) (es : List Entry) → item_if b e.value (values es) ≡ values (cond b (e ∷ es) es)
value_if true e es = refl
value_if false e es = refl

module _ {X : Type 0} (entry : X → Entry) where
  pub chosen_more : (test : Plain → Bool) (is : Items) (xs : List X) (i : ℕ) (x : X) (b : Bool) → i < length xs → x ≡ get_or xs i x → b ≡ test (entry x).key
      → onto (onto is (item_if b (entry x).value no_items)) (chosen test (map entry (drop (i + 1) xs))) ≡ onto is (chosen test (map entry (drop i xs)))
  chosen_more test is xs i x b lt e passes =
      onto_if is (chosen test (map entry (drop (i + 1) xs))) b (entry x).value
      ∙ ap (λ (b : Bool). onto is (item_if b (entry x).value (chosen test (map entry (drop (i + 1) xs))))) passes
      ∙ ap (onto is) (value_if (test (entry x).key) (entry x) _)
      ∙ ap (λ (y : X). onto is (chosen test (map entry (y ∷ drop (i + 1) xs)))) e
      ∙ sym (at_drop_more (λ ys. onto is (chosen test (map entry ys))) xs i x lt)

  pub first_more : (met : List Plain) (is : Items) (xs : List X) (i : ℕ) (x : X) (b : Bool) → i < length xs → x ≡ get_or xs i x → b ≡ not (list_any (same_value (entry x).key) met)
      → onto (onto is (item_if b (entry x).value no_items)) (first_of_each ((entry x).key ∷ met) (map entry (drop (i + 1) xs))) ≡ onto is (first_of_each met (map entry (drop i xs)))
  first_more met is xs i x b lt e new =
      onto_if is (first_of_each ((entry x).key ∷ met) (map entry (drop (i + 1) xs))) b (entry x).value
      ∙ ap (λ (b : Bool). onto is (item_if b (entry x).value (first_of_each ((entry x).key ∷ met) (map entry (drop (i + 1) xs))))) new
      ∙ ap (λ (y : X). onto is (first_of_each met (map entry (y ∷ drop (i + 1) xs)))) e
      ∙ sym (at_drop_more (λ ys. onto is (first_of_each met (map entry ys))) xs i x lt)

-- ---- the codes of the keys that were met, as a set has them

-- whether one of the keys has this code
abbrev pub has_code : List Plain → List ℕ → Bool
has_code met bytes = list_any (λ k. bytes_eq bytes (code k)) met

pub is_new : (met : List Plain) (k : Plain) (bytes : List ℕ) (has b : Bool) → bytes ≡ code k → b ≡ not has → has ≡ has_code met bytes → b ≡ not (list_any (same_value k) met)
is_new met k bytes has b e new is = new ∙ ap not (is ∙ ap (has_code met) e)

or_else : (b c : Bool) → cond b true c ≡ (b || c)
or_else true c = refl
or_else false c = refl

pub one_more : (met : List Plain) (k : Plain) (bytes other : List ℕ) (before after : Bool) → bytes ≡ code k → before ≡ has_code met other → after ≡ cond (bytes_eq bytes other) true before
    → after ≡ has_code (k ∷ met) other
one_more met k bytes other before after e had has =
    has ∙ ap (cond (bytes_eq bytes other) true) had ∙ or_else (bytes_eq bytes other) (has_code met other)
    ∙ ap (λ (b : Bool). b || has_code met other) (ap (λ (c : List ℕ). bytes_eq c other) e ∙ nat_list_eq_equiv.symm (code k) other)
