-- The documents of each collection, by its place.
use Rattle.std.proofs.Common.{◌≡◌, ℕ, ◌+◌, ◌<◌, ◌≤◌, ◌≢◌, Bool, true, false, eqb, List, length, drop, get_or, set, refl, sym, ap, ◌∙◌, arith, Some, Ok, Err, Result, subst, get_or-set_other, get_or-set_same}
use Rattle.std.specs.Prelude.{replicate, IfOk}
use Rattle.std.proofs.lemmas.Bool.{eqb-true, eqb-false}
use Rattle.std.proofs.lemmas.List.{at_drop_all, get_or-replicate, length-replicate, length-set}
use Rattle.std.proofs.lemmas.Option.{slice_get-get_or}
use Rattle.data_files.proofs.ItemLaws.{onto_nothing}
use Rattle.site_base.specs.Plain.{Items, no_items, item, onto}
use Rattle.site_reader.specs.declared.site_item.SiteItem.{SiteItem}
use Rattle.site_variables.specs.Choosing.{ArePlaced, named_if, with_item}
use Rattle.site_variables.specs.Lists.{documents_of, each, is_in, named}
use Rattle.site_variables.proofs.Filled.{kept_more}

module _ (x : SiteItem) (lists : List Items) (place : ℕ) (within : place < length lists) where
  at_place : (b : Bool) → eqb x.group place ≡ b → get_or (with_item x lists) place no_items ≡ onto (get_or lists place no_items) (named_if b x)
  at_place true e =
      let here = eqb-true x.group place e in
      ap (λ k. get_or (set lists k (onto (get_or lists k no_items) (item (named x) no_items))) place no_items) here ∙ get_or-set_same lists place (onto (get_or lists place no_items) (item (named x) no_items)) no_items within
  at_place false e =
      let other : place ≢ x.group = λ h. eqb-false x.group place e (sym h) in
      get_or-set_other lists x.group place (onto (get_or lists x.group no_items) (item (named x) no_items)) no_items other ∙ sym (onto_nothing (get_or lists place no_items))

-- so far each list has its documents among the items passed, which with those among the others are all
pub record AreFilled (items rest : List SiteItem) (count : ℕ) (lists : List Items) : Type 0 where
  pub many : length lists ≡ count
  pub all : (place : ℕ) → place < count → onto (get_or lists place no_items) (each named (documents_of place rest)) ≡ each named (documents_of place items)

pub filled_at_first : (items : List SiteItem) (count : ℕ) (lists : List Items) → lists ≡ replicate count no_items → AreFilled items items count lists
filled_at_first items count lists e = record {
  many = ap length e ∙ length-replicate count no_items;
  all = λ place lt. ap (λ (ls : List Items). onto (get_or ls place no_items) (each named (documents_of place items))) e
      ∙ ap (λ (is : Items). onto is (each named (documents_of place items))) (get_or-replicate count place no_items no_items lt);
}

pub filled_more : (items : List SiteItem) (i count : ℕ) (x : SiteItem) (lists more : List Items) → i < length items → x ≡ get_or items i x → more ≡ with_item x lists
    → AreFilled items (drop i items) count lists → AreFilled items (drop (i + 1) items) count more
filled_more items i count x lists more lt e made so_far = record {
  many = ap length made ∙ length-set lists x.group _ ∙ so_far.many;
  all = λ place within.
      let inside : place < length lists = omega (arith, so_far.many) in
      ap (λ (ls : List Items). onto (get_or ls place no_items) (each named (documents_of place (drop (i + 1) items)))) made
      ∙ ap (λ (is : Items). onto is (each named (documents_of place (drop (i + 1) items)))) (at_place x lists place inside (is_in place x) refl)
      ∙ kept_more (is_in place) (get_or lists place no_items) items i x (is_in place x) lt e refl
      ∙ so_far.all place within;
}

pub filled_end : (items : List SiteItem) (i count : ℕ) (lists : List Items) → length items ≤ i → AreFilled items (drop i items) count lists → ArePlaced items count lists
filled_end items i count lists le filled = record {
  many = filled.many;
  each_has = λ place within.
      let inside : place < length lists = omega (arith, filled.many) in
      slice_get-get_or lists place no_items inside
      ∙ ap Some (sym (onto_nothing (get_or lists place no_items)) ∙ ap (onto (get_or lists place no_items)) (sym (at_drop_all (λ xs. each named (documents_of place xs)) items i le)) ∙ filled.all place within);
}

-- the list at a place
pub placed_at : (items : List SiteItem) (count : ℕ) (lists : List Items) (place : ℕ) (is : Items) → ArePlaced items count lists → place < count → is ≡ get_or lists place is → is ≡ each named (documents_of place items)
placed_at items count lists place is placed within e =
    let inside : place < length lists = omega (arith, placed.many) in
    let here : Some is ≡ Some (each named (documents_of place items)) = ap Some e ∙ sym (slice_get-get_or lists place is inside) ∙ placed.each_has place within in
    cc

-- lists that are equal to those that were filled
pub placed_in : {A E : Type 0} (lists_of : A → List Items) (items passed : List SiteItem) (count : ℕ) (lists : List Items) (r : Result A E) → passed ≡ items → ArePlaced passed count lists
    → IfOk r (λ made. lists_of made ≡ lists) → IfOk r (λ made. ArePlaced items count (lists_of made))
placed_in lists_of items passed count lists (Ok made) e placed same =
    subst (λ (xs : List SiteItem). ArePlaced xs count (lists_of made)) e (subst (ArePlaced passed count) (sym same) placed)
placed_in lists_of items passed count lists (Err fault) e placed same = same
