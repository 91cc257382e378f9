-- What the elements of a loop stand in, and the part of them that is gone over.
use Rattle.std.proofs.Common.{◌≡◌, ◌∙◌, ℕ, zero, suc, ◌+◌, ◌-◌, ◌<◌, ◌≤◌, ◌^◌, ℤ, pos, ◌+ℤ◌, ◌≤ℤ◌, ◌<ℤ◌, Bool, true, false, List, [], ◌∷◌, length, get_or, take, drop, reverse, Option, Some, None, Result, Ok, Err, slice_get, refl, sym, ap, arith, min}
use Rattle.std.proofs.lemmas.Int.{ints}
use Rattle.std.proofs.lemmas.List.{length-take, length-drop, length-reverse, get_or-take, get_or-drop, get_or-reverse, take_min, drop_min, take_all}
use Rattle.std.proofs.lemmas.Option.{slice_get-get_or}
use Rattle.site_base.specs.Plain.{Plain, nil, int, text, Items, no_items, item, item_list, count, Pairs, no_pairs, pair, count_pairs}
use Rattle.site_base.specs.View.{plain, pairs_of}
use Rattle.site_base.specs.declared.value.Pair.{Pair}
use Rattle.filter_base.specs.Elements.{counted, range_len, range_count}
use Rattle.liquid_tags.specs.Elements.{pair_value, pair_list, lone_text, cut_from, cut_to, turned_round}
use Rattle.liquid_tags.specs.Sources.{passed, kept}

pub count_items : (is : Items) → count is ≡ length (item_list is)
count_items no_items = refl
count_items (item v is) = ap suc (count_items is)

pub count_pair_list : (ps : Pairs) → count_pairs ps ≡ length (pair_list ps)
count_pair_list no_pairs = refl
count_pair_list (pair k v ps) = ap suc (count_pair_list ps)

pub counted_len : (a : ℤ) (n : ℕ) → n ≡ length (item_list (counted a n))
counted_len a zero = refl
counted_len a (suc n) = ap suc (counted_len (a +ℤ pos 1) n)

pub lone_none : (t : List ℕ) → length t ≡ 0 → 0 ≡ length (lone_text t)
lone_none [] h = refl
lone_none (c ∷ cs) h = absurd (omega arith)

pub lone_one : (t : List ℕ) → 0 < length t → 1 ≡ length (lone_text t)
lone_one [] h = absurd (omega arith)
lone_one (c ∷ cs) h = refl

pub lone_at : (t : List ℕ) (i : ℕ) → i < length (lone_text t) → slice_get (lone_text t) i ≡ Some (text t)
lone_at [] i lt = absurd (omega arith)
lone_at (c ∷ cs) zero lt = refl
lone_at (c ∷ cs) (suc i) lt = absurd (omega arith)

pub pair_there : (ps : List Pair) (i : ℕ) (d : Pair) → i < length ps → slice_get (pair_list (pairs_of ps)) i ≡ Some (pair_value (get_or ps i d).key (plain (get_or ps i d).value))
pair_there [] i d lt = absurd (omega arith)
pair_there (p ∷ ps) zero d lt = refl
pair_there (p ∷ ps) (suc i) d lt = pair_there ps i d (omega arith)

pub number_at : (a : ℤ) (n i : ℕ) → i < n → slice_get (item_list (counted a n)) i ≡ Some (int (a +ℤ pos i))
number_at a zero i lt = absurd (omega arith)
number_at a (suc n) zero lt = let e : a ≡ a +ℤ pos 0 = omega (arith, ints) in ap (λ b. Some (int b)) e
number_at a (suc n) (suc i) lt =
    let e : a +ℤ pos 1 +ℤ pos i ≡ a +ℤ pos (suc i) = omega (arith, ints) in
    number_at (a +ℤ pos 1) n i (omega arith) ∙ ap (λ b. Some (int b)) e

pub range_top : (a b : ℤ) (n : ℕ) → a <ℤ pos (2 ^ 63) → b <ℤ pos (2 ^ 63) → Ok n ≡ range_count (range_len a b) → (a +ℤ pos n) ≤ℤ pos (2 ^ 63)
range_top a b n p q e = grind (arith, ints)

-- ---- The part that is gone over

module _ (vs : List Plain) (start len : ℕ) (within : start + len ≤ length vs) where
  part_len : length (take len (drop start vs)) ≡ len
  part_len = omega (arith, within, length-take len (drop start vs), length-drop start vs)

  pub turned_len : (b : Bool) → length (turned_round b (take len (drop start vs))) ≡ len
  turned_len true = length-reverse (take len (drop start vs)) ∙ part_len
  turned_len false = part_len

  part_at : (i : ℕ) → i < len → get_or (take len (drop start vs)) i nil ≡ get_or vs (start + i) nil
  part_at i lt = get_or-take len (drop start vs) i nil lt ∙ get_or-drop start vs i nil

  pub at_front : (i : ℕ) → i < len → slice_get (take len (drop start vs)) i ≡ slice_get vs (start + i)
  at_front i lt =
      slice_get-get_or (take len (drop start vs)) i nil (omega (arith, part_len, lt)) ∙ ap (λ (v : Plain). Some v) (part_at i lt)
      ∙ sym (slice_get-get_or vs (start + i) nil (omega (arith, within, lt)))

  pub at_back : (i : ℕ) → i < len → slice_get (reverse (take len (drop start vs))) i ≡ slice_get vs (start + (len - 1 - i))
  at_back i lt =
      let part = take len (drop start vs) in
      let k : length part - 1 - i ≡ len - 1 - i = omega (arith, part_len) in
      slice_get-get_or (reverse part) i nil (omega (arith, part_len, length-reverse part, lt))
      ∙ ap (λ (v : Plain). Some v) (get_or-reverse part i nil (omega (arith, part_len, lt)) ∙ ap (λ j. get_or part j nil) k ∙ part_at (len - 1 - i) (omega (arith, lt)))
      ∙ sym (slice_get-get_or vs (start + (len - 1 - i)) nil (omega (arith, within, lt)))

passed_is : (offset : Option ℕ) (vs : List Plain) → drop (passed offset (length vs)) vs ≡ cut_from offset vs
passed_is None vs = refl
passed_is (Some n) vs = drop_min n vs

kept_is : (limit : Option ℕ) (vs : List Plain) → take (kept limit (length vs)) vs ≡ cut_to limit vs
kept_is None vs = take_all (length vs) vs (omega arith)
kept_is (Some n) vs = take_min n vs

pub cut_is : (offset limit : Option ℕ) (vs : List Plain) → take (kept limit (length vs - passed offset (length vs))) (drop (passed offset (length vs)) vs) ≡ cut_to limit (cut_from offset vs)
cut_is offset limit vs =
    let start = passed offset (length vs) in
    ap (λ n. take (kept limit n) (drop start vs)) (sym (length-drop start vs)) ∙ kept_is limit (drop start vs) ∙ ap (cut_to limit) (passed_is offset vs)

pub passed_within : (offset : Option ℕ) (n : ℕ) → passed offset n ≤ n
passed_within None n = omega arith
passed_within (Some m) n = omega arith

pub kept_within : (limit : Option ℕ) (n : ℕ) → kept limit n ≤ n
kept_within None n = omega arith
kept_within (Some m) n = omega arith
