-- The items and pairs of flow values, one part after another.
use Rattle.std.proofs.Common.{◌≡◌, ℕ, zero, suc, ◌+◌, ◌-◌, ◌<◌, ◌≤◌, Bool, true, false, List, [], ◌∷◌, length, drop, Ok, Err, refl, ap, sym, ◌∙◌, length-drop, drop-drop, drop_of_length-le, arith}
use Rattle.site_base.specs.Chains.{◌>>=◌}
use mathlib.Core.Path.{fun_ext}
use Rattle.site_base.specs.Plain.{Plain, Items, no_items, item, onto, Pairs, no_pairs, pair, set}
use Rattle.site_base.specs.Recursion.{Falls}
use Rattle.site_base.specs.Recursion.{down_is}
use Rattle.site_base.specs.declared.faults.YamlKind.TheVariants as kind
use Rattle.front_yaml.specs.Reading.{Fault, Reading, further}
use Rattle.front_yaml.specs.Bytes.{starts}
use Rattle.front_yaml.specs.declared.flow_parts.Part.{Part}
use Rattle.front_yaml.specs.declared.flow_parts.Part.TheVariants.{Shut, Last, More}
use Rattle.front_yaml.specs.Flow.{Node, node, part, items_after, items_step, items, entry, pairs_after, pairs_step, pairs, hash_pairs, settled, list_value, hash_value, with_items, with_pairs, collection}

shorter : (k c : ℕ) (cs : List ℕ) → length (drop k cs) < length (c ∷ cs)
shorter k c cs = omega (arith, length-drop k cs)

next-rest : (k c : ℕ) (cs : List ℕ) → drop k cs ≡ drop (k + 1) (c ∷ cs)
next-rest k c cs = let e : k + 1 ≡ suc k = omega arith in ap (λ n. drop n (c ∷ cs)) (sym e)

sum-assoc : (a b c : ℕ) → a + (b + c) ≡ a + b + c
sum-assoc a b c = omega arith

-- ---- lists

onto-onto : (a : Items) (v : Plain) (b : Items) → onto a (item v b) ≡ onto (onto a (item v no_items)) b
onto-onto no_items v b = refl
onto-onto (item w a) v b = ap (λ is. item w is) (onto-onto a v b)

onto-end : (a : Items) → onto a no_items ≡ a
onto-end no_items = refl
onto-end (item w a) = ap (λ is. item w is) (onto-end a)

pub items_start : (r : Reading (Items × ℕ)) → with_items 0 no_items r ≡ r
items_start (Ok x) = let e : 0 + x.1 ≡ x.1 = omega arith in ap (λ n. Ok (x.0, n)) e
items_start (Err f) = let e : 0 + f.0 ≡ f.0 = omega arith in ap (λ n. Err (n, f.1)) e

module _ (child : Node) where
  items-fall : Falls length (Err (0, kind.Flow)) (items_step child)
  items-fall f g [] h = refl
  items-fall f g (c ∷ cs) h = ap (λ next. part 93 child (c ∷ cs) >>= items_after child next) (fun_ext (λ k. h (drop k cs) (shorter k c cs)))

  items-is : (s : List ℕ) → items child s ≡ items_step child (items child) s
  unfolding items
  items-is s = down_is length (Err (0, kind.Flow)) (items_step child) items-fall s

  abbrev items_from : List ℕ → Reading (Part Plain) → Reading (Items × ℕ)
  items_from s p = p >>= items_after child (λ k. items child (drop (k + 1) s))

  first-item : (s : List ℕ) → 0 < length s → items child s ≡ items_from s (part 93 child s)
  first-item [] lt = absurd (omega arith)
  first-item (c ∷ cs) lt = items-is (c ∷ cs) ∙ ap (λ next. part 93 child (c ∷ cs) >>= items_after child next) (fun_ext (λ k. ap (items child) (next-rest k c cs)))

  told-item : (n : ℕ) (done : Items) (s : List ℕ) (p : Reading (Part Plain)) (all : Reading (Items × ℕ)) → n < length s
      → with_items n done (items child (drop n s)) ≡ all → part 93 child (drop n s) ≡ p → with_items n done (items_from (drop n s) p) ≡ all
  told-item n done s p all lt told e =
      ap (λ q. with_items n done (items_from (drop n s) q)) (sym e) ∙ ap (with_items n done) (sym (first-item (drop n s) (omega (arith, length-drop n s)))) ∙ told

  pub items_shut : (n k : ℕ) (done : Items) (s : List ℕ) (all : Reading (Items × ℕ)) → n < length s
      → with_items n done (items child (drop n s)) ≡ all → part 93 child (drop n s) ≡ Ok (Shut k) → all ≡ Ok (done, n + k + 1)
  items_shut n k done s all lt told e =
      let m : n + (k + 1) ≡ n + k + 1 = omega arith in
      sym (told-item n done s (Ok (Shut k)) all lt told e) ∙ ap (λ is. Ok (is, n + (k + 1))) (onto-end done) ∙ ap (λ i. Ok (done, i)) m

  pub items_last : (n k : ℕ) (v : Plain) (done : Items) (s : List ℕ) (all : Reading (Items × ℕ)) → n < length s
      → with_items n done (items child (drop n s)) ≡ all → part 93 child (drop n s) ≡ Ok (Last v k) → all ≡ Ok (onto done (item v no_items), n + k + 1)
  items_last n k v done s all lt told e =
      let m : n + (k + 1) ≡ n + k + 1 = omega arith in
      sym (told-item n done s (Ok (Last v k)) all lt told e) ∙ ap (λ i. Ok (onto done (item v no_items), i)) m

  items-step : (n k m : ℕ) (v : Plain) (done : Items) (r : Reading (Items × ℕ)) → m ≡ n + k + 1
      → with_items n done (further (k + 1) r >>= λ x. Ok (item v x.0, k + 1 + x.1)) ≡ with_items m (onto done (item v no_items)) r
  items-step n k m v done (Ok x) e =
      let i : n + (k + 1 + x.1) ≡ m + x.1 = omega arith in
      ap (λ is. Ok (is, n + (k + 1 + x.1))) (onto-onto done v x.0) ∙ ap (λ j. Ok (onto (onto done (item v no_items)) x.0, j)) i
  items-step n k m v done (Err f) e = let i : n + (k + 1 + f.0) ≡ m + f.0 = omega arith in ap (λ j. Err (j, f.1)) i

  pub items_more : (n k m : ℕ) (v : Plain) (done : Items) (s : List ℕ) (all : Reading (Items × ℕ)) → m ≡ n + k + 1 → n < length s
      → with_items n done (items child (drop n s)) ≡ all → part 93 child (drop n s) ≡ Ok (More v k) → with_items m (onto done (item v no_items)) (items child (drop m s)) ≡ all
  items_more n k m v done s all q lt told e =
      let i : n + (k + 1) ≡ m = omega arith in
      ap (λ j. with_items m (onto done (item v no_items)) (items child (drop j s))) (sym i) ∙ ap (λ xs. with_items m (onto done (item v no_items)) (items child xs)) (sym (drop-drop (k + 1) n s))
      ∙ sym (items-step n k m v done (items child (drop (k + 1) (drop n s))) q) ∙ told-item n done s (Ok (More v k)) all lt told e

  pub items_fault : (n : ℕ) (f : Fault) (done : Items) (s : List ℕ) (all : Reading (Items × ℕ)) → n < length s
      → with_items n done (items child (drop n s)) ≡ all → part 93 child (drop n s) ≡ Err f → all ≡ Err (n + f.0, f.1)
  items_fault n f done s all lt told e = sym (told-item n done s (Err f) all lt told e)

  pub items_end : (n : ℕ) (done : Items) (s : List ℕ) (all : Reading (Items × ℕ)) → length s ≤ n → with_items n done (items child (drop n s)) ≡ all → all ≡ Err (n, kind.Flow)
  items_end n done s all le told =
      let i : n + 0 ≡ n = omega arith in
      sym told ∙ ap (λ xs. with_items n done (items child xs)) (drop_of_length-le s le) ∙ ap (with_items n done) (items-is []) ∙ ap (λ j. Err (j, kind.Flow)) i

-- ---- hashes

pub pairs_start : (child : Node) (s : List ℕ) → with_pairs 0 no_pairs (pairs child s) ≡ hash_pairs child s
pairs_start child s = start (pairs child s) where
  start : (r : Reading (Pairs × ℕ)) → with_pairs 0 no_pairs r ≡ (r >>= λ x. Ok (settled no_pairs x.0, x.1))
  start (Ok x) = let e : 0 + x.1 ≡ x.1 = omega arith in ap (λ n. Ok (settled no_pairs x.0, n)) e
  start (Err f) = let e : 0 + f.0 ≡ f.0 = omega arith in ap (λ n. Err (n, f.1)) e

module _ (child : Node) where
  pairs-fall : Falls length (Err (0, kind.Flow)) (pairs_step child)
  pairs-fall f g [] h = refl
  pairs-fall f g (c ∷ cs) h = ap (λ next. part 125 (entry child) (c ∷ cs) >>= pairs_after child next) (fun_ext (λ k. h (drop k cs) (shorter k c cs)))

  pairs-is : (s : List ℕ) → pairs child s ≡ pairs_step child (pairs child) s
  unfolding pairs
  pairs-is s = down_is length (Err (0, kind.Flow)) (pairs_step child) pairs-fall s

  abbrev pairs_from : List ℕ → Reading (Part (List ℕ × Plain)) → Reading (Pairs × ℕ)
  pairs_from s p = p >>= pairs_after child (λ k. pairs child (drop (k + 1) s))

  first-pair : (s : List ℕ) → 0 < length s → pairs child s ≡ pairs_from s (part 125 (entry child) s)
  first-pair [] lt = absurd (omega arith)
  first-pair (c ∷ cs) lt = pairs-is (c ∷ cs) ∙ ap (λ next. part 125 (entry child) (c ∷ cs) >>= pairs_after child next) (fun_ext (λ k. ap (pairs child) (next-rest k c cs)))

  told-pair : (n : ℕ) (done : Pairs) (s : List ℕ) (p : Reading (Part (List ℕ × Plain))) (all : Reading (Pairs × ℕ)) → n < length s
      → with_pairs n done (pairs child (drop n s)) ≡ all → part 125 (entry child) (drop n s) ≡ p → with_pairs n done (pairs_from (drop n s) p) ≡ all
  told-pair n done s p all lt told e =
      ap (λ q. with_pairs n done (pairs_from (drop n s) q)) (sym e) ∙ ap (with_pairs n done) (sym (first-pair (drop n s) (omega (arith, length-drop n s)))) ∙ told

  pub pairs_shut : (n k : ℕ) (done : Pairs) (s : List ℕ) (all : Reading (Pairs × ℕ)) → n < length s
      → with_pairs n done (pairs child (drop n s)) ≡ all → part 125 (entry child) (drop n s) ≡ Ok (Shut k) → all ≡ Ok (done, n + k + 1)
  pairs_shut n k done s all lt told e =
      let m : n + (k + 1) ≡ n + k + 1 = omega arith in
      sym (told-pair n done s (Ok (Shut k)) all lt told e) ∙ ap (λ i. Ok (done, i)) m

  pub pairs_last : (n k : ℕ) (name : List ℕ) (v : Plain) (done : Pairs) (s : List ℕ) (all : Reading (Pairs × ℕ)) → n < length s
      → with_pairs n done (pairs child (drop n s)) ≡ all → part 125 (entry child) (drop n s) ≡ Ok (Last (name, v) k) → all ≡ Ok (set name v done, n + k + 1)
  pairs_last n k name v done s all lt told e =
      let m : n + (k + 1) ≡ n + k + 1 = omega arith in
      sym (told-pair n done s (Ok (Last (name, v) k)) all lt told e) ∙ ap (λ i. Ok (set name v done, i)) m

  pairs-step : (n k m : ℕ) (name : List ℕ) (v : Plain) (done : Pairs) (r : Reading (Pairs × ℕ)) → m ≡ n + k + 1
      → with_pairs n done (further (k + 1) r >>= λ x. Ok (pair name v x.0, k + 1 + x.1)) ≡ with_pairs m (set name v done) r
  pairs-step n k m name v done (Ok x) e = let i : n + (k + 1 + x.1) ≡ m + x.1 = omega arith in ap (λ j. Ok (settled (set name v done) x.0, j)) i
  pairs-step n k m name v done (Err f) e = let i : n + (k + 1 + f.0) ≡ m + f.0 = omega arith in ap (λ j. Err (j, f.1)) i

  pub pairs_more : (n k m : ℕ) (name : List ℕ) (v : Plain) (done : Pairs) (s : List ℕ) (all : Reading (Pairs × ℕ)) → m ≡ n + k + 1 → n < length s
      → with_pairs n done (pairs child (drop n s)) ≡ all → part 125 (entry child) (drop n s) ≡ Ok (More (name, v) k) → with_pairs m (set name v done) (pairs child (drop m s)) ≡ all
  pairs_more n k m name v done s all q lt told e =
      let i : n + (k + 1) ≡ m = omega arith in
      ap (λ j. with_pairs m (set name v done) (pairs child (drop j s))) (sym i) ∙ ap (λ xs. with_pairs m (set name v done) (pairs child xs)) (sym (drop-drop (k + 1) n s))
      ∙ sym (pairs-step n k m name v done (pairs child (drop (k + 1) (drop n s))) q) ∙ told-pair n done s (Ok (More (name, v) k)) all lt told e

  pub pairs_fault : (n : ℕ) (f : Fault) (done : Pairs) (s : List ℕ) (all : Reading (Pairs × ℕ)) → n < length s
      → with_pairs n done (pairs child (drop n s)) ≡ all → part 125 (entry child) (drop n s) ≡ Err f → all ≡ Err (n + f.0, f.1)
  pairs_fault n f done s all lt told e = sym (told-pair n done s (Err f) all lt told e)

  pub pairs_end : (n : ℕ) (done : Pairs) (s : List ℕ) (all : Reading (Pairs × ℕ)) → length s ≤ n → with_pairs n done (pairs child (drop n s)) ≡ all → all ≡ Err (n, kind.Flow)
  pairs_end n done s all le told =
      let i : n + 0 ≡ n = omega arith in
      sym told ∙ ap (λ xs. with_pairs n done (pairs child xs)) (drop_of_length-le s le) ∙ ap (with_pairs n done) (pairs-is []) ∙ ap (λ j. Err (j, kind.Flow)) i

-- ---- both

pub too_deep : (d : ℕ) (s : List ℕ) → d ≡ 0 → collection d s ≡ Err (0, kind.Depth)
unfolding collection
too_deep zero s e = refl
too_deep (suc d) s e = absurd (omega arith)

chosen-first : {A : Type 0} (b : Bool) (x y : Reading A) → b ≡ true → elim b as (λ _. Reading A) [ true ↦ x | false ↦ y ] ≡ x
chosen-first true x y e = refl
chosen-first false x y e = cc

chosen-second : {A : Type 0} (b : Bool) (x y : Reading A) → b ≡ false → elim b as (λ _. Reading A) [ true ↦ x | false ↦ y ] ≡ y
chosen-second true x y e = cc
chosen-second false x y e = refl

pub is_list : (d : ℕ) (s : List ℕ) → (d ≡ 0 → ⊥) → starts 91 s ≡ true → collection d s ≡ list_value (node (collection (d - 1))) s
unfolding collection
is_list zero s ne e = absurd (ne refl)
is_list (suc d) s ne e = let same : d ≡ suc d - 1 = omega arith in chosen-first (starts 91 s) _ _ e ∙ ap (λ n. list_value (node (collection n)) s) same

pub is_hash : (d : ℕ) (s : List ℕ) → (d ≡ 0 → ⊥) → starts 91 s ≡ false → collection d s ≡ hash_value (node (collection (d - 1))) s
unfolding collection
is_hash zero s ne e = absurd (ne refl)
is_hash (suc d) s ne e = let same : d ≡ suc d - 1 = omega arith in chosen-second (starts 91 s) _ _ e ∙ ap (λ n. hash_value (node (collection n)) s) same

pub starts_inside : (b : ℕ) (n : ℕ) (s : List ℕ) → starts b (drop n s) ≡ true → n < length s
starts_inside b zero [] e = cc
starts_inside b (suc n) [] e = cc
starts_inside b zero (c ∷ cs) e = omega arith
starts_inside b (suc n) (c ∷ cs) e = let h = starts_inside b n cs e in omega (arith, h)
