-- What steps leave to believe that are tried once each.
use Rattle.std.proofs.Common.{◌≡◌, ℕ, Bool, true, false, cond, not, List, [], ◌∷◌, ◌++◌, map, refl, sym, ◌∙◌, ap, subst, Some, None}
use Rattle.std.proofs.lemmas.List.{map-append}
use Rattle.std.specs.Prelude.{◌||◌, filter}
use Rattle.std.specs.Ordering.{is_eq}
use Rattle.std.specs.FinMap.{get, insert, entries, entries_sorted, contains_key, contains_key-keys, get-insert, get-remove}
use Rattle.std.specs.FinMap.Entries.{below_all}
use Rattle.site_base.specs.Places.{path_cmp, Files, same_path, is_listed, PathsRise}
use Rattle.out_tree.specs.Device.{path_of, step_paths, EachOnce, Does}
use Rattle.out_tree.specs.Belief.{Belief, IsTrueOf, after_one, after}
use Rattle.out_tree.specs.Plan.{planned, removals, writes, is_surplus, is_wanting}
use Rattle.out_tree.specs.Tries.{AllDone, failed_paths, after_tries, InOrder}
use Rattle.out_tree.specs.declared.step.Step.{Step}
use Rattle.out_tree.specs.declared.step.Step.TheVariants.{Remove, Write}
use Rattle.out_tree.specs.declared.state.State.{State}
use Rattle.out_tree.specs.declared.state.State.TheVariants.{Known, Marked}
use Rattle.out_tree.proofs.Paths.{path_order, the_same, itself, turned, front, back, neither, left_no, right_no, later_yes, is_true, not_eq_if_lt, flip, filter_apart}

abbrev pub steps_in : List (Step × Bool) → List Step
steps_in tries = map (λ t. t.0) tries

-- a path that is in none of the steps is not among those that failed
pub not_failed : (q : List ℕ) (ts : List (Step × Bool)) → is_listed q (step_paths (steps_in ts)) ≡ false → is_listed q (failed_paths ts) ≡ false
not_failed q [] h = refl
not_failed q (t ∷ ts) h = elim t.1 as (λ b. is_listed q (map (λ (u : Step × Bool). path_of u.0) (cond (not b) (t ∷ filter (λ (u : Step × Bool). not u.1) ts) (filter (λ (u : Step × Bool). not u.1) ts))) ≡ false) [
  | true ↦ not_failed q ts (right_no _ _ h)
  | false ↦ neither _ _ (left_no _ _ h) (not_failed q ts (right_no _ _ h))
]

-- one more path that failed changes nothing for steps at other paths
one_more : (p : List ℕ) (failed : List (List ℕ)) (belief : Belief) (ss : List Step) → is_listed p (step_paths ss) ≡ false → after belief ss (p ∷ failed) ≡ after belief ss failed
one_more p failed belief [] h = refl
one_more p failed belief (s ∷ ss) h =
    let apart : same_path (path_of s) p ≡ false = turned (path_of s) p ∙ left_no _ _ h in
    one_more p failed (after_one belief s (not (same_path (path_of s) p || is_listed (path_of s) failed))) ss (right_no _ _ h)
    ∙ ap (λ b. after (after_one belief s (not (b || is_listed (path_of s) failed))) ss failed) apart

-- what is believed after the tries is what the paths that failed say
pub after_is : (belief : Belief) (ts : List (Step × Bool)) → EachOnce (steps_in ts) → after_tries belief ts ≡ after belief (steps_in ts) (failed_paths ts)
after_is belief [] d = refl
after_is belief (t ∷ ts) d =
    after_is (after_one belief t.0 t.1) ts d.1
    ∙ elim t.1 as (λ b. after (after_one belief t.0 b) (steps_in ts) (failed_paths ts) ≡ after belief (t.0 ∷ steps_in ts) (map (λ (u : Step × Bool). path_of u.0) (cond (not b) (t ∷ filter (λ (u : Step × Bool). not u.1) ts) (filter (λ (u : Step × Bool). not u.1) ts)))) [
      | true ↦ ap (λ b. after (after_one belief t.0 (not b)) (steps_in ts) (failed_paths ts)) (sym (not_failed (path_of t.0) ts d.0))
      | false ↦
          sym (one_more (path_of t.0) (failed_paths ts) (after_one belief t.0 false) (steps_in ts) d.0)
          ∙ ap (λ b. after (after_one belief t.0 (not (b || is_listed (path_of t.0) (failed_paths ts)))) (steps_in ts) (path_of t.0 ∷ failed_paths ts)) (sym (itself (path_of t.0)))
    ]

-- the paths that failed stand in the order of the steps
pub in_order : (ts : List (Step × Bool)) → EachOnce (steps_in ts) → InOrder (steps_in ts) (failed_paths ts)
in_order [] d = refl
in_order (t ∷ ts) d = elim t.1 as (λ b. InOrder (t.0 ∷ steps_in ts) (map (λ (u : Step × Bool). path_of u.0) (cond (not b) (t ∷ filter (λ (u : Step × Bool). not u.1) ts) (filter (λ (u : Step × Bool). not u.1) ts)))) [
  | true ↦ in_order ts d.1 ∙ ap (λ b. cond b (path_of t.0 ∷ filter (λ p. is_listed p (failed_paths ts)) (step_paths (steps_in ts))) (filter (λ p. is_listed p (failed_paths ts)) (step_paths (steps_in ts)))) (sym (not_failed (path_of t.0) ts d.0))
  | false ↦
      let rest : failed_paths ts ≡ filter (λ p. is_listed p (path_of t.0 ∷ failed_paths ts)) (step_paths (steps_in ts)) = in_order ts d.1 ∙ sym (filter_apart (path_of t.0) (failed_paths ts) (step_paths (steps_in ts)) d.0) in
      ap (λ l. path_of t.0 ∷ l) rest
      ∙ ap (λ b. cond (b || is_listed (path_of t.0) (failed_paths ts)) (path_of t.0 ∷ filter (λ p. is_listed p (path_of t.0 ∷ failed_paths ts)) (step_paths (steps_in ts))) (filter (λ p. is_listed p (path_of t.0 ∷ failed_paths ts)) (step_paths (steps_in ts)))) (sym (itself (path_of t.0)))
]

-- no path stands twice among the paths
abbrev DifferAll : List (List ℕ) → Type 0
DifferAll [] = Unit {0}
DifferAll (p ∷ ps) = (is_listed p ps ≡ false) × DifferAll ps

once_by_paths : (ss : List Step) → DifferAll (step_paths ss) → EachOnce ss
once_by_paths [] d = tt
once_by_paths (s ∷ ss) d = (d.0, once_by_paths ss d.1)

differ_append : (xs ys : List (List ℕ)) → DifferAll xs → DifferAll ys → ((q : List ℕ) → is_listed q xs ≡ true → is_listed q ys ≡ false) → DifferAll (xs ++ ys)
differ_append [] ys a b apart = b
differ_append (x ∷ xs) ys a b apart = (
  not_in_both x xs ys a.0 (apart x (ap (λ c. c || is_listed x xs) (itself x))),
  differ_append xs ys a.1 b (λ q l. apart q (later_yes (same_path q x) _ l)),
)
  where
    not_in_both : (q : List ℕ) (us vs : List (List ℕ)) → is_listed q us ≡ false → is_listed q vs ≡ false → is_listed q (us ++ vs) ≡ false
    not_in_both q [] vs i j = j
    not_in_both q (u ∷ us) vs i j = neither _ _ (left_no _ _ i) (not_in_both q us vs (right_no _ _ i) j)

module _ {V : Type 0} where
  above_all : (q : List ℕ) (p : List ℕ × V → Bool) (es : List (List ℕ × V)) → below_all path_cmp q es ≡ true → is_listed q (map (λ e. e.0) (filter p es)) ≡ false
  above_all q p [] h = refl
  above_all q p (e ∷ es) h = elim (p e) as (λ b. is_listed q (map (λ (d : List ℕ × V). d.0) (cond b (e ∷ filter p es) (filter p es))) ≡ false) [
    | true ↦ neither _ _ (not_eq_if_lt (path_cmp q e.0) (front _ _ h)) (above_all q p es (back _ _ h))
    | false ↦ above_all q p es (back _ _ h)
  ]

  rising_differ : (p : List ℕ × V → Bool) (es : List (List ℕ × V)) → PathsRise es → DifferAll (map (λ e. e.0) (filter p es))
  rising_differ p [] h = tt
  rising_differ p (e ∷ es) h = elim (p e) as (λ b. DifferAll (map (λ (d : List ℕ × V). d.0) (cond b (e ∷ filter p es) (filter p es)))) [
    | true ↦ (above_all e.0 p es (front _ _ h), rising_differ p es (back _ _ h))
    | false ↦ rising_differ p es (back _ _ h)
  ]

  -- what holds of each entry that passes holds of each path listed
  each_listed : (P : List ℕ → Bool) (p : List ℕ × V → Bool) (q : List ℕ) (es : List (List ℕ × V)) → ((e : List ℕ × V) → is_eq (path_cmp q e.0) ≡ true → is_listed e.0 (map (λ d. d.0) es) ≡ true → p e ≡ true → P q ≡ true) → is_listed q (map (λ e. e.0) (filter p es)) ≡ true → P q ≡ true
  each_listed P p q [] each h = absurd (cc (h))
  each_listed P p q (e ∷ es) each h =
      let rest : (d : List ℕ × V) → is_eq (path_cmp q d.0) ≡ true → is_listed d.0 (map (λ c. c.0) es) ≡ true → p d ≡ true → P q ≡ true = λ d a b c. each d a (later_yes (same_path d.0 e.0) _ b) c in
      elim (p e) as (λ b. p e ≡ b → is_listed q (map (λ (d : List ℕ × V). d.0) (cond b (e ∷ filter p es) (filter p es))) ≡ true → P q ≡ true) [
        | true ↦ λ pass l. elim (same_path q e.0) as (λ c. same_path q e.0 ≡ c → (c || is_listed q (map (λ (d : List ℕ × V). d.0) (filter p es))) ≡ true → P q ≡ true) [
          | true ↦ λ s m. each e s (ap (λ c. c || is_listed e.0 (map (λ (d : List ℕ × V). d.0) es)) (itself e.0)) pass
          | false ↦ λ s m. each_listed P p q es rest m
        ] refl l
        | false ↦ λ _ l. each_listed P p q es rest l
      ] refl h

paths_of_removals : (es : List (List ℕ × State)) → step_paths (map (λ e. Remove e.0) es) ≡ map (λ e. e.0) es
paths_of_removals [] = refl
paths_of_removals (e ∷ es) = ap (λ l. e.0 ∷ l) (paths_of_removals es)

paths_of_writes : (es : List (List ℕ × List ℕ)) → step_paths (map (λ e. Write e.0 e.1) es) ≡ map (λ e. e.0) es
paths_of_writes [] = refl
paths_of_writes (e ∷ es) = ap (λ l. e.0 ∷ l) (paths_of_writes es)

-- a plan has no path in two of its steps
pub planned_once : (belief : Belief) (tree : Files) (keep : List (List ℕ)) → EachOnce (planned belief tree keep)
planned_once belief tree keep =
    once_by_paths (planned belief tree keep)
    (subst DifferAll (sym (map-append path_of (removals belief tree keep) (writes belief tree)))
    (subst (λ (l : List (List ℕ)). DifferAll (l ++ step_paths (writes belief tree))) (sym (paths_of_removals _))
    (subst (λ (l : List (List ℕ)). DifferAll (map (λ e. e.0) (filter (λ (e : List ℕ × State). is_surplus tree keep e.0) (entries belief)) ++ l)) (sym (paths_of_writes _))
    (differ_append _ _ (rising_differ _ (entries belief) (is_true _ (entries_sorted belief))) (rising_differ _ (entries tree) (is_true _ (entries_sorted tree))) apart))))
  where
    apart : (q : List ℕ) → is_listed q (map (λ e. e.0) (filter (λ (e : List ℕ × State). is_surplus tree keep e.0) (entries belief))) ≡ true → is_listed q (map (λ e. e.0) (filter (is_wanting belief) (entries tree))) ≡ false
    apart q l =
        flip _ (contains_key tree q)
        (λ w. each_listed (contains_key tree) (is_wanting belief) q (entries tree) (λ e s i _. ap (contains_key tree) (the_same q e.0 s) ∙ contains_key-keys tree e.0 ∙ i) w)
        (each_listed (λ x. not (contains_key tree x)) (λ e. is_surplus tree keep e.0) q (entries belief) (λ e s _ r. ap (λ x. not (contains_key tree x)) (the_same q e.0 s) ∙ front _ _ r) l)

-- a path that is marked may have any bytes
true_mark : (belief : Belief) (files : Files) (path : List ℕ) (new : Files) → IsTrueOf belief files → ((q : List ℕ) → same_path q path ≡ false → get new q ≡ get files q) → IsTrueOf (insert belief path Marked) new
true_mark belief files path new t others = record {
  known = λ q b is. here q b (same_path q path) refl (sym (get-insert path_order belief path Marked q) ∙ is);
  absent = λ q is. gone q (same_path q path) refl (sym (get-insert path_order belief path Marked q) ∙ is);
}
  where
    here : (q b : List ℕ) (c : Bool) → same_path q path ≡ c → cond c (Some Marked) (get belief q) ≡ Some (Known b) → get new q ≡ Some b
    here q b true s is = absurd (cc (is))
    here q b false s is = others q s ∙ t.known q b is

    gone : (q : List ℕ) (c : Bool) → same_path q path ≡ c → cond c (Some Marked) (get belief q) ≡ None → get new q ≡ None
    gone q true s is = absurd (cc (is))
    gone q false s is = others q s ∙ t.absent q is

-- a step keeps the belief true
true_step : (belief : Belief) (files : Files) (s : Step) (ok : Bool) (new : Files) → IsTrueOf belief files → Does files s ok new → IsTrueOf (after_one belief s ok) new
true_step belief files (Remove path) true new t d = record {
  known = λ q b is. ap (λ (m : Files). get m q) d ∙ get-remove path_order files path q ∙ here q b (same_path q path) (sym (get-remove path_order belief path q) ∙ is);
  absent = λ q is. ap (λ (m : Files). get m q) d ∙ get-remove path_order files path q ∙ gone q (same_path q path) (sym (get-remove path_order belief path q) ∙ is);
}
  where
    here : (q b : List ℕ) (c : Bool) → cond c None (get belief q) ≡ Some (Known b) → cond c None (get files q) ≡ Some b
    here q b true is = absurd (cc (is))
    here q b false is = t.known q b is

    gone : (q : List ℕ) (c : Bool) → cond c None (get belief q) ≡ None → cond c None (get files q) ≡ None
    gone q true is = refl
    gone q false is = t.absent q is
true_step belief files (Write path bytes) true new t d = record {
  known = λ q b is. ap (λ (m : Files). get m q) d ∙ get-insert path_order files path bytes q ∙ here q b (same_path q path) (sym (get-insert path_order belief path (Known bytes) q) ∙ is);
  absent = λ q is. ap (λ (m : Files). get m q) d ∙ get-insert path_order files path bytes q ∙ gone q (same_path q path) (sym (get-insert path_order belief path (Known bytes) q) ∙ is);
}
  where
    here : (q b : List ℕ) (c : Bool) → cond c (Some (Known bytes)) (get belief q) ≡ Some (Known b) → cond c (Some bytes) (get files q) ≡ Some b
    here q b true is = let e : bytes ≡ b = cc (is) in ap Some e
    here q b false is = t.known q b is

    gone : (q : List ℕ) (c : Bool) → cond c (Some (Known bytes)) (get belief q) ≡ None → cond c (Some bytes) (get files q) ≡ None
    gone q true is = absurd (cc (is))
    gone q false is = t.absent q is
true_step belief files (Remove path) false new t d = true_mark belief files path new t d
true_step belief files (Write path bytes) false new t d = true_mark belief files path new t d

-- tries keep the belief true
pub true_after : (belief : Belief) (files : Files) (ts : List (Step × Bool)) (new : Files) → IsTrueOf belief files → AllDone files ts new → IsTrueOf (after_tries belief ts) new
true_after belief files [] new t d = subst (IsTrueOf belief) d t
true_after belief files (u ∷ ts) new t d = true_after (after_one belief u.0 u.1) d.0 ts new (true_step belief files u.0 u.1 d.0 t d.1) d.2
