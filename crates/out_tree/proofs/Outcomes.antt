-- What the steps of a plan leave: in the output, and to believe.
use Rattle.std.proofs.Common.{◌≡◌, ℕ, Bool, true, false, cond, not, List, [], ◌∷◌, ◌++◌, map, refl, sym, ◌∙◌, ap, subst, Option, Some, None}
use Rattle.std.specs.Prelude.{◌||◌, filter}
use Rattle.std.specs.FinMap.{get, entries, entries_sorted, contains_key, find, get-entries, get-insert, get-remove}
use Rattle.std.specs.Option.{is_some}
use Rattle.site_base.specs.Places.{path_cmp, Files, same_path, is_listed}
use Rattle.out_tree.specs.Keep.{is_kept}
use Rattle.out_tree.specs.Device.{path_of, step_paths, done, done_one, Does, EachOnce}
use Rattle.out_tree.specs.Belief.{Belief, IsTrueOf, after, after_one}
use Rattle.out_tree.specs.Plan.{planned, removals, writes, is_surplus, is_wanting, is_known_as}
use Rattle.out_tree.specs.Tries.{Tried, AllDone, failed_paths, InOrder, DoneBut, StaysTrue}
use Rattle.out_tree.specs.Exact.{MadeBut, MarksThose, Settles}
use Rattle.out_tree.specs.declared.step.Step.{Step}
use Rattle.out_tree.specs.declared.step.Step.TheVariants.{Remove, Write}
use Rattle.out_tree.specs.declared.step.Call.{Call}
use Rattle.out_tree.specs.declared.state.State.{State}
use Rattle.out_tree.specs.declared.state.State.TheVariants.{Known, Marked}
use Rattle.out_tree.proofs.Paths.{path_order, the_same, front, back, left_no, right_no, later_yes, is_true, not_true}
use Rattle.out_tree.proofs.Believed.{steps_in, after_is, in_order, true_after}
use Rattle.out_tree.proofs.Exactly.{put_one, put_all, one_at, one_apart, one_there, AgreesWith, in_tree, surplus, kept, none_pass, same_bytes}

abbrev as_is : List ℕ → List ℕ
as_is bytes = bytes

one_is : (m : Files) (s : Step) → done_one m s ≡ put_one as_is m s
one_is m (Remove path) = refl
one_is m (Write path bytes) = refl

done_is : (m : Files) (ss : List Step) → done m ss ≡ put_all as_is m ss
done_is m [] = refl
done_is m (s ∷ ss) = done_is (done_one m s) ss ∙ ap (λ (x : Files). put_all as_is x ss) (one_is m s)

-- a path that did not fail has what the steps make of it
done_not_failed : (old m : Files) (ts : List (Step × Bool)) (new : Files) (q : List ℕ) → AllDone old ts new → is_listed q (failed_paths ts) ≡ false → get old q ≡ get m q → get new q ≡ get (done m (steps_in ts)) q
done_not_failed old m [] new q all n is = ap (λ (f : Files). get f q) (sym all) ∙ is
done_not_failed old m (t ∷ ts) new q all n is =
    elim t.1 as (λ b. is_listed q (map (λ (u : Step × Bool). path_of u.0) (cond (not b) (t ∷ filter (λ (u : Step × Bool). not u.1) ts) (filter (λ (u : Step × Bool). not u.1) ts))) ≡ false → Does old t.0 b all.0 → get new q ≡ get (done (done_one m t.0) (steps_in ts)) q) [
      | true ↦ λ fine d. done_not_failed all.0 (done_one m t.0) ts new q all.2 fine
          (ap (λ (f : Files). get f q) (d ∙ one_is old t.0) ∙ one_at as_is old m t.0 q is ∙ ap (λ (f : Files). get f q) (sym (one_is m t.0)))
      | false ↦ λ fine d. done_not_failed all.0 (done_one m t.0) ts new q all.2 (right_no _ _ fine)
          (d q (left_no _ _ fine) ∙ is ∙ sym (one_apart as_is m t.0 q (left_no _ _ fine)) ∙ ap (λ (f : Files). get f q) (sym (one_is m t.0)))
    ] n all.1

-- a step leaves what is believed of other paths
after_apart : (m : Belief) (s : Step) (ok : Bool) (q : List ℕ) → same_path q (path_of s) ≡ false → get (after_one m s ok) q ≡ get m q
after_apart m (Remove path) true q apart = get-remove path_order m path q ∙ ap (λ b. cond b None (get m q)) apart
after_apart m (Write path bytes) true q apart = get-insert path_order m path (Known bytes) q ∙ ap (λ b. cond b (Some (Known bytes)) (get m q)) apart
after_apart m (Remove path) false q apart = get-insert path_order m path Marked q ∙ ap (λ b. cond b (Some Marked) (get m q)) apart
after_apart m (Write path bytes) false q apart = get-insert path_order m path Marked q ∙ ap (λ b. cond b (Some Marked) (get m q)) apart

after_ok : (m : Belief) (s : Step) → after_one m s true ≡ put_one Known m s
after_ok m (Remove path) = refl
after_ok m (Write path bytes) = refl

after_mark : (m : Belief) (s : Step) (q : List ℕ) → same_path q (path_of s) ≡ true → get (after_one m s false) q ≡ Some Marked
after_mark m (Remove path) q there = get-insert path_order m path Marked q ∙ ap (λ b. cond b (Some Marked) (get m q)) there
after_mark m (Write path bytes) q there = get-insert path_order m path Marked q ∙ ap (λ b. cond b (Some Marked) (get m q)) there

after_untouched : (m : Belief) (ss : List Step) (failed : List (List ℕ)) (q : List ℕ) → is_listed q (step_paths ss) ≡ false → get (after m ss failed) q ≡ get m q
after_untouched m [] failed q h = refl
after_untouched m (s ∷ ss) failed q h =
    after_untouched (after_one m s (not (is_listed (path_of s) failed))) ss failed q (right_no _ _ h)
    ∙ after_apart m s (not (is_listed (path_of s) failed)) q (left_no _ _ h)

-- of a path that did not fail is believed what the steps make of it
pub after_not_failed : (old m : Belief) (ss : List Step) (failed : List (List ℕ)) (q : List ℕ) → is_listed q failed ≡ false → get old q ≡ get m q → get (after old ss failed) q ≡ get (put_all Known m ss) q
after_not_failed old m [] failed q n is = is
after_not_failed old m (s ∷ ss) failed q n is =
    after_not_failed (after_one old s (not (is_listed (path_of s) failed))) (put_one Known m s) ss failed q n
    (elim (same_path q (path_of s)) as (λ c. same_path q (path_of s) ≡ c → get (after_one old s (not (is_listed (path_of s) failed))) q ≡ get (put_one Known m s) q) [
      | true ↦ λ there.
          let fine : not (is_listed (path_of s) failed) ≡ true = ap (λ x. not (is_listed x failed)) (sym (the_same q (path_of s) there)) ∙ ap not n in
          ap (λ b. get (after_one old s b) q) fine ∙ ap (λ (x : Belief). get x q) (after_ok old s) ∙ one_there Known old m s q there
      | false ↦ λ apart. after_apart old s (not (is_listed (path_of s) failed)) q apart ∙ is ∙ sym (one_apart Known m s q apart)
    ] refl)

-- a path that failed is marked
after_failed : (m : Belief) (ss : List Step) (failed : List (List ℕ)) (q : List ℕ) → is_listed q failed ≡ true → is_listed q (step_paths ss) ≡ true → get (after m ss failed) q ≡ Some Marked
after_failed m [] failed q f h = absurd (cc (h))
after_failed m (s ∷ ss) failed q f h =
    elim (is_listed q (step_paths ss)) as (λ c. is_listed q (step_paths ss) ≡ c → (same_path q (path_of s) || c) ≡ true → get (after (after_one m s (not (is_listed (path_of s) failed))) ss failed) q ≡ Some Marked) [
      | true ↦ λ later _. after_failed (after_one m s (not (is_listed (path_of s) failed))) ss failed q f later
      | false ↦ λ none here.
          let there : same_path q (path_of s) ≡ true = first (same_path q (path_of s)) here in
          let failing : not (is_listed (path_of s) failed) ≡ false = ap (λ x. not (is_listed x failed)) (sym (the_same q (path_of s) there)) ∙ ap not f in
          after_untouched (after_one m s (not (is_listed (path_of s) failed))) ss failed q none
          ∙ ap (λ b. get (after_one m s b) q) failing ∙ after_mark m s q there
    ] refl h
  where
    first : (a : Bool) → (a || false) ≡ true → a ≡ true
    first true e = refl
    first false e = e

listed_filter : (p : List ℕ → Bool) (q : List ℕ) (xs : List (List ℕ)) → is_listed q (filter p xs) ≡ true → is_listed q xs ≡ true
listed_filter p q [] h = h
listed_filter p q (x ∷ xs) h =
    elim (p x) as (λ b. is_listed q (cond b (x ∷ filter p xs) (filter p xs)) ≡ true → (same_path q x || is_listed q xs) ≡ true) [
      | true ↦ λ l. elim (same_path q x) as (λ c. (c || is_listed q (filter p xs)) ≡ true → (c || is_listed q xs) ≡ true) [
        | true ↦ λ _. refl
        | false ↦ λ k. listed_filter p q xs k
      ] l
      | false ↦ λ l. later_yes (same_path q x) _ (listed_filter p q xs l)
    ] h

-- what follows where each step was tried once
pub record Outcome (steps : List Step) (old new : Belief) (told tells : Option Files) (failed : List (List ℕ)) : Type 0 where
  pub in_order : InOrder steps failed
  pub belief : new ≡ after old steps failed
  pub contents : DoneBut failed steps told tells
  pub truth : StaysTrue old new told tells

same_files : (told : Option Files) (a b : Files) → told ≡ Some a → told ≡ Some b → a ≡ b
same_files told a b x y = let e : Some a ≡ Some b = sym x ∙ y in cc (e)

outcome_of : (ts : List (Step × Bool)) (old : Belief) (told tells : Option Files) → EachOnce (steps_in ts)
    → ((files : Files) → told ≡ Some files → (now_there : Files) × (tells ≡ Some now_there) × AllDone files ts now_there)
    → (new : Belief) → new ≡ Rattle.out_tree.specs.Tries.after_tries old ts → Outcome (steps_in ts) old new told tells (failed_paths ts)
outcome_of ts old told tells once output new is = record {
  in_order = in_order ts once;
  belief = is ∙ after_is old ts once;
  contents = record {
    tells_still = λ files a. ((output files a).0, (output files a).1);
    is_done = λ files now a b q fine.
        let out = output files a in
        ap (λ (f : Files). get f q) (sym (same_files tells out.0 now out.1 b)) ∙ done_not_failed files files ts out.0 q out.2 fine refl;
  };
  truth = record {
    stays = λ files now a b t.
        let out = output files a in
        subst (IsTrueOf new) (same_files tells out.0 now out.1 b) (subst (λ (x : Belief). IsTrueOf x out.0) (sym is) (true_after old files ts out.0 t out.2));
  };
}

pub outcome : (steps given : List Step) (old first new : Belief) (told tells : Option Files) (called calls : Option (List Call)) (before now : ℕ) (failed_first failed listed : List (List ℕ))
    → Tried given first new told tells called calls before now failed_first failed → given ≡ steps → first ≡ old → failed_first ≡ [] → listed ≡ failed → EachOnce given
    → Outcome steps old new told tells listed
outcome steps given old first new told tells called calls before now failed_first failed listed t is start none list once =
    let by_tries : Outcome (steps_in t.tries) first new told tells (failed_paths t.tries) = outcome_of t.tries first told tells (subst EachOnce (sym t.all) once) t.output new t.belief in
    let those : failed_paths t.tries ≡ listed = ap (λ (l : List (List ℕ)). l ++ failed_paths t.tries) (sym none) ∙ sym t.failed_are ∙ sym list in
    subst (λ (l : List (List ℕ)). Outcome steps old new told tells l) those
    (subst (λ (b : Belief). Outcome steps b new told tells (failed_paths t.tries)) start
    (subst (λ (l : List Step). Outcome l first new told tells (failed_paths t.tries)) (t.all ∙ is) by_tries))

-- the output is exactly the tree, but for the paths that failed
pub made_but : (failed : List (List ℕ)) (belief : Belief) (tree : Files) (keep : List (List ℕ)) (told tells : Option Files) → DoneBut failed (planned belief tree keep) told tells → MadeBut failed belief tree keep told tells
made_but failed belief tree keep told tells d = record {
  is_exactly = λ old new a b t.
      let agrees : AgreesWith as_is belief old = record { known = t.known; absent = t.absent } in
      let at : (q : List ℕ) → is_listed q failed ≡ false → get new q ≡ get (put_all as_is old (planned belief tree keep)) q = λ q fine. d.is_done old new a b q fine ∙ ap (λ (f : Files). get f q) (done_is old (planned belief tree keep)) in
      record {
        files = λ q fine has. at q fine ∙ of_tree old agrees q (get tree q) refl has;
        others = λ q fine lacks free. at q fine ∙ surplus as_is belief tree keep old agrees q lacks free;
        kept = λ q fine lacks held. at q fine ∙ kept as_is belief tree keep old agrees q lacks held;
      };
}
  where
    of_tree : (old : Files) → AgreesWith as_is belief old → (q : List ℕ) (x : Option (List ℕ)) → get tree q ≡ x → is_some x ≡ true → get (put_all as_is old (planned belief tree keep)) q ≡ get tree q
    of_tree old agrees q None t has = absurd (cc (has))
    of_tree old agrees q (Some b) t has = in_tree as_is belief tree keep old agrees q b t ∙ sym t

itself_agrees : (belief : Belief) → AgreesWith Known belief belief
itself_agrees belief = record { known = λ q b is. is; absent = λ q is. is }

-- what is believed of the paths that did not fail
module _ (belief : Belief) (tree : Files) (keep failed : List (List ℕ)) where
  abbrev later : Belief
  later = after belief (planned belief tree keep) failed

  at_later : (q : List ℕ) → is_listed q failed ≡ false → get later q ≡ get (put_all Known belief (planned belief tree keep)) q
  at_later q fine = after_not_failed belief belief (planned belief tree keep) failed q fine refl

  only_kept : (q : List ℕ) → is_listed q failed ≡ false → get later q ≡ Some Marked → (is_kept keep q ≡ true) × (get belief q ≡ Some Marked)
  only_kept q fine marked = by (get tree q) refl (is_kept keep q) refl
    where
      by : (x : Option (List ℕ)) → get tree q ≡ x → (k : Bool) → is_kept keep q ≡ k → (is_kept keep q ≡ true) × (get belief q ≡ Some Marked)
      by (Some b) t k s = let e : Some Marked ≡ Some (Known b) = sym marked ∙ at_later q fine ∙ in_tree Known belief tree keep belief (itself_agrees belief) q b t in absurd (cc (e))
      by None t false s = let e : Some Marked ≡ None = sym marked ∙ at_later q fine ∙ surplus Known belief tree keep belief (itself_agrees belief) q (ap is_some t) s in absurd (cc (e))
      by None t true s = (s, sym (kept Known belief tree keep belief (itself_agrees belief) q (ap is_some t) s) ∙ sym (at_later q fine) ∙ marked)

  pub marks_those : (new : Belief) → new ≡ later → InOrder (planned belief tree keep) failed → MarksThose failed keep belief new
  marks_those new is order = subst (λ (b : Belief). MarksThose failed keep belief b) (sym is) (record {
    failed_marked = λ q f. after_failed belief (planned belief tree keep) failed q f (listed_filter (λ path. is_listed path failed) q (step_paths (planned belief tree keep)) (ap (is_listed q) (sym order) ∙ f));
    marked_failed = only_kept;
  })

-- where nothing failed, the next plan is empty
module _ (belief : Belief) (tree : Files) (keep : List (List ℕ)) where
  abbrev settled : Belief
  settled = after belief (planned belief tree keep) []

  at_settled : (q : List ℕ) → get settled q ≡ get (put_all Known belief (planned belief tree keep)) q
  at_settled q = after_not_failed belief belief (planned belief tree keep) [] q refl refl

  no_removals : removals settled tree keep ≡ []
  no_removals = ap (λ es. map (λ (e : List ℕ × State). Remove e.0) es) (none_pass (λ e. is_surplus tree keep e.0) (entries settled) (is_true _ (entries_sorted settled)) none)
    where
      none : (q : List ℕ) (v : State) → find path_cmp q (entries settled) ≡ Some v → is_surplus tree keep q ≡ false
      none q v f = elim (is_surplus tree keep q) as (λ b. is_surplus tree keep q ≡ b → b ≡ false) [
        | true ↦ λ s.
            let lacks : contains_key tree q ≡ false = not_true _ (front _ _ s) in
            let free : is_kept keep q ≡ false = not_true _ (back (not (contains_key tree q)) _ s) in
            let e : Some v ≡ None = sym f ∙ sym (get-entries settled q) ∙ at_settled q ∙ surplus Known belief tree keep belief (itself_agrees belief) q lacks free in
            absurd (cc (e))
        | false ↦ λ s. refl
      ] refl

  no_writes : writes settled tree ≡ []
  no_writes = ap (λ es. map (λ (e : List ℕ × List ℕ). Write e.0 e.1) es) (none_pass (is_wanting settled) (entries tree) (is_true _ (entries_sorted tree)) none)
    where
      none : (q b : List ℕ) → find path_cmp q (entries tree) ≡ Some b → is_wanting settled (q, b) ≡ false
      none q b f =
          ap (λ x. not (is_known_as x b)) (at_settled q ∙ in_tree Known belief tree keep belief (itself_agrees belief) q b (get-entries tree q ∙ f))
          ∙ ap not (same_bytes b)

  pub settles : (failed : List (List ℕ)) (new : Belief) → new ≡ after belief (planned belief tree keep) failed → Settles failed new tree keep
  settles failed new is none =
      ap (λ (b : Belief). planned b tree keep) (is ∙ ap (after belief (planned belief tree keep)) none)
      ∙ (λ i. no_removals i ++ no_writes i)
