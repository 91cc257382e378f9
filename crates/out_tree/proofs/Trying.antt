-- Steps that are tried one after another.
use Rattle.std.proofs.Common.{◌≡◌, ℕ, ◌+◌, ◌-◌, ◌^◌, ◌≤◌, min, Bool, true, false, cond, not, List, [], ◌∷◌, ◌++◌, map, length, refl, sym, ◌∙◌, ap, subst, arith, Option, append_assoc, length-append}
use Rattle.std.proofs.lemmas.List.{map-append, append-nil}
use Rattle.std.proofs.lemmas.List.Elements.{filter-append}
use Rattle.std.specs.Prelude.{filter}
use Rattle.site_base.specs.Places.{Files}
use Rattle.out_tree.specs.Device.{path_of, Calls, Tells}
use Rattle.out_tree.specs.Belief.{Belief, after_one}
use Rattle.out_tree.specs.Tries.{Tried, AllDone, CallsFor, RoseBy, failed_paths, after_tries}
use Rattle.out_tree.specs.declared.step.Step.{Step}
use Rattle.out_tree.specs.declared.step.Call.{Call}
use Rattle.out_tree.specs.declared.step.Call.TheVariants.{Try}
use Rattle.out_tree.specs.declared.plan.Planned.{Planned}

pub tells_by : (old new : Option Files) (given step : Step) (was ok : Bool) → step ≡ given → was ≡ ok → Tells old new given was → Tells old new step ok
tells_by old new given step was ok s b t = subst (λ (x : Step). Tells old new x ok) (sym s) (subst (λ (x : Bool). Tells old new given x) b t)

after_tries-append : (belief : Belief) (ts us : List (Step × Bool)) → after_tries belief (ts ++ us) ≡ after_tries (after_tries belief ts) us
after_tries-append belief [] us = refl
after_tries-append belief (t ∷ ts) us = after_tries-append (after_one belief t.0 t.1) ts us

all_done-append : (old : Files) (ts us : List (Step × Bool)) (mid new : Files) → AllDone old ts mid → AllDone mid us new → AllDone old (ts ++ us) new
all_done-append old [] us mid new first second = subst (λ (f : Files). AllDone f us new) (sym first) second
all_done-append old (t ∷ ts) us mid new first second = (first.0, first.1, all_done-append first.0 ts us mid new first.2 second)

failed_paths-append : (ts us : List (Step × Bool)) → failed_paths (ts ++ us) ≡ failed_paths ts ++ failed_paths us
failed_paths-append ts us =
    ap (map (λ (t : Step × Bool). path_of t.0)) (filter-append (λ (t : Step × Bool). not t.1) ts us)
    ∙ map-append (λ (t : Step × Bool). path_of t.0) (filter (λ (t : Step × Bool). not t.1) ts) (filter (λ (t : Step × Bool). not t.1) us)

calls-append : (old mid new : Option (List Call)) (first second : List Step) → CallsFor first old mid → CallsFor second mid new → CallsFor (first ++ second) old new
calls-append old mid new first second a b = λ all is.
    let l = b all is in
    let f = a l.0 l.1 in
    (f.0, f.1, l.2 ∙ ap (λ (c : List Call). c ++ map Try second) f.2 ∙ append_assoc f.0 (map Try first) (map Try second) ∙ ap (λ (c : List Call). f.0 ++ c) (sym (map-append Try first second)))

rose_then : (a b both before mid now : ℕ) → RoseBy a before mid → RoseBy b mid now → both ≡ a + b → RoseBy both before now
rose_then a b both before mid now r s is = omega arith

-- nothing is tried
pub tried_none : (old : Belief) (told : Option Files) (called : Option (List Call)) (before : ℕ) (failed : List (List ℕ)) (new : Belief) → new ≡ old → Tried [] old new told told called called before before failed failed
tried_none old told called before failed new same = record {
  tries = [];
  all = refl;
  belief = same;
  output = λ files is. (files, is, refl);
  calls_are = λ all is. (all, is, sym (append-nil all));
  failed_are = sym (append-nil failed);
  later = omega arith;
  rose = omega arith;
  steady = λ _. refl;
}

-- both parts of a list that is empty are
no_front : (xs ys : List (List ℕ)) → xs ++ ys ≡ [] → xs ≡ []
no_front [] ys none = refl
no_front (x ∷ xs) ys none = absurd (cc (none))

no_back : (xs ys : List (List ℕ)) → xs ++ ys ≡ [] → ys ≡ []
no_back [] ys none = none
no_back (x ∷ xs) ys none = absurd (cc (none))

-- first these steps, then those
pub tried_then : (steps more : List Step) (first old new : Belief) (at_first told tells : Option Files) (called_first called calls : Option (List Call)) (start before now : ℕ) (failed_first failed failed_now : List (List ℕ))
    → Tried steps first old at_first told called_first called start before failed_first failed
    → Tried more old new told tells called calls before now failed failed_now
    → Tried (steps ++ more) first new at_first tells called_first calls start now failed_first failed_now
tried_then steps more first old new at_first told tells called_first called calls start before now failed_first failed failed_now t u =
    let paths : failed_paths (t.tries ++ u.tries) ≡ failed_paths t.tries ++ failed_paths u.tries = failed_paths-append t.tries u.tries in
    record {
      tries = t.tries ++ u.tries;
      all = map-append (λ (x : Step × Bool). x.0) t.tries u.tries ∙ (λ i. t.all i ++ u.all i);
      belief = u.belief ∙ ap (λ (b : Belief). after_tries b u.tries) t.belief ∙ sym (after_tries-append first t.tries u.tries);
      output = λ files is.
          let m = t.output files is in
          let n = u.output m.0 m.1 in
          (n.0, n.1, all_done-append files t.tries u.tries m.0 n.0 m.2 n.2);
      calls_are = calls-append called_first called calls steps more t.calls_are u.calls_are;
      failed_are = u.failed_are ∙ ap (λ (l : List (List ℕ)). l ++ failed_paths u.tries) t.failed_are ∙ append_assoc failed_first (failed_paths t.tries) (failed_paths u.tries) ∙ ap (λ (l : List (List ℕ)). failed_first ++ l) (sym paths);
      later = omega (arith, t.later, u.later);
      rose = rose_then (length (failed_paths t.tries)) (length (failed_paths u.tries)) _ start before now t.rose u.rose (ap length paths ∙ length-append (failed_paths t.tries) (failed_paths u.tries));
      steady = λ none.
          let both = sym paths ∙ none in
          u.steady (no_back (failed_paths t.tries) (failed_paths u.tries) both) ∙ t.steady (no_front (failed_paths t.tries) (failed_paths u.tries) both);
    }

-- what one try does
pub record Adds (step : Step) (ok : Bool) (old new : Belief) (told tells : Option Files) (called calls : Option (List Call)) (before now : ℕ) (failed failed_now : List (List ℕ)) : Type 0 where
  pub belief : new ≡ after_one old step ok
  pub tells_it : Tells told tells step ok
  pub calls_it : Calls called calls (Try step ∷ [])
  pub later : before ≤ now
  pub rose : ok ≡ false → min (before + 1) (2 ^ 64 - 1) ≤ now
  pub steady : ok ≡ true → now ≡ before
  pub failed_is : failed_now ≡ failed ++ cond ok [] (path_of step ∷ [])

rose_one : (step : Step) (ok : Bool) (before now : ℕ) → before ≤ now → (ok ≡ false → min (before + 1) (2 ^ 64 - 1) ≤ now) → RoseBy (length (failed_paths ((step, ok) ∷ []))) before now
rose_one step true before now later rose = omega arith
rose_one step false before now later rose = let up : min (before + 1) (2 ^ 64 - 1) ≤ now = rose refl in omega arith

steady_one : (step : Step) (ok : Bool) (before now : ℕ) → (ok ≡ true → now ≡ before) → failed_paths ((step, ok) ∷ []) ≡ [] → now ≡ before
steady_one step true before now steady none = steady refl
steady_one step false before now steady none = absurd (cc (none))

failed_one : (step : Step) (ok : Bool) → cond ok [] (path_of step ∷ []) ≡ failed_paths ((step, ok) ∷ [])
failed_one step true = refl
failed_one step false = refl

tried_one : (step : Step) (ok : Bool) (old new : Belief) (told tells : Option Files) (called calls : Option (List Call)) (before now : ℕ) (failed failed_now : List (List ℕ))
    → Adds step ok old new told tells called calls before now failed failed_now → Tried (step ∷ []) old new told tells called calls before now failed failed_now
tried_one step ok old new told tells called calls before now failed failed_now a = record {
  tries = (step, ok) ∷ [];
  all = refl;
  belief = a.belief;
  output = λ files is.
      let n = a.tells_it files is in
      (n.0, n.1, (n.0, n.2, refl));
  calls_are = a.calls_it;
  failed_are = a.failed_is ∙ ap (λ (l : List (List ℕ)). failed ++ l) (failed_one step ok);
  later = a.later;
  rose = rose_one step ok before now a.later a.rose;
  steady = steady_one step ok before now a.steady;
}

-- a step that a list of planned steps goes on by
pub tried_next : (done : List Planned) (planned : Planned) (ok : Bool) (first old new : Belief) (at_first told tells : Option Files) (called_first called calls : Option (List Call)) (start before now : ℕ) (failed_first failed failed_now : List (List ℕ))
    → Tried (map (λ p. p.step) done) first old at_first told called_first called start before failed_first failed
    → Adds planned.step ok old new told tells called calls before now failed failed_now
    → Tried (map (λ p. p.step) (done ++ planned ∷ [])) first new at_first tells called_first calls start now failed_first failed_now
tried_next done planned ok first old new at_first told tells called_first called calls start before now failed_first failed failed_now t a =
    subst (λ (l : List Step). Tried l first new at_first tells called_first calls start now failed_first failed_now) (sym (map-append (λ (p : Planned). p.step) done (planned ∷ [])))
    (tried_then (map (λ p. p.step) done) (planned.step ∷ []) first old new at_first told tells called_first called calls start before now failed_first failed failed_now t
    (tried_one planned.step ok old new told tells called calls before now failed failed_now a))

-- no step is left
pub all_tried : (steps done left : List Planned) (first new : Belief) (at_first tells : Option Files) (called_first calls : Option (List Call)) (start now : ℕ) (failed_first failed : List (List ℕ))
    → steps ≡ done ++ left → length left ≡ 0
    → Tried (map (λ p. p.step) done) first new at_first tells called_first calls start now failed_first failed
    → Tried (map (λ p. p.step) steps) first new at_first tells called_first calls start now failed_first failed
all_tried steps done [] first new at_first tells called_first calls start now failed_first failed is none t =
    subst (λ (l : List Planned). Tried (map (λ p. p.step) l) first new at_first tells called_first calls start now failed_first failed) (sym (is ∙ append-nil done)) t
all_tried steps done (p ∷ left) first new at_first tells called_first calls start now failed_first failed is none t = absurd (omega arith)

pub never_none : (done : List Planned) (planned : Planned) → done ++ planned ∷ [] ≡ [] → ⊥
never_none [] planned e = cc (e)
never_none (p ∷ done) planned e = cc (e)
