-- What a build makes of a session.
use Rattle.std.proofs.Common.{◌≡◌, inl, inr, ℕ, true, false, List, [], ◌∷◌, ◌++◌, append_assoc, map, length, refl, sym, ◌∙◌, ap, subst, Option, Some, None, Result, Ok, Err, OnOk, OnErr, arith}
use Rattle.std.proofs.lemmas.List.{append-nil}
use Rattle.std.specs.Option.{IsSome}
use Rattle.site_base.specs.Places.{Files, is_listed}
use Rattle.out_tree.specs.Belief.{Belief, after, believed, all_marked, IsTrueOf, HoldsOf}
use Rattle.out_tree.specs.Exact.{MadeBut, MarksThose}
use Rattle.out_tree.specs.Keep.{is_kept}
use Rattle.out_tree.specs.declared.state.State.TheVariants as state
use Rattle.std.specs.FinMap.{get}
use Rattle.out_tree.specs.Device.{Calls}
use Rattle.out_tree.specs.Tries.{CallsFor, DoneBut, InOrder, StaysTrue}
use Rattle.out_tree.specs.declared.step.Call.{Call}
use Rattle.out_tree.specs.declared.step.Call.TheVariants as call
use Rattle.site_base.specs.declared.faults.SiteFault.{SiteFault}
use Rattle.out_tree.specs.declared.step.Step.{Step}
use Rattle.site_session.specs.Standing.{Standing, TrueTo, Holds, MakesBut, MarksExactly}
use Rattle.site_session.specs.Session.{Given, Reply, Event, Built, Marked, Unlisted, Nothing, TheScan, TheList, TheSteps, event_of, failed_in, failed_of, build_listed, build_reply, build_tree, plan, report}
use Rattle.site_session.specs.Settled.{NothingPlanned}
use Rattle.site_session.specs.Replies.{built_reply, build_calls, Called, ListsAtMost}
use Rattle.site_session.specs.declared.output.Output.{Output}
use Rattle.site_session.specs.declared.output.Written.{Written}
use Rattle.site_session.specs.declared.build.Report.{Report}
use Rattle.site_session.specs.declared.build.Rebuilt.{Rebuilt}
use Rattle.site_session.specs.declared.build.Rebuilt.TheVariants as rebuilt
use Rattle.site_base.specs.declared.errors.Memory.{Memory}

-- a belief about an output that has been listed
pub holds_listed : (told : Option Files) (belief : Option Belief) (there first : Files) → IsSome belief → told ≡ Some there → IsTrueOf (believed belief) there → Holds told belief first
holds_listed told None there first some is truth = absurd (cc (some))
holds_listed told (Some belief) there first some is truth = record { there = there; told_is = is; is_true = truth }

-- the standing after a build that took place
listed_now : (given : Given) (now : Standing) (output : Output) (e : Event) → (e ≡ TheList → ⊥) → build_tree given now output None e ≡ build_listed now output (all_marked given.output) (failed_of e)
listed_now given now output Nothing other = refl
listed_now given now output TheScan other = refl
listed_now given now output TheList other = absurd (other refl)
listed_now given now output (TheSteps paths) other = refl

-- what a first list makes of a belief: all is marked, or it stays where the output had been listed
pub record Listed (was now : Option Belief) (told : Option Files) : Type 0 where
  pub again : IsSome was → now ≡ was
  pub marks : was ≡ None → (files : Files) → told ≡ Some files → now ≡ Some (all_marked files)

pub make_answers : (given : Given) (now : Standing) (output : Output) (reply : Reply) (was mid new : Option Belief) (base : List ℕ) (told : Option Files)
    → Listed was mid told → Holds told was given.output
    → (event_of reply ≡ TheList → ⊥)
    → build_listed now output (believed mid) (failed_of (event_of reply)) ≡ (record now { belief = new; base = base }, reply)
    → build_tree given now output was (event_of reply) ≡ (record now { belief = new; base = base }, reply)
make_answers given now output reply (Some belief) mid new base told l h other is =
    ap (λ (b : Option Belief). build_listed now output (believed b) (failed_of (event_of reply))) (sym (l.again refl)) ∙ is
make_answers given now output reply None mid new base told l h other is =
    let marked : mid ≡ Some (all_marked given.output) = l.marks refl given.output (h.told_is ∙ ap Some h.is_true) in
    listed_now given now output (event_of reply) other ∙ ap (λ (b : Option Belief). build_listed now output (believed b) (failed_of (event_of reply))) (sym marked) ∙ is

pub nothing : {A : Type 0} (xs : List A) → length xs ≡ 0 → xs ≡ []
nothing [] e = refl
nothing (x ∷ xs) e = absurd (omega arith)

-- the reply of a build that did all that it planned
pub all_done : (now : Standing) (output : Output) (belief : Belief) (new : Option Belief) (failed : List (List ℕ)) (made : Report) (reply : Reply)
    → failed ≡ [] → InOrder (plan belief output.written) failed → new ≡ Some (after belief (plan belief output.written) failed)
    → made ≡ report belief output → Some (Built made) ≡ Some reply
    → build_listed now output belief (failed_of (event_of reply)) ≡ (record now { belief = new; base = output.written.base }, reply)
all_done now output belief new failed made reply none order new_is made_is is =
    let steps = plan belief output.written in
    let reply_is : Built made ≡ reply = cc in
    let order : [] ≡ failed_in steps [] = subst (λ (f : List (List ℕ)). f ≡ failed_in steps f) none order in
    let belief_is : Some (after belief steps []) ≡ new = ap (λ (f : List (List ℕ)). Some (after belief steps f)) (sym none) ∙ sym new_is in
    let told : build_reply belief output (failed_in steps []) ≡ Built made = ap (build_reply belief output) (sym order) ∙ ap Built (sym made_is) in
    subst (λ (r : Reply). build_listed now output belief (failed_of (event_of r)) ≡ (record now { belief = new; base = output.written.base }, r)) reply_is
    (λ i. (record now { belief = belief_is i; base = output.written.base }, told i))

-- the reply of a build of which something failed
pub some_failed : (now : Standing) (output : Output) (belief : Belief) (new : Option Belief) (failed : List (List ℕ)) (reply : Reply)
    → (failed ≡ [] → ⊥) → InOrder (plan belief output.written) failed → new ≡ Some (after belief (plan belief output.written) failed)
    → Some (Marked failed) ≡ Some reply
    → build_listed now output belief (failed_of (event_of reply)) ≡ (record now { belief = new; base = output.written.base }, reply)
some_failed now output belief new [] reply some order new_is is = absurd (some refl)
some_failed now output belief new (path ∷ paths) reply some order new_is is =
    let reply_is : Marked (path ∷ paths) ≡ reply = cc in
    let told = ap (build_reply belief output) (sym order) in
    subst (λ (r : Reply). build_listed now output belief (failed_of (event_of r)) ≡ (record now { belief = new; base = output.written.base }, r)) reply_is
    (λ i. (record now { belief = sym new_is i; base = output.written.base }, told i))

-- after all steps were tried the belief holds
pub holds_after : (was now : Option Belief) (told tells : Option Files) (steps : List Step) (failed : List (List ℕ)) (old first : Files)
    → IsSome now → DoneBut failed steps told tells → StaysTrue (believed was) (believed now) told tells → told ≡ Some old → IsTrueOf (believed was) old → Holds tells now first
holds_after was now told tells steps failed old first some done stays told_is truth =
    let after = done.tells_still old told_is in
    holds_listed tells now after.0 first some after.1 (stays.stays old after.0 told_is after.1 truth)

-- the output is exactly the tree but for what failed, and that is marked
pub makes_but : (was now : Option Belief) (told tells : Option Files) (written : Written) (steps : List Step) (failed other : List (List ℕ)) (old : Files)
    → DoneBut failed steps told tells → MadeBut failed (believed was) written.tree written.keep told tells → MarksThose failed written.keep (believed was) (believed now) → other ≡ failed
    → told ≡ Some old → IsTrueOf (believed was) old → MakesBut other written told tells × MarksExactly other written.keep now
makes_but was now told tells written steps failed other old done made marks same told_is truth =
    let after = done.tells_still old told_is in
    subst (λ (f : List (List ℕ)). MakesBut f written told tells × MarksExactly f written.keep now) (sym same) (
      record { old = old; new = after.0; told_is = told_is; tells_is = after.1; exactly = made.is_exactly old after.0 told_is after.1 truth },
      λ path apart. (marked_listed path apart, λ there. marks.failed_marked path there),
    )
  where
    marked_listed : (path : List ℕ) → is_kept written.keep path ≡ false → get (believed now) path ≡ Some state.Marked → is_listed path failed ≡ true
    marked_listed path apart at =
        elim (is_listed path failed) as (λ b. is_listed path failed ≡ b → b ≡ true) [
          | true ↦ λ e. refl
          | false ↦ λ e. let both = marks.marked_failed path e at in absurd (cc (apart, both.0))
        ] refl

-- the belief after the first list is true of what was there
pub mid_true : (was mid : Option Belief) (told : Option Files) (first : Files) → IsSome mid
    → ((files : Files) → told ≡ Some files → HoldsOf was files → HoldsOf mid files) → Holds told was first → (there : Files) × (told ≡ Some there) × IsTrueOf (believed mid) there
mid_true was mid told first some keeps h = (h.there, h.told_is, of_some mid some (keeps h.there h.told_is (of_holds was h.is_true)))
  where
    of_holds : (belief : Option Belief) → TrueTo belief first h.there → HoldsOf belief h.there
    of_holds None truth = tt
    of_holds (Some belief) truth = truth

    of_some : (belief : Option Belief) → IsSome belief → HoldsOf belief h.there → IsTrueOf (believed belief) h.there
    of_some None none truth = absurd (cc (none))
    of_some (Some belief) some truth = truth

-- what holds of a listed output holds whatever it had at first
pub holds_again : (told : Option Files) (belief : Option Belief) (first other : Files) → IsSome belief → Holds told belief other → Holds told belief first
holds_again told None first other some h = absurd (cc (some))
holds_again told (Some belief) first other some h = record { there = h.there; told_is = h.told_is; is_true = h.is_true }

pub same_told : (failed : List (List ℕ)) (written : Written) (told was tells : Option Files) → told ≡ was → MakesBut failed written told tells → MakesBut failed written was tells
same_told failed written told was tells same made =
    record { old = made.old; new = made.new; told_is = sym same ∙ made.told_is; tells_is = made.tells_is; exactly = made.exactly }

-- what is believed after a first list
pub settled_by : (now : Option Belief) (written : Written) → IsSome now → plan (believed now) written ≡ [] → NothingPlanned written now
settled_by None written some nothing = absurd (cc (some))
settled_by (Some belief) written some nothing = record { belief = belief; is = refl; nothing = nothing }

-- ---- how the output was called

pub on_err : {T E P Q : Type 0} (r : Result T E) → (P → Q) → OnErr r P → OnErr r Q
on_err (Ok value) f p = p
on_err (Err error) f p = f p

pub no_calls : (calls : Option (List Call)) → Calls calls calls []
no_calls calls = λ all is. (all, is, sym (append-nil all))

calls_then : (old mid new : Option (List Call)) (first second : List Call) → Calls old mid first → Calls mid new second → Calls old new (first ++ second)
calls_then old mid new first second a b = λ all is.
    let l = b all is in
    let f = a l.0 l.1 in
    (f.0, f.1, l.2 ∙ ap (λ (c : List Call). c ++ second) f.2 ∙ append_assoc f.0 first second)

-- an output that had been listed is not listed again
pub record ListedBy (was : Option Belief) (old new : Option (List Call)) : Type 0 where
  pub again : IsSome was → new ≡ old
  pub once : was ≡ None → Calls old new (call.List ∷ [])

-- the steps follow the list
build_called : (was mid : Option Belief) (told : Option Files) (first : Files) (written : Written) (old between new : Option (List Call)) → Listed was mid told → Holds told was first → ListedBy was old between
    → CallsFor (plan (believed mid) written) between new → Calls old new (build_calls was first written)
build_called (Some belief) mid told first written old between new l h by steps =
    let same : believed mid ≡ belief = ap believed (l.again refl) in
    subst (λ (c : Option (List Call)). Calls c new (map call.Try (plan belief written))) (by.again refl)
    (subst (λ (b : Belief). CallsFor (plan b written) between new) same steps)
build_called None mid told first written old between new l h by steps =
    let same : believed mid ≡ all_marked first = ap believed (l.marks refl first (h.told_is ∙ ap Some h.is_true)) in
    calls_then old between new (call.List ∷ []) (map call.Try (plan (all_marked first) written)) (by.once refl)
    (subst (λ (b : Belief). CallsFor (plan b written) between new) same steps)

-- no step was tried
lists_at_most : (was : Option Belief) (old new : Option (List Call)) → ListedBy was old new → ListsAtMost was old new
lists_at_most (Some belief) old new by = inl (subst (λ (c : Option (List Call)). Calls c new []) (by.again refl) (no_calls new))
lists_at_most None old new by = inr (refl, by.once refl)

pub called : (was mid : Option Belief) (told : Option Files) (first : Files) (written : Written) (old between new : Option (List Call)) (result : Result Rebuilt Memory) → Listed was mid told → Holds told was first → ListedBy was old between
    → ((fault : SiteFault) → result ≡ Ok (rebuilt.Fault fault) → ⊥) → ((reply : Reply) → built_reply result ≡ Some reply → event_of reply ≡ TheList → ⊥)
    → OnOk result (CallsFor (plan (believed mid) written) between new) → OnErr result (new ≡ between) → Called was first written result old new
called was mid told first written old between new (Ok (rebuilt.Built report)) l h by fault unlisted steps same = build_called was mid told first written old between new l h by steps
called was mid told first written old between new (Ok (rebuilt.Marked paths)) l h by fault unlisted steps same = build_called was mid told first written old between new l h by steps
called was mid told first written old between new (Ok (rebuilt.Fault f)) l h by fault unlisted steps same = absurd (fault f refl)
called was mid told first written old between new (Ok rebuilt.Unlisted) l h by fault unlisted steps same = absurd (unlisted Unlisted refl refl)
called was mid told first written old between new (Err error) l h by fault unlisted steps same =
    subst (λ (c : Option (List Call)). ListsAtMost was old c) (sym same) (lists_at_most was old between by)
