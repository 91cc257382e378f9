-- What `make` says of its two builds.
use Rattle.std.proofs.Common.{◌≡◌, ◌⊎◌, inl, inr, ℕ, List, [], ◌++◌, take, append_assoc, refl, sym, ◌∙◌, ap, subst, Option, Some, None, Result, Ok, Err, Vec, Global}
use Rattle.std.specs.FinMap.{empty, from_entries, get-empty, get-from_entries, same_map}
use Rattle.std.specs.Prelude.{false}
use Rattle.std.specs.Option.{option_map, option_or}
use Rattle.std.proofs.lemmas.List.{append-nil}
use Rattle.out_tree.proofs.Paths.{path_order, same_if_tied}
use Rattle.out_tree.proofs.ValuesLemmas.{get-map_values}
use Rattle.out_tree.specs.Memory.{plain_files}
use Rattle.out_tree.specs.declared.step.Call.{Call}
use Rattle.site_session.specs.Rounds.{Adds}
use Rattle.site_base.specs.Places.{Files, path_cmp}
use Rattle.site_base.specs.declared.errors.Memory.{Memory}
use Rattle.site_base.specs.declared.faults.SiteFault.{SiteFault}
use Rattle.site_base.specs.declared.item_name.ItemName.{ItemName}
use Rattle.site_script.specs.declared.line.Line.TheVariants as line
use Rattle.site_session.specs.Bytes.{reply_bytes}
use Rattle.site_session.specs.Full.{fault_of}
use Rattle.site_session.specs.Rebuilds.{Rebuilds}
use Rattle.site_session.specs.Replies.{built_reply}
use Rattle.site_session.specs.Session.{Event, Nothing, TheList, TheSteps, event_of, first_fault, step}
use Rattle.site_session.specs.Standing.{Standing, Holds}
use Rattle.site_session.specs.declared.build.Rebuilt.{Rebuilt}
use Rattle.site_session.specs.declared.build.Rebuilt.TheVariants as rebuilt
use Rattle.site_session.specs.declared.reply.Reply.{Reply}
use Rattle.site_session.specs.declared.reply.Reply.TheVariants.{Built, Faulty, Marked, Unlisted}
use Rattle.site_words.specs.declared.faults.UsageKind.{UsageKind}
use Rattle.site_program.specs.Checks.{EndsAs, Said, SaidBoth, verdict_status}
use Rattle.site_program.specs.Makes.{build_bytes, built, in_memory, unless_fault}
use Rattle.site_program.specs.Runs.{reply_status}
use Rattle.site_program.specs.declared.status.Status.{Status}
use Rattle.site_program.specs.declared.status.Status.TheVariants as status
use Rattle.site_program.proofs.Checking.{both_said, stop_said}

-- ---- statuses

pub done_none : (f : Option SiteFault) → EndsAs (verdict_status f) status.Done → f ≡ None
done_none None ends = refl
done_none (Some fault) (inl e) = absurd (cc (e))
done_none (Some fault) (inr (inl e)) = absurd (cc (e))
done_none (Some fault) (inr (inr e)) = absurd (cc (e))

-- a first build that ended the run
pub first_ends : (f g : Option SiteFault) (s : Status) → (s ≡ status.Done → ⊥) → EndsAs (verdict_status f) s → EndsAs (verdict_status (option_or f g)) s
first_ends None g s other (inl e) = absurd (other e)
first_ends (Some fault) g s other (inl e) = inl e
first_ends None g s other (inr e) = inr e
first_ends (Some fault) g s other (inr e) = inr e

-- and one that did not
pub then_ends : (f g : Option SiteFault) (s : Status) → f ≡ None → EndsAs (verdict_status g) s → EndsAs (verdict_status (option_or f g)) s
then_ends f g s none ends = subst (λ x. EndsAs (verdict_status (option_or x g)) s) (sym none) ends

-- no end but the sink is blamed, and no words
pub never_usage : (f : Option SiteFault) (s : Status) (kind : UsageKind) → EndsAs (verdict_status f) s → s ≡ status.Usage kind → ⊥
never_usage None s kind (inl e) is = cc (e, is)
never_usage (Some fault) s kind (inl e) is = cc (e, is)
never_usage f s kind (inr (inl e)) is = cc (e, is)
never_usage f s kind (inr (inr e)) is = cc (e, is)

pub never_source : (f : Option SiteFault) (s : Status) → EndsAs (verdict_status f) s → s ≡ status.SourceFault → ⊥
never_source None s (inl e) is = cc (e, is)
never_source (Some fault) s (inl e) is = cc (e, is)
never_source f s (inr (inl e)) is = cc (e, is)
never_source f s (inr (inr e)) is = cc (e, is)

pub never_input : (f : Option SiteFault) (s : Status) → EndsAs (verdict_status f) s → s ≡ status.InputFault → ⊥
never_input None s (inl e) is = cc (e, is)
never_input (Some fault) s (inl e) is = cc (e, is)
never_input f s (inr (inl e)) is = cc (e, is)
never_input f s (inr (inr e)) is = cc (e, is)

pub never_out : (f : Option SiteFault) (s : Status) (count : ℕ) → EndsAs (verdict_status f) s → s ≡ status.OutFault count → ⊥
never_out None s count (inl e) is = cc (e, is)
never_out (Some fault) s count (inl e) is = cc (e, is)
never_out f s count (inr (inl e)) is = cc (e, is)
never_out f s count (inr (inr e)) is = cc (e, is)

-- ---- what the sink took

pub done_took : (whole : List ℕ) (wanted : Status) (before : List ℕ) (after : Option (List ℕ)) → Said whole wanted before after status.Done → after ≡ Some (before ++ whole)
done_took whole wanted before after (inl done) = done.1
done_took whole wanted before after (inr (inl cut)) = absurd (let e = cut.0 in cc (e))
done_took whole wanted before after (inr (inr lack)) = absurd (let e = lack.0 in cc (e))

-- a first build that ended the run: nothing follows its reply
pub first_only : (first second : List ℕ) (f g : Option SiteFault) (before : List ℕ) (after : Option (List ℕ)) (s : Status) → (s ≡ status.Done → ⊥) → Said first (verdict_status f) before after s
    → SaidBoth first (unless_fault f second) (verdict_status (option_or f g)) before after s
first_only first second None g before after s other (inl done) = absurd (other done.0)
first_only first second (Some fault) g before after s other (inl done) = inl (done.0, done.1 ∙ ap (λ (b : List ℕ). Some (before ++ b)) (sym (append-nil first)))
first_only first second f g before after s other (inr (inl cut)) =
    inr (inl (cut.0, (cut.1.0, (cut.1.1.0 ++ unless_fault f second, ap (λ b. b ++ unless_fault f second) cut.1.1.1 ∙ append_assoc cut.1.0 cut.1.1.0 (unless_fault f second)), cut.1.2)))
first_only first second f g before after s other (inr (inr lack)) = inr (inr (lack.0, inl lack.1))

-- and one that did not: the second reply follows
pub then_second : (first second : List ℕ) (f g : Option SiteFault) (before : List ℕ) (after : Option (List ℕ)) (s : Status) → f ≡ None → Said second (verdict_status g) (before ++ first) after s
    → SaidBoth first (unless_fault f second) (verdict_status (option_or f g)) before after s
then_second first second f g before after s none said =
    subst (λ x. SaidBoth first (unless_fault x second) (verdict_status (option_or x g)) before after s) (sym none) (both_said first second (verdict_status g) before after s said)

-- ---- one build

-- what is replied to a build at which nothing failed, and what the run ends with if it ends there
pub record Told (old new : Standing) (reply : Reply) : Type 0 where
  pub built_is : built old ≡ (new, reply)
  pub ends : reply_status reply ≡ verdict_status (first_fault old)

module _ {D : Type 0} (adds : Adds) (contents : D → Option Files) (calls : D → Option (List Call)) (failures : D → ℕ) (old new : Standing) (before after : D) (tally tally' : List ItemName) where
  pub told : (result : Result Rebuilt Memory) (reply : Reply) → Rebuilds adds contents calls failures old new result before after tally tally' → Holds (contents before) old.belief empty
      → built_reply result ≡ Some reply → event_of reply ≡ Nothing → Told old new reply
  told (Ok (rebuilt.Built report)) reply r h is quiet =
      let same : Built report ≡ reply = cc in
      let full_is = (r.leaves empty [] h refl).stands_for in
      record { built_is = subst (λ (e : Event). step in_memory old 1 line.Build e ≡ (new, reply)) quiet (r.answers in_memory 1 reply h is); ends = ap reply_status (sym same) ∙ ap (λ f. verdict_status (fault_of f)) (sym full_is) }
  told (Ok (rebuilt.Fault fault)) reply r h is quiet =
      let same : Faulty fault ≡ reply = cc in
      let full_is = (r.fault fault refl).0 in
      record { built_is = subst (λ (e : Event). step in_memory old 1 line.Build e ≡ (new, reply)) quiet (r.answers in_memory 1 reply h is); ends = ap reply_status (sym same) ∙ ap (λ f. verdict_status (fault_of f)) (sym full_is) }
  told (Ok (rebuilt.Marked paths)) reply r h is quiet =
      let same : Marked paths ≡ reply = cc in
      let wrong : TheSteps paths ≡ Nothing = ap event_of same ∙ quiet in
      absurd (cc (wrong))
  told (Ok rebuilt.Unlisted) reply r h is quiet =
      let same : Unlisted ≡ reply = cc in
      let wrong : TheList ≡ Nothing = ap event_of same ∙ quiet in
      absurd (cc (wrong))
  told (Err error) reply r h is quiet = absurd (cc (is))

-- the reply was written whole
pub told_said : (old new : Standing) (reply : Reply) (before : List ℕ) (after : Option (List ℕ)) (s : Status) → Told old new reply → s ≡ reply_status reply → after ≡ Some (before ++ reply_bytes false reply)
    → Said (build_bytes old) (verdict_status (first_fault old)) before after s
told_said old new reply before after s t is bytes = inl (is ∙ t.ends, bytes ∙ ap (λ (p : Standing × Reply). Some (before ++ reply_bytes false p.1)) (sym t.built_is))

-- or in part
pub stopped_said : (old new : Standing) (reply : Reply) (before : List ℕ) (after : Option (List ℕ)) (s : Status) (k : ℕ) → Told old new reply → after ≡ Some (before ++ take k (reply_bytes false reply))
    → (s ≡ status.SinkFault) ⊎ (s ≡ status.Memory) → (s ≡ status.Memory → k ≡ 0) → Said (build_bytes old) (verdict_status (first_fault old)) before after s
stopped_said old new reply before after s k t bytes cases memory =
    stop_said (build_bytes old) (verdict_status (first_fault old)) before after s k (bytes ∙ ap (λ (p : Standing × Reply). Some (before ++ take k (reply_bytes false p.1))) (sym t.built_is)) cases memory

-- an output in memory that was given no files
pub none_there : (es : List (List ℕ × Vec ℕ Global)) → es ≡ [] → plain_files (from_entries es) ≡ empty
none_there es none =
    ap (λ (xs : List (List ℕ × Vec ℕ Global)). plain_files (from_entries xs)) none
    ∙ same_map path_order same_if_tied _ _ (λ q. get-map_values (λ (bytes : Vec ℕ Global). bytes.items) (from_entries []) q ∙ ap (option_map (λ (bytes : Vec ℕ Global). bytes.items)) (get-from_entries path_order [] q) ∙ sym (get-empty path_cmp q))
