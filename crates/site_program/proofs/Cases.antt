-- What the replies to `scan` and to `build` tell of the site and of what was done.
use Rattle.std.proofs.Common.{◌≡◌, inl, inr, ℕ, Bool, false, List, [], ◌∷◌, ◌++◌, length, max, refl, sym, ◌∙◌, ap, subst, Option, Some, None, Ok, Err}
use Rattle.std.specs.Option.{option_or}
use Rattle.std.specs.FinMap.{entries, len}
use Rattle.site_base.specs.Places.{Files}
use Rattle.site_base.specs.declared.faults.SiteFault.{SiteFault}
use Rattle.source_tree.specs.Scan.{scan_fault}
use Rattle.out_tree.specs.Belief.{Belief, all_marked}
use Rattle.out_tree.specs.declared.step.Step.{Step}
use Rattle.site_reader.specs.Found.{Found}
use Rattle.site_session.proofs.Full.{fault-now}
use Rattle.site_session.specs.Full.{fault_of}
use Rattle.site_session.specs.declared.output.Output.{Output}
use Rattle.site_session.specs.Standing.{Standing}
use Rattle.site_session.specs.Session.{Given, Event, Nothing, TheScan, TheList, TheSteps, event_of, first_fault, full_now, plan, rendered_now, scan, build, build_tree, build_reply, failed_in, output_failures, source_failures}
use Rattle.site_session.specs.Replies.{LeavesBy, Leaves, has_called_output}
use Rattle.site_session.specs.declared.reply.Reply.{Reply}
use Rattle.site_session.specs.declared.reply.Reply.TheVariants as the_reply
use Rattle.site_session.specs.declared.reply.Reply.TheVariants.{Scanned, ScanFailed, Faulty, Fine, Absent, Built, Marked, Unlisted, BadLine, Silent}
use Rattle.site_session.specs.Bytes.{reply_bytes, written}
use Rattle.site_program.specs.Once.{after_scan, site_fault, LeftBut, Ended, Replies, Took, Untouched, scanned}
use Rattle.site_program.specs.declared.status.Status.{Status}
use Rattle.site_program.specs.declared.status.Status.TheVariants.{Done, Site, Usage, SourceFault, OutFault, InputFault, SinkFault, Script, Memory}
use Rattle.std.proofs.lemmas.List.{append-nil}
use Rattle.site_program.specs.Runs.{reply_status}

pub data ScanCase (given : Given) (old : Standing) (reply : Reply) (new : Standing) : Type 0 where
  Counted : reply ≡ Scanned (len given.source) → scan_fault (entries given.source) ≡ None → new ≡ record old { files = given.source } → ScanCase given old reply new
  Failed : reply ≡ ScanFailed → ScanCase given old reply new
  Limited : (fault : SiteFault) → reply ≡ Faulty fault → scan_fault (entries given.source) ≡ Some fault → ScanCase given old reply new

pub scan_case : (given : Given) (old : Standing) (reply : Reply) (new : Standing) → scan given old (scan_fault (entries given.source)) (event_of reply) ≡ (new, reply) → ScanCase given old reply new
scan_case given old reply new answers = by (scan_fault (entries given.source)) reply refl answers
  where
    by : (fault : Option SiteFault) (reply : Reply) → scan_fault (entries given.source) ≡ fault → scan given old fault (event_of reply) ≡ (new, reply) → ScanCase given old reply new
    by None (Scanned count) is e = Counted (sym (ap (λ (p : Standing × Reply). p.1) e)) is (sym (ap (λ (p : Standing × Reply). p.0) e))
    by (Some fault) (Scanned count) is e = let r : Faulty fault ≡ Scanned count = ap (λ (p : Standing × Reply). p.1) e in absurd (cc (r))
    by fault ScanFailed is e = Failed refl
    by None (Faulty other) is e = let r : Scanned (len given.source) ≡ Faulty other = ap (λ (p : Standing × Reply). p.1) e in absurd (cc (r))
    by (Some fault) (Faulty other) is e = let r : Faulty fault ≡ Faulty other = ap (λ (p : Standing × Reply). p.1) e in let same : fault ≡ other = cc in Limited other refl (is ∙ ap Some same)
    by None Fine is e = let r : Scanned (len given.source) ≡ Fine = ap (λ (p : Standing × Reply). p.1) e in absurd (cc (r))
    by (Some fault) Fine is e = let r : Faulty fault ≡ Fine = ap (λ (p : Standing × Reply). p.1) e in absurd (cc (r))
    by None Absent is e = let r : Scanned (len given.source) ≡ Absent = ap (λ (p : Standing × Reply). p.1) e in absurd (cc (r))
    by (Some fault) Absent is e = let r : Faulty fault ≡ Absent = ap (λ (p : Standing × Reply). p.1) e in absurd (cc (r))
    by None (Built report) is e = let r : Scanned (len given.source) ≡ Built report = ap (λ (p : Standing × Reply). p.1) e in absurd (cc (r))
    by (Some fault) (Built report) is e = let r : Faulty fault ≡ Built report = ap (λ (p : Standing × Reply). p.1) e in absurd (cc (r))
    by None (Marked paths) is e = let r : Silent ≡ Marked paths = ap (λ (p : Standing × Reply). p.1) e in absurd (cc (r))
    by (Some fault) (Marked paths) is e = let r : Silent ≡ Marked paths = ap (λ (p : Standing × Reply). p.1) e in absurd (cc (r))
    by None Unlisted is e = let r : Silent ≡ Unlisted = ap (λ (p : Standing × Reply). p.1) e in absurd (cc (r))
    by (Some fault) Unlisted is e = let r : Silent ≡ Unlisted = ap (λ (p : Standing × Reply). p.1) e in absurd (cc (r))
    by None (BadLine number kind) is e = let r : Scanned (len given.source) ≡ BadLine number kind = ap (λ (p : Standing × Reply). p.1) e in absurd (cc (r))
    by (Some fault) (BadLine number kind) is e = let r : Faulty fault ≡ BadLine number kind = ap (λ (p : Standing × Reply). p.1) e in absurd (cc (r))
    by None Silent is e = let r : Scanned (len given.source) ≡ Silent = ap (λ (p : Standing × Reply). p.1) e in absurd (cc (r))
    by (Some fault) Silent is e = let r : Faulty fault ≡ Silent = ap (λ (p : Standing × Reply). p.1) e in absurd (cc (r))
    by None (the_reply.Links report) is e = let r : Scanned (len given.source) ≡ the_reply.Links report = ap (λ (p : Standing × Reply). p.1) e in absurd (cc (r))
    by (Some fault) (the_reply.Links report) is e = let r : Faulty fault ≡ the_reply.Links report = ap (λ (p : Standing × Reply). p.1) e in absurd (cc (r))

-- where the output has not been listed before
pub data BuildCase (given : Given) (now : Standing) (reply : Reply) : Type 0 where
  Faulted : (fault : SiteFault) → reply ≡ Faulty fault → full_now now ≡ Err fault → BuildCase given now reply
  NotListed : (output : Output) → full_now now ≡ Ok output → reply ≡ Unlisted → BuildCase given now reply
  Tried : (output : Output) (failed : List (List ℕ)) → full_now now ≡ Ok output → reply ≡ build_reply (all_marked given.output) output failed → BuildCase given now reply

pub build_case : (given : Given) (now : Standing) (reply : Reply) (new : Standing) → now.belief ≡ None → build given (rendered_now now) (full_now now) (event_of reply) ≡ (new, reply) → BuildCase given now reply
build_case given now reply new unlisted answers = by (full_now now) refl answers
  where
    steps : Output → List Step
    steps output = plan (all_marked given.output) output.written

    of_event : (output : Output) (event : Event) → full_now now ≡ Ok output → build_tree given (rendered_now now) output None event ≡ (new, reply) → BuildCase given now reply
    of_event output TheList is e = NotListed output is (sym (ap (λ (p : Standing × Reply). p.1) e))
    of_event output Nothing is e = Tried output (failed_in (steps output) []) is (sym (ap (λ (p : Standing × Reply). p.1) e))
    of_event output TheScan is e = Tried output (failed_in (steps output) []) is (sym (ap (λ (p : Standing × Reply). p.1) e))
    of_event output (TheSteps paths) is e = Tried output (failed_in (steps output) paths) is (sym (ap (λ (p : Standing × Reply). p.1) e))

    by : (f : Found Output) → full_now now ≡ f → build given (rendered_now now) f (event_of reply) ≡ (new, reply) → BuildCase given now reply
    by (Err fault) is e = Faulted fault (sym (ap (λ (p : Standing × Reply). p.1) e)) is
    by (Ok output) is e = of_event output (event_of reply) is (ap (λ (b : Option Belief). build_tree given (rendered_now now) output b (event_of reply)) (sym unlisted) ∙ e)

-- where the scan has no fault, the fault is that of what the files stand for
then_full : (now : Standing) {f : Found Output} → scan_fault (entries now.files) ≡ None → full_now now ≡ f → site_fault now ≡ fault_of f
then_full now none is = ap (λ (s : Option SiteFault). option_or s (first_fault now)) none ∙ fault-now now ∙ ap fault_of is

-- what a run ends with after a scan that answered no number
pub one_end : (given : Given) (old new : Standing) (reply : Reply) (told tells : Option Files) → ScanCase given old reply new → ((count : ℕ) → reply ≡ Scanned count → ⊥)
    → (has_called_output reply ≡ false → tells ≡ told) → Ended (after_scan given old) told tells (reply_status reply) × Replies given (after_scan given old) (reply_status reply) (reply ∷ [])
one_end given old new reply told tells (Counted is none new_is) other same = absurd (other _ is)
one_end given old new reply told tells (Failed is) other same =
    subst (λ (r : Reply). Ended (after_scan given old) told tells (reply_status r) × Replies given (after_scan given old) (reply_status r) (r ∷ [])) (sym is)
    (record { comes = tt; left = same (ap has_called_output is) }, refl)
one_end given old new reply told tells (Limited fault is some) other same =
    subst (λ (r : Reply). Ended (after_scan given old) told tells (reply_status r) × Replies given (after_scan given old) (reply_status r) (r ∷ [])) (sym is)
    (record { comes = ap (λ (f : Option SiteFault). option_or f (first_fault (after_scan given old))) some; left = same (ap has_called_output is) }, inl (some, refl))

left_but : (now : Standing) (failed : List (List ℕ)) (told tells : Option Files) (belief : Option Belief) → Leaves now failed told tells belief → LeftBut failed now told tells
left_but now failed told tells belief l = record { written = l.written; stands_for = l.stands_for; made = l.made; shows = l.shows }

-- what a run ends with after the reply to its build
pub two_end : (given : Given) (first : Standing) (reply : Reply) (told tells : Option Files) (belief : Option Belief) → scan_fault (entries given.source) ≡ None
    → BuildCase given (after_scan given first) reply → LeavesBy (after_scan given first) reply told tells belief → (has_called_output reply ≡ false → tells ≡ told)
    → Ended (after_scan given first) told tells (reply_status reply) × Replies given (after_scan given first) (reply_status reply) (scanned given ∷ reply ∷ [])
two_end given first reply told tells belief none (Faulted fault is fails) leaves same =
    subst (λ (r : Reply). Ended (after_scan given first) told tells (reply_status r) × Replies given (after_scan given first) (reply_status r) (scanned given ∷ r ∷ [])) (sym is)
    (record { comes = then_full (after_scan given first) none fails; left = same (ap has_called_output is) }, inr (none, refl))
two_end given first reply told tells belief none (NotListed output gives is) leaves same =
    subst (λ (r : Reply). Ended (after_scan given first) told tells (reply_status r) × Replies given (after_scan given first) (reply_status r) (scanned given ∷ r ∷ [])) (sym is)
    (record { comes = then_full (after_scan given first) none gives; left = inl (refl, subst (λ (r : Reply). LeavesBy (after_scan given first) r told tells belief) is leaves) }, inl (refl, refl))
two_end given first reply told tells belief none (Tried output [] gives is) leaves same =
    subst (λ (r : Reply). Ended (after_scan given first) told tells (reply_status r) × Replies given (after_scan given first) (reply_status r) (scanned given ∷ r ∷ [])) (sym is) (
      record {
        comes = then_full (after_scan given first) none gives;
        left = left_but (after_scan given first) [] told tells belief (subst (λ (r : Reply). LeavesBy (after_scan given first) r told tells belief) is leaves);
      },
      (output, gives, refl),
    )
two_end given first reply told tells belief none (Tried output (path ∷ paths) gives is) leaves same =
    subst (λ (r : Reply). Ended (after_scan given first) told tells (reply_status r) × Replies given (after_scan given first) (reply_status r) (scanned given ∷ r ∷ [])) (sym is) (
      record {
        comes = then_full (after_scan given first) none gives;
        left = inr (path ∷ paths, refl, left_but (after_scan given first) (path ∷ paths) told tells belief (subst (λ (r : Reply). LeavesBy (after_scan given first) r told tells belief) is leaves));
      },
      inr (path ∷ paths, refl, refl),
    )

-- the sink took the bytes of the replies
pub took_from : (given : Given) (now : Standing) (status : Status) (before : List ℕ) (after : Option (List ℕ)) (replies : List Reply) → Replies given now status replies
    → after ≡ Some (before ++ written given.why replies) → Took given now before after status
took_from given now Done before after replies are bytes = record { replies = replies; are = are; bytes = bytes }
took_from given now (Site fault) before after replies are bytes = record { replies = replies; are = are; bytes = bytes }
took_from given now SourceFault before after replies are bytes = record { replies = replies; are = are; bytes = bytes }
took_from given now (OutFault count) before after replies are bytes = record { replies = replies; are = are; bytes = bytes }
took_from given now (Usage kind) before after replies are bytes = absurd are
took_from given now SinkFault before after replies are bytes = tt
took_from given now Memory before after replies are bytes = tt
took_from given now InputFault before after replies are bytes = absurd are
took_from given now (Script number kind) before after replies are bytes = absurd are

pub one_written : (why : Bool) (before : List ℕ) (after : Option (List ℕ)) (reply : Reply) → after ≡ Some (before ++ reply_bytes why reply) → after ≡ Some (before ++ written why (reply ∷ []))
one_written why before after reply bytes = bytes ∙ ap (λ (b : List ℕ). Some (before ++ b)) (sym (append-nil (reply_bytes why reply)))

-- by the status that a reply gives
pub untouched_quiet : (reply : Reply) → Untouched (reply_status reply) → has_called_output reply ≡ false
untouched_quiet (Scanned count) u = refl
untouched_quiet ScanFailed u = refl
untouched_quiet (Faulty fault) u = refl
untouched_quiet Fine u = refl
untouched_quiet Absent u = refl
untouched_quiet (Built report) u = absurd u
untouched_quiet (Marked paths) u = absurd u
untouched_quiet Unlisted u = absurd u
untouched_quiet (BadLine number kind) u = refl
untouched_quiet Silent u = refl
untouched_quiet (the_reply.Links report) u = refl

pub out_rose : (reply : Reply) (count : ℕ) → reply_status reply ≡ OutFault count → output_failures reply ≡ max count 1
out_rose (Scanned n) count e = absurd (cc (e))
out_rose ScanFailed count e = absurd (cc (e))
out_rose (Faulty fault) count e = absurd (cc (e))
out_rose Fine count e = absurd (cc (e))
out_rose Absent count e = absurd (cc (e))
out_rose (Built report) count e = absurd (cc (e))
out_rose (Marked paths) count e = let same : length paths ≡ count = cc in ap (λ (n : ℕ). max n 1) same
out_rose Unlisted count e = let same : 0 ≡ count = cc in ap (λ (n : ℕ). max n 1) same
out_rose (BadLine number kind) count e = absurd (cc (e))
out_rose Silent count e = absurd (cc (e))
out_rose (the_reply.Links report) count e = absurd (cc (e))

pub source_rose : (reply : Reply) → reply_status reply ≡ SourceFault → source_failures reply ≡ 1
source_rose (Scanned n) e = absurd (cc (e))
source_rose ScanFailed e = refl
source_rose (Faulty fault) e = absurd (cc (e))
source_rose Fine e = absurd (cc (e))
source_rose Absent e = absurd (cc (e))
source_rose (Built report) e = absurd (cc (e))
source_rose (Marked paths) e = absurd (cc (e))
source_rose Unlisted e = absurd (cc (e))
source_rose (BadLine number kind) e = absurd (cc (e))
source_rose Silent e = absurd (cc (e))
source_rose (the_reply.Links report) e = absurd (cc (e))

-- what is told of a run that ended at the reply to its scan
pub record Tells (given : Given) (now : Standing) (told tells : Option Files) (status : Status) (whole : List ℕ) : Type 0 where
  pub ended : Ended now told tells status
  pub took : (before : List ℕ) (after : Option (List ℕ)) → after ≡ Some (before ++ whole) → Took given now before after status

pub one_tells : (given : Given) (old new : Standing) (reply : Reply) (told tells : Option Files) (status : Status) → status ≡ reply_status reply
    → scan given old (scan_fault (entries given.source)) (event_of reply) ≡ (new, reply) → ((count : ℕ) → reply ≡ Scanned count → ⊥)
    → (has_called_output reply ≡ false → tells ≡ told) → Tells given (after_scan given old) told tells status (reply_bytes given.why reply)
one_tells given old new reply told tells status is answers other same =
    let end = one_end given old new reply told tells (scan_case given old reply new answers) other same in
    subst (λ (s : Status). Tells given (after_scan given old) told tells s (reply_bytes given.why reply)) (sym is)
    (record { ended = end.0; took = λ before after bytes. took_from given (after_scan given old) (reply_status reply) before after (reply ∷ []) end.1 (one_written given.why before after reply bytes) })

-- and of one that ended at the reply to its build
pub two_tells : (given : Given) (old mid last : Standing) (first reply : Reply) (count : ℕ) (told told_then tells : Option Files) (status : Status) → status ≡ reply_status reply
    → first ≡ Scanned count → old.belief ≡ None → scan given old (scan_fault (entries given.source)) (event_of first) ≡ (mid, first)
    → build given (rendered_now mid) (full_now mid) (event_of reply) ≡ (last, reply) → told_then ≡ told
    → LeavesBy mid reply told_then tells last.belief → (has_called_output reply ≡ false → tells ≡ told_then)
    → Tells given (after_scan given old) told tells status (reply_bytes given.why first ++ reply_bytes given.why reply)
two_tells given old mid last first reply count told told_then tells status is number unlisted scans builds same leaves quiet =
    subst (λ (s : Status). Tells given (after_scan given old) told tells s (reply_bytes given.why first ++ reply_bytes given.why reply)) (sym is)
    (subst (λ (t : Option Files). Tells given (after_scan given old) t tells (reply_status reply) (reply_bytes given.why first ++ reply_bytes given.why reply)) same (by (scan_case given old first mid scans)))
  where
    by : ScanCase given old first mid → Tells given (after_scan given old) told_then tells (reply_status reply) (reply_bytes given.why first ++ reply_bytes given.why reply)
    by (Failed is_failed) = let e : ScanFailed ≡ Scanned count = cc in absurd (cc (e))
    by (Limited fault is_faulty some) = let e : Faulty fault ≡ Scanned count = cc in absurd (cc (e))
    by (Counted is_counted none new_is) =
        let none_yet : mid.belief ≡ None = ap (λ (s : Standing). s.belief) new_is ∙ unlisted in
        let built = subst (λ (s : Standing). BuildCase given s reply) new_is (build_case given mid reply last none_yet builds) in
        let end = two_end given old reply told_then tells last.belief none built (subst (λ (s : Standing). LeavesBy s reply told_then tells last.belief) new_is leaves) quiet in
        record {
          ended = end.0;
          took = λ before after bytes.
              took_from given (after_scan given old) (reply_status reply) before after (scanned given ∷ reply ∷ []) end.1
              (bytes ∙ ap (λ (r : Reply). Some (before ++ (reply_bytes given.why r ++ reply_bytes given.why reply))) is_counted
              ∙ ap (λ (b : List ℕ). Some (before ++ (reply_bytes given.why (scanned given) ++ b))) (sym (append-nil (reply_bytes given.why reply))));
        }
