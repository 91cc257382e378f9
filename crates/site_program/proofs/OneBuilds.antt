-- How one build from nothing ends, by the place at which it ends.
use Rattle.std.proofs.Common.{◌≡◌, ◌∙◌, ◌⊎◌, inl, inr, ℕ, ◌+◌, ◌-◌, ◌^◌, ◌≤◌, min, Bool, false, List, [], ◌++◌, take, refl, sym, ap, subst, Option, Some, None, Result, Ok, Err, append_assoc, arith}
use Rattle.std.proofs.lemmas.List.{append-nil}
use Rattle.std.specs.FinMap.{empty, entries}
use Rattle.out_tree.specs.declared.step.Call.{Call}
use Rattle.site_base.specs.Ends.{Rose}
use Rattle.site_base.specs.Places.{Files}
use Rattle.site_base.specs.declared.errors.Memory.{Memory}
use Rattle.site_base.specs.declared.faults.SiteFault.{SiteFault}
use Rattle.site_base.specs.declared.item_name.ItemName.{ItemName}
use Rattle.source_tree.specs.Scan.{scan_fault}
use Rattle.site_script.specs.declared.line.Line.TheVariants as line
use Rattle.site_script.specs.declared.line.ScriptKind.{ScriptKind}
use Rattle.site_session.specs.Bytes.{reply_bytes}
use Rattle.site_session.specs.Makes.{IsShort}
use Rattle.site_session.specs.Rebuilds.{Rebuilds}
use Rattle.site_session.specs.Replies.{LineLeaves, LineSpares, built_reply}
use Rattle.site_session.specs.Rounds.{in_any_order}
use Rattle.site_session.specs.Session.{Given, Answers, Event, Nothing, TheScan, TheList, TheSteps, event_of, scan, source_failures}
use Rattle.site_session.specs.Standing.{Standing, Holds}
use Rattle.site_session.specs.Scenes.{OutputSeen, Scene, SourceSeen, output_seen}
use Rattle.site_session.specs.declared.build.Rebuilt.{Rebuilt}
use Rattle.site_session.specs.declared.reply.Reply.{Reply}
use Rattle.site_session.specs.declared.reply.Reply.TheVariants as the_reply
use Rattle.site_session.specs.declared.reply.Reply.TheVariants.{Scanned, ScanFailed, Faulty, Fine, Absent, Built, Marked, Unlisted, BadLine, Silent}
use Rattle.site_session.proofs.Lines.{build_line, build_spares, scan_line, scan_spares}
use Rattle.site_session.proofs.Rebuilding.{answer-quiet, output_left, output_spared}
use Rattle.site_words.specs.declared.faults.UsageKind.{UsageKind}
use Rattle.site_program.specs.Once.{after_scan, Ended, Took, Untouched}
use Rattle.site_program.specs.OneBuild.{BuildStops, BuildTold, HalfBuild, HalfScan, NoScan, OneBuild, ScanStops, ScanTold}
use Rattle.site_program.specs.Runs.{Stopped, reply_status}
use Rattle.site_program.specs.Stages.{Blames, SinkSeen, Stage}
use Rattle.site_program.specs.declared.status.Status.{Status}
use Rattle.site_program.specs.declared.status.Status.TheVariants as status
use Rattle.site_program.proofs.Completes.{completes}
use Rattle.site_program.proofs.Cases.{Tells, one_tells, two_tells, untouched_quiet, out_rose, source_rose}
use Rattle.site_program.proofs.Onces.{holds_first, whole_one, whole_two, cut_one, cut_two}

-- ---- statuses

-- the sink failed, or memory was wanting
abbrev pub IsEarly : Status → Type 0
IsEarly s = (s ≡ status.SinkFault) ⊎ (s ≡ status.Memory)

early_ended : (now : Standing) (told tells : Option Files) (s : Status) → IsEarly s → Ended now told tells s
early_ended now told tells s (inl is) = subst (λ (s : Status). Ended now told tells s) (sym is) (record { comes = tt; left = tt })
early_ended now told tells s (inr is) = subst (λ (s : Status). Ended now told tells s) (sym is) (record { comes = tt; left = tt })

early_took : (given : Given) (now : Standing) (before : List ℕ) (after : Option (List ℕ)) (s : Status) → IsEarly s → Took given now before after s
early_took given now before after s (inl is) = subst (λ (s : Status). Took given now before after s) (sym is) tt
early_took given now before after s (inr is) = subst (λ (s : Status). Took given now before after s) (sym is) tt

early_touches : (s : Status) → IsEarly s → Untouched s → ⊥
early_touches s (inl is) u = subst (λ (s : Status). Untouched s) is u
early_touches s (inr is) u = subst (λ (s : Status). Untouched s) is u

early_usage : (s : Status) (kind : UsageKind) → IsEarly s → s ≡ status.Usage kind → ⊥
early_usage s kind (inl is) e = cc
early_usage s kind (inr is) e = cc

early_script : (s : Status) (number : ℕ) (kind : ScriptKind) → IsEarly s → s ≡ status.Script number kind → ⊥
early_script s number kind (inl is) e = cc
early_script s number kind (inr is) e = cc

early_input : (s : Status) → IsEarly s → s ≡ status.InputFault → ⊥
early_input s (inl is) e = cc
early_input s (inr is) e = cc

early_source : (s : Status) → IsEarly s → s ≡ status.SourceFault → ⊥
early_source s (inl is) e = cc
early_source s (inr is) e = cc

early_out : (s : Status) (count : ℕ) → IsEarly s → s ≡ status.OutFault count → ⊥
early_out s count (inl is) e = cc
early_out s count (inr is) e = cc

-- what no reply is told by
data Plain (s : Status) : Type 0 where
  Is : ((kind : UsageKind) → s ≡ status.Usage kind → ⊥) → (s ≡ status.InputFault → ⊥) → (s ≡ status.SinkFault → ⊥) → ((number : ℕ) (kind : ScriptKind) → s ≡ status.Script number kind → ⊥) → Plain s

plain : (reply : Reply) → Plain (reply_status reply)
plain (Scanned count) = Is (λ kind e. cc) (λ e. cc) (λ e. cc) (λ number kind e. cc)
plain ScanFailed = Is (λ kind e. cc) (λ e. cc) (λ e. cc) (λ number kind e. cc)
plain (Faulty fault) = Is (λ kind e. cc) (λ e. cc) (λ e. cc) (λ number kind e. cc)
plain Fine = Is (λ kind e. cc) (λ e. cc) (λ e. cc) (λ number kind e. cc)
plain Absent = Is (λ kind e. cc) (λ e. cc) (λ e. cc) (λ number kind e. cc)
plain (Built report) = Is (λ kind e. cc) (λ e. cc) (λ e. cc) (λ number kind e. cc)
plain (Marked paths) = Is (λ kind e. cc) (λ e. cc) (λ e. cc) (λ number kind e. cc)
plain Unlisted = Is (λ kind e. cc) (λ e. cc) (λ e. cc) (λ number kind e. cc)
plain (BadLine number kind) = Is (λ kind e. cc) (λ e. cc) (λ e. cc) (λ number kind e. cc)
plain Silent = Is (λ kind e. cc) (λ e. cc) (λ e. cc) (λ number kind e. cc)
plain (the_reply.Links report) = Is (λ kind e. cc) (λ e. cc) (λ e. cc) (λ number kind e. cc)

plain_usage : (s : Status) → Plain s → (kind : UsageKind) → s ≡ status.Usage kind → ⊥
plain_usage s (Is usage input sink script) = usage

plain_input : (s : Status) → Plain s → s ≡ status.InputFault → ⊥
plain_input s (Is usage input sink script) = input

plain_sink : (s : Status) → Plain s → s ≡ status.SinkFault → ⊥
plain_sink s (Is usage input sink script) = sink

plain_script : (s : Status) → Plain s → (number : ℕ) (kind : ScriptKind) → s ≡ status.Script number kind → ⊥
plain_script s (Is usage input sink script) = script

-- ---- the four ends

opened_holds : (first opened : Standing) (told : Option Files) (given : Given) → opened ≡ first → first.belief ≡ None → told ≡ Some given.output → Holds told opened.belief given.output
opened_holds first opened told given is_first unlisted out = holds_first opened told given.output (ap (λ (s : Standing). s.belief) is_first ∙ unlisted) out

module _ {S D : Type 0} (first opened : Standing) (is_first : opened ≡ first) (unlisted : first.belief ≡ None) (why : Bool) (was : Stage S D) where
  -- after a scan, which leaves the output and the tally alone
  abbrev pub scanned_to : SourceSeen S → SinkSeen → Stage S D
  scanned_to source sink = record { scene = record { source = source; output = was.scene.output; tally = was.scene.tally }; sink = sink }

  -- at the scan, cut short
  pub ends_early : (short : Type 0) (source : SourceSeen S) (sink : SinkSeen) (s : Status) → ScanStops short why opened was.scene.source source was.sink.taken sink.taken
      → IsEarly s → (short → s ≡ status.Memory) → (s ≡ status.Memory → short) → (s ≡ status.SinkFault → Rose was.sink.failures sink.failures)
      → OneBuild first why was (scanned_to source sink) s
  ends_early short source sink s stops early to_memory of_memory rose = record {
    told = λ given src out. early_ended (after_scan given first) was.scene.output.files was.scene.output.files s early;
    took = λ given before w src out t. early_took given (after_scan given first) before sink.taken s early;
    run = λ given before w src out t.
        let st = stops given before w src t in
        cut_one given first opened before st.0 was (scanned_to source sink) s is_first (half given st.0 out st.2) st.1.bytes (record { cases = early; memory = λ e. st.1.memory (of_memory e) });
    no_usage = λ kind e. early_usage s kind early e;
    no_input = λ e. early_input s early e;
    no_script = λ number kind e. early_script s number kind early e;
    untouched = λ u. refl;
    blames = told;
    completes = completes was (scanned_to source sink) s told (λ kind e. early_usage s kind early e) (λ e. early_input s early e);
  }
    where
      told : Blames was (scanned_to source sink) s
      told = record { source = λ e. absurd (early_source s early e); output = λ count e. absurd (early_out s count early e); sink = rose }

      half : (given : Given) (part : List ℕ) → was.scene.output.files ≡ Some given.output → (NoScan short was.scene.source source part ⊎ HalfScan given opened was.scene.source source part)
          → Stopped (s ≡ status.Memory) given opened 1 line.Scan was.scene (scanned_to source sink).scene part
      half given part out (inl none) = inl (record {
        memory = to_memory none.memory;
        spares = scan_spares opened line.Scan was.scene.source source was.scene.output was.scene.tally refl none.files none.failures;
        output = opened_holds first opened was.scene.output.files given is_first unlisted out;
        nothing = none.nothing;
      })
      half given part out (inr h) = inr (record {
        reply = h.reply;
        new = h.new;
        answers = h.answers;
        output = subst (λ b. Holds was.scene.output.files b given.output) (sym h.belief) (opened_holds first opened was.scene.output.files given is_first unlisted out);
        leaves = scan_line opened line.Scan h.reply h.new.belief was.scene.source source was.scene.output was.scene.tally refl h.belief h.quiet h.left;
        taken = h.taken;
        part_is = h.part_is;
      })

  -- at the reply to the scan, which answered no number
  pub ends_unscanned : (source : SourceSeen S) (sink : SinkSeen) (s : Status) (new : Standing) (reply : Reply) → ScanTold why opened new was.scene.source source was.sink.taken sink.taken reply
      → ((count : ℕ) → reply ≡ Scanned count → ⊥) → s ≡ reply_status reply → OneBuild first why was (scanned_to source sink) s
  ends_unscanned source sink s new reply t other is = record {
    told = λ given src out. subst (λ (o : Standing). Ended (after_scan given o) was.scene.output.files was.scene.output.files s) is_first (tells given src).ended;
    took = λ given before w src out at.
        subst (λ (o : Standing). Took given (after_scan given o) before sink.taken s) is_first ((tells given src).took before sink.taken (bytes_by given before w at));
    run = λ given before w src out at.
        whole_one given first new before was (scanned_to source sink) s reply other (subst (λ (o : Standing). Answers given o 1 line.Scan reply new) is_first (t.answers given src))
        (scan_line first line.Scan reply new.belief was.scene.source source was.scene.output was.scene.tally refl (t.belief ∙ ap (λ (s : Standing). s.belief) is_first) t.quiet t.left) (bytes_by given before w at)
        (subst (λ b. Holds was.scene.output.files b given.output) (sym t.belief) (opened_holds first opened was.scene.output.files given is_first unlisted out)) is;
    no_usage = λ kind e. plain_usage (reply_status reply) (plain reply) kind (sym is ∙ e);
    no_input = λ e. plain_input (reply_status reply) (plain reply) (sym is ∙ e);
    no_script = λ number kind e. plain_script (reply_status reply) (plain reply) number kind (sym is ∙ e);
    untouched = λ u. refl;
    blames = told;
    completes = completes was (scanned_to source sink) s told (λ kind e. plain_usage (reply_status reply) (plain reply) kind (sym is ∙ e)) (λ e. plain_input (reply_status reply) (plain reply) (sym is ∙ e));
  }
    where
      told : Blames was (scanned_to source sink) s
      told = record {
        source = λ e. (let one = source_rose reply (sym is ∙ e) in omega (arith, one, t.left.failed.cause));
        output = λ count e. (let most = out_rose reply count (sym is ∙ e) in let none = t.quiet.failures in absurd (omega (arith, most, none)));
        sink = λ e. absurd (plain_sink (reply_status reply) (plain reply) (sym is ∙ e));
      }

      tells : (given : Given) → was.scene.source.files ≡ Some given.source → Tells given (after_scan given opened) was.scene.output.files was.scene.output.files s (reply_bytes given.why reply)
      tells given src = one_tells given opened new reply was.scene.output.files was.scene.output.files s is (t.answers given src) other (λ _. refl)

      bytes_by : (given : Given) (before : List ℕ) → given.why ≡ why → was.sink.taken ≡ Some before → sink.taken ≡ Some (before ++ reply_bytes given.why reply)
      bytes_by given before w at = t.bytes before at ∙ ap (λ b. Some (before ++ reply_bytes b reply)) (sym w)

-- a scan keeps what is kept
scan-keeps : (given : Given) (now : Standing) (fault : Option SiteFault) (event : Event) → (scan given now fault event).0.kept ≡ now.kept
scan-keeps given now None Nothing = refl
scan-keeps given now None TheScan = refl
scan-keeps given now None TheList = refl
scan-keeps given now None (TheSteps paths) = refl
scan-keeps given now (Some fault) Nothing = refl
scan-keeps given now (Some fault) TheScan = refl
scan-keeps given now (Some fault) TheList = refl
scan-keeps given now (Some fault) (TheSteps paths) = refl

-- so a session that kept no renders stands as one that keeps none
pub told_bare : {S : Type 0} (why : Bool) (old new : Standing) (source source' : SourceSeen S) (taken taken' : Option (List ℕ)) (reply : Reply) → old.kept ≡ empty → ScanTold why old new source source' taken taken' reply
    → ScanTold why old (record new { kept = empty }) source source' taken taken' reply
told_bare why old new source source' taken taken' reply none t = record {
  answers = λ given src.
      let told = t.answers given src in
      let kept_is : new.kept ≡ empty = ap (λ (p : Standing × Reply). p.0.kept) (sym told) ∙ scan-keeps given old (scan_fault (entries given.source)) (event_of reply) ∙ none in
      told ∙ (λ i. (record new { kept = kept_is i }, reply));
  bytes = t.bytes;
  quiet = t.quiet;
  belief = t.belief;
  left = t.left;
}

-- once a build follows
module _ {S D : Type 0} (first opened : Standing) (is_first : opened ≡ first) (unlisted : first.belief ≡ None) (why : Bool) (contents : D → Option Files) (calls : D → Option (List Call)) (failures : D → ℕ)
    (source source' : SourceSeen S) (out now : D) (tally tally' : List ItemName) (sink : SinkSeen) (mid last : Standing) (scanned : Reply) (count : ℕ) (is_scanned : scanned ≡ Scanned count) (between : Option (List ℕ))
    (t : ScanTold why opened mid source source' sink.taken between scanned) (rebuilt : Result Rebuilt Memory) (r : Rebuilds in_any_order contents calls failures mid last rebuilt out now tally tally') where
  abbrev begun : Stage S D
  begun = record { scene = record { source = source; output = output_seen contents calls failures out; tally = tally }; sink = sink }

  abbrev there : Scene S D
  there = record { source = source'; output = output_seen contents calls failures out; tally = tally }

  abbrev built_to : SinkSeen → Stage S D
  built_to sink' = record { scene = record { source = source'; output = output_seen contents calls failures now; tally = tally' }; sink = sink' }

  mid_holds : (given : Given) → contents out ≡ Some given.output → Holds (contents out) mid.belief given.output
  mid_holds given is = subst (λ b. Holds (contents out) b given.output) (sym t.belief) (opened_holds first opened (contents out) given is_first unlisted is)

  scan_answers : (given : Given) → source.files ≡ Some given.source → Answers given first 1 line.Scan scanned mid
  scan_answers given src = subst (λ (o : Standing). Answers given o 1 line.Scan scanned mid) is_first (t.answers given src)

  scan_leaves : LineLeaves first line.Scan scanned mid.belief begun.scene there
  scan_leaves = scan_line first line.Scan scanned mid.belief source source' (output_seen contents calls failures out) tally refl (t.belief ∙ ap (λ (s : Standing). s.belief) is_first) t.quiet t.left

  built_leaves : (rebuilt : Result Rebuilt Memory) → Rebuilds in_any_order contents calls failures mid last rebuilt out now tally tally' → (reply : Reply) → built_reply rebuilt ≡ Some reply
      → (sink' : SinkSeen) → LineLeaves mid line.Build reply last.belief there (built_to sink').scene
  built_leaves (Ok made) r reply is sink' =
      build_line mid line.Build reply last.belief source' (output_seen contents calls failures out) (output_seen contents calls failures now) tally tally' refl (answer-quiet made reply is)
      (output_left contents calls failures mid last out now tally tally' made reply r is) r.tallied
  built_leaves (Err e) r reply is sink' = absurd (cc (is))

  built_spares : (rebuilt : Result Rebuilt Memory) → Rebuilds in_any_order contents calls failures mid last rebuilt out now tally tally' → IsShort rebuilt → (sink' : SinkSeen) → LineSpares mid line.Build there (built_to sink').scene
  built_spares (Ok made) r short sink' = absurd short
  built_spares (Err e) r short sink' =
      build_spares mid line.Build source' (output_seen contents calls failures out) (output_seen contents calls failures now) tally tally' refl (output_spared contents calls failures mid last out now tally tally' e r) r.tallied

  built_quiet : (rebuilt : Result Rebuilt Memory) (reply : Reply) → built_reply rebuilt ≡ Some reply → source_failures reply ≡ 0
  built_quiet (Ok made) reply is = answer-quiet made reply is
  built_quiet (Err e) reply is = absurd (cc (is))

  -- at its reply
  pub ends_built : (sink' : SinkSeen) (s : Status) (reply : Reply) → BuildTold why rebuilt between sink'.taken reply → s ≡ reply_status reply → OneBuild first why begun (built_to sink') s
  ends_built sink' s reply b is = record {
    told = λ given src out_is. subst (λ (o : Standing). Ended (after_scan given o) (contents out) (contents now) s) is_first (tells given src out_is).ended;
    took = λ given before w src out_is at.
        subst (λ (o : Standing). Took given (after_scan given o) before sink'.taken s) is_first
        ((tells given src out_is).took before sink'.taken (bytes_by given before w at ∙ ap Some (append_assoc before (reply_bytes given.why scanned) (reply_bytes given.why reply))));
    run = λ given before w src out_is at.
        whole_two given first mid last before begun (built_to sink') there s scanned reply count is_scanned (scan_answers given src) scan_leaves (r.answers given 2 reply (mid_holds given out_is) b.is)
        leaves (bytes_by given before w at) (r.belief given.output (mid_holds given out_is)) is;
    no_usage = λ kind e. plain_usage (reply_status reply) (plain reply) kind (sym is ∙ e);
    no_input = λ e. plain_input (reply_status reply) (plain reply) (sym is ∙ e);
    no_script = λ number kind e. plain_script (reply_status reply) (plain reply) number kind (sym is ∙ e);
    untouched = λ u. leaves.output.untouched (untouched_quiet reply (subst (λ (x : Status). Untouched x) is u));
    blames = told;
    completes = completes begun (built_to sink') s told (λ kind e. plain_usage (reply_status reply) (plain reply) kind (sym is ∙ e)) (λ e. plain_input (reply_status reply) (plain reply) (sym is ∙ e));
  }
    where
      leaves : LineLeaves mid line.Build reply last.belief there (built_to sink').scene
      leaves = built_leaves rebuilt r reply b.is sink'

      told : Blames begun (built_to sink') s
      told = record {
        source = λ e. (let one = source_rose reply (sym is ∙ e) in let none = built_quiet rebuilt reply b.is in absurd (omega (arith, one, none)));
        output = λ count e. subst (λ (n : ℕ). min (failures out + n) (2 ^ 64 - 1) ≤ failures now) (out_rose reply count (sym is ∙ e)) (r.cause reply b.is);
        sink = λ e. absurd (plain_sink (reply_status reply) (plain reply) (sym is ∙ e));
      }

      tells : (given : Given) → source.files ≡ Some given.source → contents out ≡ Some given.output
          → Tells given (after_scan given opened) (contents out) (contents now) s (reply_bytes given.why scanned ++ reply_bytes given.why reply)
      tells given src out_is =
          two_tells given opened mid last scanned reply count (contents out) (contents out) (contents now) s is is_scanned (ap (λ (o : Standing). o.belief) is_first ∙ unlisted)
          (t.answers given src) (r.answers given 2 reply (mid_holds given out_is) b.is) refl
          (leaves.output.built given.output (mid_holds given out_is)) (λ quiet. ap (λ (o : OutputSeen D). o.files) (leaves.output.untouched quiet))

      bytes_by : (given : Given) (before : List ℕ) → given.why ≡ why → sink.taken ≡ Some before → sink'.taken ≡ Some ((before ++ reply_bytes given.why scanned) ++ reply_bytes given.why reply)
      bytes_by given before w at =
          b.bytes (before ++ reply_bytes why scanned) (t.bytes before at) ∙ ap (λ y. Some ((before ++ reply_bytes y scanned) ++ reply_bytes y reply)) (sym w)

  -- at the build, cut short
  pub ends_cut : (short : Type 0) (sink' : SinkSeen) (s : Status) → BuildStops short why rebuilt between sink'.taken → IsEarly s → (short → s ≡ status.Memory) → (s ≡ status.Memory → short)
      → (s ≡ status.SinkFault → Rose sink.failures sink'.failures) → OneBuild first why begun (built_to sink') s
  ends_cut short sink' s stops early to_memory of_memory rose = record {
    told = λ given src out_is. early_ended (after_scan given first) (contents out) (contents now) s early;
    took = λ given before w src out_is at. early_took given (after_scan given first) before sink'.taken s early;
    run = λ given before w src out_is at.
        let st = stops (before ++ reply_bytes why scanned) (t.bytes before at) in
        cut_two given first mid before st.0 begun (built_to sink') there s scanned count is_scanned (scan_answers given src) scan_leaves (half given st.0 w out_is st.2)
        (st.1.bytes ∙ ap (λ y. Some ((before ++ reply_bytes y scanned) ++ st.0)) (sym w)) (record { cases = early; memory = λ e. st.1.memory (of_memory e) });
    no_usage = λ kind e. early_usage s kind early e;
    no_input = λ e. early_input s early e;
    no_script = λ number kind e. early_script s number kind early e;
    untouched = λ u. absurd (early_touches s early u);
    blames = told;
    completes = completes begun (built_to sink') s told (λ kind e. early_usage s kind early e) (λ e. early_input s early e);
  }
    where
      told : Blames begun (built_to sink') s
      told = record { source = λ e. absurd (early_source s early e); output = λ count e. absurd (early_out s count early e); sink = rose }

      half : (given : Given) (part : List ℕ) → given.why ≡ why → contents out ≡ Some given.output → ((IsShort rebuilt × short × (part ≡ [])) ⊎ HalfBuild why rebuilt part)
          → Stopped (s ≡ status.Memory) given mid 2 line.Build there (built_to sink').scene part
      half given part w out_is (inl none) =
          let spares = built_spares rebuilt r none.0 sink' in
          inl (record {
            memory = to_memory none.1;
            spares = spares;
            output = subst (λ c. Holds c mid.belief given.output) (sym spares.output.files) (mid_holds given out_is);
            nothing = none.2;
          })
      half given part w out_is (inr h) = inr (record {
        reply = h.reply;
        new = last;
        answers = r.answers given 2 h.reply (mid_holds given out_is) h.is;
        output = r.belief given.output (mid_holds given out_is);
        leaves = built_leaves rebuilt r h.reply h.is sink';
        taken = h.taken;
        part_is = h.part_is ∙ ap (λ y. take h.taken (reply_bytes y h.reply)) (sym w);
      })

-- ---- what is told of a whole run

-- the run ended for want of memory before it had read what it is to do
pub ends_unread : {S D : Type 0} (first : Standing) (why : Bool) (at : Stage S D) (s : Status) → first.belief ≡ None → s ≡ status.Memory → OneBuild first why at at s
ends_unread first why at s unlisted is =
    ends_early first first refl unlisted why at (s ≡ status.Memory) at.scene.source at.sink s
    (λ given before w src t. ([], record { bytes = t ∙ ap Some (sym (append-nil before)); memory = λ _. refl }, inl (record { memory = is; nothing = refl; files = refl; failures = refl }))) (inr is) (λ e. e) (λ e. e)
    (λ e. let none : status.Memory ≡ status.SinkFault = sym is ∙ e in absurd (cc (none)))

-- the same run, of equal standing and reasons
pub same_run : {S D : Type 0} (first start : Standing) (why said : Bool) (was other now : Stage S D) (s : Status) → first ≡ start → why ≡ said → was ≡ other → OneBuild first why was now s → OneBuild start said other now s
same_run {S} {D} first start why said was other now s first_is why_is was_is run =
    subst (λ (x : Standing × (Bool × Stage S D)). OneBuild x.0 x.1.0 x.1.1 now s) (λ i. (first_is i, (why_is i, was_is i))) run
