-- What a rebuild does, from what it found and what came of its output.
use Rattle.std.proofs.Common.{◌≡◌, ◌∙◌, ◌+◌, ◌-◌, ◌^◌, ◌≤◌, ◌++◌, ℕ, min, inl, true, false, List, [], ◌∷◌, Option, Some, Result, Ok, Err, OnErr, OnOk, refl, sym, ap, subst, arith}
use Rattle.std.specs.FinMap.{empty}
use Rattle.out_tree.specs.Belief.{Belief}
use Rattle.out_tree.specs.Device.{Calls}
use Rattle.out_tree.specs.declared.step.Call.{Call}
use Rattle.out_tree.specs.declared.step.Call.TheVariants as call
use Rattle.site_base.specs.Places.{Files}
use Rattle.site_base.specs.declared.errors.Memory.{Memory}
use Rattle.site_base.specs.declared.faults.SiteFault.{SiteFault}
use Rattle.site_base.specs.declared.item_name.ItemName.{ItemName}
use Rattle.site_reader.specs.Found.{Found}
use Rattle.site_reader.specs.Sites.{site}
use Rattle.site_reader.specs.declared.site_error.SiteError.{SiteError}
use Rattle.site_reader.specs.declared.site_error.SiteError.TheVariants as error
use Rattle.site_session.specs.Full.{full, names_rendered}
use Rattle.site_session.specs.Makes.{Finishes, Makes}
use Rattle.site_session.specs.Outputs.{IsOutput}
use Rattle.site_session.specs.Rebuilds.{Rebuilds}
use Rattle.site_session.specs.Scenes.{Rises, output_seen}
use Rattle.site_session.specs.Tallied.{Tallied}
use Rattle.render_workers.specs.Tallies.{Grows, HasBetween}
use Rattle.site_script.specs.declared.line.Line.TheVariants as line
use Rattle.site_session.specs.Replies.{ListsAtMost, OutputLeft, OutputSpared, based_by, built_reply, Called}
use Rattle.site_session.specs.Rounds.{Adds, in_any_order, in_order}
use Rattle.site_session.specs.Session.{Given, TheList, Reply, Built, Faulty, Marked, Unlisted, Nothing, build, event_of, full_now, names_now, names_past_now, output_failures, plan, rendered_now, site_now, source_failures}
use Rattle.site_session.specs.Standing.{Standing, Holds}
use Rattle.site_session.specs.declared.build.Rebuilt.{Rebuilt}
use Rattle.site_session.specs.declared.build.Report.{Report}
use Rattle.site_session.specs.declared.build.Rebuilt.TheVariants as rebuilt
use Rattle.site_session.specs.declared.output.Output.{Output}
use Rattle.site_session.specs.declared.output.Written.{Written}
use Rattle.site_session.proofs.Builds.{no_calls}
use Rattle.site_session.proofs.Lines.{rises_none}
use Rattle.site_session.proofs.FeedFiles.{shown}
use Rattle.site_session.proofs.Full.{AddsLaws, fault-of-output, none-behind, written-of}

-- only what is kept and what is believed may differ
abbrev pub Stays : Standing → Standing → Type 0
Stays old new = (new.files ≡ old.files) × (new.moment ≡ old.moment) × (new.settings ≡ old.settings)

tallied-by : (adds : Adds) → AddsLaws adds → (now : Standing) (result : Result Rebuilt Memory) (before after : List ItemName) → adds (names_now now) (names_past_now now) before after → Tallied adds now result before after
tallied-by adds laws now (Ok made) before after t = t
tallied-by adds laws now (Err e) before after t = laws.grows (names_now now) (names_past_now now) before after t

new-is : (old new : Standing) → Stays old new → new.scanned ≡ old.scanned → new.kept ≡ (rendered_now old).kept → record (rendered_now old) { belief = new.belief; base = new.base } ≡ new
new-is old new stays looked kept_is = λ i. record { files = sym stays.0 i; moment = sym stays.1 i; settings = sym stays.2 i; kept = sym kept_is i; belief = new.belief; base = new.base; scanned = sym looked i }

-- for want of memory the base is as before
base-kept : (result : Result Rebuilt Memory) (base old made : List ℕ) → base ≡ based_by result old made → OnErr result (base ≡ old)
base-kept (Ok made) base old new is = tt
base-kept (Err e) base old new is = is

alone-ok : (result : Result Rebuilt Memory) (before after : List ItemName) → after ≡ before → OnOk result (after ≡ before)
alone-ok (Ok made) before after is = is
alone-ok (Err e) before after is = tt

module _ {D : Type 0} (adds : Adds) (laws : AddsLaws adds) (contents : D → Option Files) (calls : D → Option (List Call)) (failures : D → ℕ) (old new : Standing) (before : D) (tally tally' : List ItemName) (stays : Stays old new) (looked : new.scanned ≡ old.scanned) where
  -- the output was made what the held files stand for
  found : (output : Output) (result : Result Rebuilt Memory) (after : D) → IsOutput adds old.files old.kept (site_now old) (Ok output) new.kept tally tally' → Makes contents calls failures output result old.belief new.belief old.base new.base before after
      → Rebuilds adds contents calls failures old new result before after tally tally'
  found output result after o m =
      let full_is : full_now old ≡ Ok output = o.0 in
      let written_is : full old.files old.moment old.settings ≡ Ok output.written = written-of old.files old.kept (site_now old) output o.0 in
      record {
        answers = λ given number reply h is.
            ap (λ f. build given (rendered_now old) f (event_of reply)) full_is ∙ m.answers given (rendered_now old) reply refl refl h is ∙ (λ i. (new-is old new stays looked o.1.kept_is i, reply));
        belief = m.belief;
        leaves = λ first failed h is.
            let made = m.made first failed h is in
            record {
              written = output.written;
              stands_for = written_is;
              made = made.0;
              shows = shown old.files old.moment old.settings failed output.written (contents before) (contents after) written_is made.0;
              marked = made.1;
            };
        unlisted = m.unlisted;
        fault = λ f is. absurd (m.no_fault f is);
        quiet = λ f is. let wrong : Ok output.written ≡ Err f = sym written_is ∙ is in absurd (cc (wrong));
        called = λ first written h is.
            let same : output.written ≡ written = cc (written_is, is) in
            subst (λ (w : Written). Called old.belief first w result (calls before) (calls after)) same (m.called first h);
        tallied = tallied-by adds laws old result tally tally' o.1.tally;
        based = λ written is.
            let same : output.written ≡ written = cc (written_is, is) in
            m.based ∙ ap (λ (w : Written). based_by result old.base w.base) same;
        looked = looked;
        unbased = base-kept result new.base old.base output.written.base m.based;
        later = m.later;
        cause = m.cause;
        steady = m.steady;
        idle = λ settled.
            let same : settled.written ≡ output.written = cc (settled.stands_for, written_is) in
            let nothing = subst (λ (w : Written). plan settled.output.belief w ≡ []) same settled.output.nothing in
            (m.idle settled.output.belief settled.output.is nothing, alone-ok result tally tally' (laws.nothing tally tally' (subst (λ (due : List ItemName). adds due [] tally tally') settled.fresh (subst (λ (later : List ItemName). adds (names_now old) later tally tally') (none-behind old.files old.kept (site_now old) output full_is) o.1.tally))));
        settled = λ report is. record {
          written = output.written;
          stands_for = (λ i. full (stays.0 i) (stays.1 i) (stays.2 i)) ∙ written_is;
          fresh = (λ i. names_rendered (stays.0 i) new.kept (site (stays.0 i) (stays.1 i) (stays.2 i))) ∙ o.2;
          output = m.settled report is;
        };
        same = stays;
        err = m.err;
        short = m.short;
      }

  -- the held files have a fault
  faulty : (fault : SiteFault) → IsOutput adds old.files old.kept (site_now old) (Err (error.Fault fault)) new.kept tally tally' → new.belief ≡ old.belief → new.base ≡ old.base
      → Rebuilds adds contents calls failures old new (Ok (rebuilt.Fault fault)) before before tally tally'
  faulty fault o belief_is base_is =
      let full_is : full_now old ≡ Err fault = o.0 in
      let fault_is : full old.files old.moment old.settings ≡ Err fault = fault-of-output old.files old.kept (site_now old) fault o.0 in
      let now_is : rendered_now old ≡ new = (λ i. record (rendered_now old) { belief = sym belief_is i; base = sym base_is i }) ∙ new-is old new stays looked o.1.kept_is in
      record {
        answers = λ given number reply h is.
            let reply_is : Faulty fault ≡ reply = cc in
            subst (λ (r : Reply). build given (rendered_now old) (full_now old) (event_of r) ≡ (new, r)) reply_is
            (ap (λ f. build given (rendered_now old) f Nothing) full_is ∙ (λ i. (now_is i, Faulty fault)));
        belief = λ first h. subst (λ (b : Option Belief). Holds (contents before) b first) (sym belief_is) h;
        leaves = λ first failed h is. absurd is;
        unlisted = λ is. refl;
        fault = λ f is.
            let same : fault ≡ f = cc in
            (fault_is ∙ ap Err same, sym now_is, refl);
        quiet = λ f is. refl;
        called = λ first written h is. let wrong : Err fault ≡ Ok written = sym fault_is ∙ is in absurd (cc (wrong));
        based = λ written is. base_is;
        looked = looked;
        unbased = tt;
        tallied = o.1.tally;
        later = omega arith;
        cause = λ reply is.
            let reply_is : Faulty fault ≡ reply = cc in
            subst (λ (r : Reply). min (failures before + output_failures r) (2 ^ 64 - 1) ≤ failures before) reply_is (omega arith);
        steady = λ report is. refl;
        idle = λ settled. let wrong : Err fault ≡ Ok settled.written = sym fault_is ∙ settled.stands_for in absurd (cc (wrong));
        settled = λ report is. absurd (cc (is));
        same = stays;
        err = tt;
        short = tt;
      }

  -- memory was wanting before the output was touched
  short : (e : Memory) → Grows tally tally' → new.belief ≡ old.belief → new.base ≡ old.base → Rebuilds adds contents calls failures old new (Err e) before before tally tally'
  short e grows belief_is base_is = record {
    answers = λ given number reply h is. absurd (cc (is));
    belief = λ first h. subst (λ (b : Option Belief). Holds (contents before) b first) (sym belief_is) h;
    leaves = λ first failed h is. absurd is;
    unlisted = λ is. refl;
    fault = λ f is. absurd (cc (is));
    quiet = λ f is. refl;
    called = λ first written h is. inl (no_calls (calls before));
    based = λ written is. base_is;
    looked = looked;
    unbased = base_is;
    tallied = grows;
    later = omega arith;
    cause = λ reply is. absurd (cc (is));
    steady = λ report is. absurd (cc (is));
    idle = λ settled. (refl, tt);
    settled = λ report is. absurd (cc (is));
    same = stays;
    err = refl;
    short = refl;
  }

pub rebuilds : {D : Type 0} (adds : Adds) → AddsLaws adds → (contents : D → Option Files) (calls : D → Option (List Call)) (failures : D → ℕ) (old new : Standing) (output : Result Output SiteError) (result : Result Rebuilt Memory) (before after : D) (tally tally' : List ItemName)
    → IsOutput adds old.files old.kept (site_now old) output new.kept tally tally' → Finishes contents calls failures output result old.belief new.belief old.base new.base before after → Stays old new → new.scanned ≡ old.scanned
    → Rebuilds adds contents calls failures old new result before after tally tally'
rebuilds adds laws contents calls failures old new (Ok output) result before after tally tally' o f stays looked = found adds laws contents calls failures old new before tally tally' stays looked output result after o f
rebuilds {D} adds laws contents calls failures old new (Err (error.Fault fault)) result before after tally tally' o f stays looked =
    subst (λ (r : Result Rebuilt Memory). Rebuilds adds contents calls failures old new r before after tally tally') (sym f.0)
    (subst (λ (d : D). Rebuilds adds contents calls failures old new (Ok (rebuilt.Fault fault)) before d tally tally') (sym f.2) (faulty adds laws contents calls failures old new before tally tally' stays looked fault o f.1.0 f.1.1))
rebuilds {D} adds laws contents calls failures old new (Err error.Memory) (Err e) before after tally tally' o f stays looked =
    subst (λ (d : D). Rebuilds adds contents calls failures old new (Err e) before d tally tally') (sym f.2) (short adds laws contents calls failures old new before tally tally' stays looked e o f.1.0 f.1.1)
rebuilds adds laws contents calls failures old new (Err error.Memory) (Ok made) before after tally tally' o f stays looked = absurd f.0

-- ---- what a build leaves, by its reply

-- no source failed
pub answer-quiet : (made : Rebuilt) (reply : Reply) → built_reply (Ok made) ≡ Some reply → source_failures reply ≡ 0
answer-quiet (rebuilt.Built report) reply is = let e : Built report ≡ reply = cc in subst (λ (r : Reply). source_failures r ≡ 0) e refl
answer-quiet (rebuilt.Fault fault) reply is = let e : Faulty fault ≡ reply = cc in subst (λ (r : Reply). source_failures r ≡ 0) e refl
answer-quiet (rebuilt.Marked paths) reply is = let e : Marked paths ≡ reply = cc in subst (λ (r : Reply). source_failures r ≡ 0) e refl
answer-quiet rebuilt.Unlisted reply is = let e : Unlisted ≡ reply = cc in subst (λ (r : Reply). source_failures r ≡ 0) e refl

module _ {D : Type 0} (contents : D → Option Files) (calls : D → Option (List Call)) (failures : D → ℕ) (old new : Standing) (before after : D) (tally tally' : List ItemName) where
  abbrev Rebuilt-as : Result Rebuilt Memory → Type 0
  Rebuilt-as result = Rebuilds in_any_order contents calls failures old new result before after tally tally'

  abbrev Left : Reply → Type 0
  Left reply = OutputLeft old reply new.belief (output_seen contents calls failures before) (output_seen contents calls failures after)

  -- where nothing failed
  left-built : (report : Report) → Rebuilt-as (Ok (rebuilt.Built report)) → Left (Built report)
  left-built report r = record {
    holds = r.belief;
    idle = λ settled. ap (output_seen contents calls failures) (r.idle settled).0;
    built = λ first h. r.leaves first [] h refl;
    called = λ first h.
        let left = r.leaves first [] h refl in
        record { written = left.written; stands_for = left.stands_for; calls = r.called first left.written h left.stands_for };
    untouched = λ quiet. absurd (cc (quiet));
    failed = record { later = r.later; cause = r.cause (Built report) refl; steady = λ _. r.steady report refl };
  }

  -- where these paths failed
  left-marked : (paths : List (List ℕ)) → Rebuilt-as (Ok (rebuilt.Marked paths)) → Left (Marked paths)
  left-marked paths r = record {
    holds = r.belief;
    idle = λ settled. ap (output_seen contents calls failures) (r.idle settled).0;
    built = λ first h. r.leaves first paths h refl;
    called = λ first h.
        let left = r.leaves first paths h refl in
        record { written = left.written; stands_for = left.stands_for; calls = r.called first left.written h left.stands_for };
    untouched = λ quiet. absurd (cc (quiet));
    failed = record { later = r.later; cause = r.cause (Marked paths) refl; steady = λ none. absurd (omega (arith, none)) };
  }

  left-faulty : (fault : SiteFault) → Rebuilt-as (Ok (rebuilt.Fault fault)) → Left (Faulty fault)
  left-faulty fault r =
      let same = (r.fault fault refl).2 in
      record {
        holds = r.belief;
        idle = λ settled. ap (output_seen contents calls failures) (r.idle settled).0;
        built = λ first h. tt;
        called = λ first h. subst (λ (d : D). Calls (calls before) (calls d) []) (sym same) (no_calls (calls before));
        untouched = λ _. ap (output_seen contents calls failures) same;
        failed = subst (λ (d : D). Rises 0 (failures before) (failures d)) (sym same) (rises_none 0 (failures before) refl);
      }

  -- files with a fault are told, and not that the output gave no list
  listed : Rebuilt-as (Ok rebuilt.Unlisted) → (first : Files) → Holds (contents before) old.belief first → (found : Found Output) → full_now old ≡ found → Calls (calls before) (calls after) (call.List ∷ [])
  listed r first h (Ok output) is = r.called first output.written h (written-of old.files old.kept (site_now old) output is)
  listed r first h (Err fault) is =
      let given : Given = record { source = empty; output = first; why = false } in
      let told : (rendered_now old, Faulty fault) ≡ (new, Unlisted) = ap (λ (f : Found Output). build given (rendered_now old) f TheList) (sym is) ∙ r.answers given 0 Unlisted h refl in
      let wrong : Faulty fault ≡ Unlisted = ap (λ (p : Standing × Reply). p.1) told in
      absurd (cc (wrong))

  left-unlisted : Rebuilt-as (Ok rebuilt.Unlisted) → Left Unlisted
  left-unlisted r = record {
    holds = r.belief;
    idle = λ settled. ap (output_seen contents calls failures) (r.idle settled).0;
    built = λ first h. r.unlisted refl;
    called = λ first h. listed r first h (full_now old) refl;
    untouched = λ quiet. absurd (cc (quiet));
    failed = record { later = r.later; cause = r.cause Unlisted refl; steady = λ none. absurd (omega (arith, none)) };
  }

  pub output_left : (made : Rebuilt) (reply : Reply) → Rebuilds in_any_order contents calls failures old new (Ok made) before after tally tally' → built_reply (Ok made) ≡ Some reply
      → OutputLeft old reply new.belief (output_seen contents calls failures before) (output_seen contents calls failures after)
  output_left (rebuilt.Built report) reply r is = let e : Built report ≡ reply = cc in subst Left e (left-built report r)
  output_left (rebuilt.Fault fault) reply r is = let e : Faulty fault ≡ reply = cc in subst Left e (left-faulty fault r)
  output_left (rebuilt.Marked paths) reply r is = let e : Marked paths ≡ reply = cc in subst Left e (left-marked paths r)
  output_left rebuilt.Unlisted reply r is = let e : Unlisted ≡ reply = cc in subst Left e (left-unlisted r)

  -- where memory was wanting
  listed-once : (e : Memory) → Rebuilt-as (Err e) → (first : Files) → Holds (contents before) old.belief first → (found : Found Output) → full_now old ≡ found → ListsAtMost old.belief (calls before) (calls after)
  listed-once e r first h (Ok output) is = r.called first output.written h (written-of old.files old.kept (site_now old) output is)
  listed-once e r first h (Err fault) is =
      let same = r.quiet fault (fault-of-output old.files old.kept (site_now old) fault is) in
      inl (subst (λ (d : D). Calls (calls before) (calls d) []) (sym same) (no_calls (calls before)))

  pub output_spared : (e : Memory) → Rebuilds in_any_order contents calls failures old new (Err e) before after tally tally'
      → OutputSpared old.belief (output_seen contents calls failures before) (output_seen contents calls failures after)
  output_spared e r = record { files = r.err; called = λ first h. listed-once e r first h (full_now old) refl; failures = r.short }

-- ---- one item after another is one of the orders

between-own : (names later : List ItemName) → HasBetween names later names
between-own names later = λ name. (omega arith, omega arith)

tallied-any : (now : Standing) (result : Result Rebuilt Memory) (before after : List ItemName) → Tallied in_order now result before after → Tallied in_any_order now result before after
tallied-any now (Ok made) before after is = (names_now now, is, between-own (names_now now) (names_past_now now))
tallied-any now (Err e) before after grows = grows

pub in_some_order : {D : Type 0} (contents : D → Option Files) (calls : D → Option (List Call)) (failures : D → ℕ) (old new : Standing) (result : Result Rebuilt Memory) (before after : D) (tally tally' : List ItemName)
    → Rebuilds in_order contents calls failures old new result before after tally tally' → Rebuilds in_any_order contents calls failures old new result before after tally tally'
in_some_order contents calls failures old new result before after tally tally' r = record {
  answers = r.answers;
  belief = r.belief;
  leaves = r.leaves;
  unlisted = r.unlisted;
  fault = r.fault;
  quiet = r.quiet;
  called = r.called;
  tallied = tallied-any old result tally tally' r.tallied;
  later = r.later;
  cause = r.cause;
  steady = r.steady;
  idle = r.idle;
  settled = r.settled;
  based = r.based;
  looked = r.looked;
  unbased = r.unbased;
  same = r.same;
  err = r.err;
  short = r.short;
}
