-- What a line leaves, by what was done at it.
use Rattle.std.proofs.Common.{◌≡◌, ◌∙◌, ℕ, ap, inl, false, List, Option, Result, Ok, Err, OnErr, refl, sym, subst, arith}
use Rattle.std.specs.FinMap.{get}
use Rattle.std.specs.Result.{IfOk, OnOk}
use Rattle.site_session.specs.Pages.{LooksAtSome}
use Rattle.out_tree.specs.Belief.{Belief}
use Rattle.site_base.specs.Places.{Files}
use Rattle.site_base.specs.declared.errors.Memory.{Memory}
use Rattle.site_base.specs.declared.item_name.ItemName.{ItemName}
use Rattle.site_script.specs.declared.line.Line.{Line}
use Rattle.site_script.specs.declared.line.Line.TheVariants as line
use Rattle.render_workers.specs.Tallies.{Grows}
use Rattle.render_workers.proofs.TallyLaws.{grows_none}
use Rattle.site_session.specs.Replies.{CalledBy, IsQuiet, LeavesBy, LineLeaves, LineSpares, OutputLeft, OutputSpared, SourceLeft, has_called_output}
use Rattle.site_session.specs.Rounds.{in_any_order}
use Rattle.site_session.specs.Scenes.{OutputSeen, Rises, Scene, SourceSeen}
use Rattle.site_session.specs.Session.{Reply, Scanned, ScanFailed, Faulty, Fine, Absent, Built, Marked, Unlisted, BadLine, Silent, names_now, names_past_now, output_failures, source_failures}
use Rattle.site_session.specs.Standing.{Standing, Holds}
use Rattle.site_session.specs.Tallied.{LineTallied}
use Rattle.site_session.specs.declared.reply.Reply.TheVariants as replies
use Rattle.site_session.proofs.Builds.{no_calls}

-- ---- ends that were left alone

pub rises_none : (shown count : ℕ) → shown ≡ 0 → Rises shown count count
rises_none shown count none = record { later = omega arith; cause = omega (arith, none); steady = λ _. refl }

module _ {D : Type 0} (now : Standing) (belief : Option Belief) (at : OutputSeen D) where
  quiet_left : (reply : Reply) → has_called_output reply ≡ false → LeavesBy now reply at.files at.files belief
  quiet_left (Scanned count) q = tt
  quiet_left ScanFailed q = tt
  quiet_left (Faulty fault) q = tt
  quiet_left Fine q = tt
  quiet_left Absent q = tt
  quiet_left (Built report) q = absurd (cc (q))
  quiet_left (Marked paths) q = absurd (cc (q))
  quiet_left Unlisted q = absurd (cc (q))
  quiet_left (BadLine number kind) q = tt
  quiet_left (replies.Links report) q = tt
  quiet_left Silent q = tt

  quiet_called : (first : Files) (reply : Reply) → has_called_output reply ≡ false → CalledBy now first reply at.calls at.calls
  quiet_called first (Scanned count) q = no_calls at.calls
  quiet_called first ScanFailed q = no_calls at.calls
  quiet_called first (Faulty fault) q = no_calls at.calls
  quiet_called first Fine q = no_calls at.calls
  quiet_called first Absent q = no_calls at.calls
  quiet_called first (Built report) q = absurd (cc (q))
  quiet_called first (Marked paths) q = absurd (cc (q))
  quiet_called first Unlisted q = absurd (cc (q))
  quiet_called first (BadLine number kind) q = no_calls at.calls
  quiet_called first (replies.Links report) q = no_calls at.calls
  quiet_called first Silent q = no_calls at.calls

  pub quiet_output : (reply : Reply) → belief ≡ now.belief → IsQuiet reply → OutputLeft now reply belief at at
  quiet_output reply same quiet = record {
    holds = λ first h. subst (λ (b : Option Belief). Holds at.files b first) (sym same) h;
    built = λ first h. quiet_left reply quiet.called;
    called = λ first h. quiet_called first reply quiet.called;
    untouched = λ _. refl;
    idle = λ _. refl;
    failed = rises_none (output_failures reply) at.failures quiet.failures;
  }

pub quiet_source : {S : Type 0} (at : Line) (reply : Reply) (source : SourceSeen S) → source_failures reply ≡ 0 → SourceLeft at reply source source
quiet_source at reply source none = record { untouched = λ _. refl; files = refl; failed = rises_none (source_failures reply) source.failures none }

spared : {D : Type 0} (belief : Option Belief) (at : OutputSeen D) → OutputSpared belief at at
spared belief at = record { files = refl; called = λ first h. inl (no_calls at.calls); failures = refl }

-- ---- lines

module _ {S D : Type 0} (now : Standing) where
  -- a line that calls no end and renders nothing
  pub quiet_line : (at : Line) (reply : Reply) (belief : Option Belief) (there : Scene S D) → belief ≡ now.belief → IsQuiet reply → source_failures reply ≡ 0 → LineTallied in_any_order now at there.tally there.tally → LineLeaves now at reply belief there there
  quiet_line at reply belief there same quiet none tallied = record {
    output = quiet_output now belief there.output reply same quiet;
    source = quiet_source at reply there.source none;
    tallied = tallied;
  }

  pub scan_line : (at : Line) (reply : Reply) (belief : Option Belief) (source source' : SourceSeen S) (output : OutputSeen D) (tally : List ItemName) → at ≡ line.Scan → belief ≡ now.belief → IsQuiet reply → SourceLeft line.Scan reply source source'
      → LineLeaves now at reply belief (record { source = source; output = output; tally = tally }) (record { source = source'; output = output; tally = tally })
  scan_line at reply belief source source' output tally is same quiet left =
      let whole : LineLeaves now line.Scan reply belief (record { source = source; output = output; tally = tally }) (record { source = source'; output = output; tally = tally }) =
      record { output = quiet_output now belief output reply same quiet; source = left; tallied = refl } in
      subst (λ (l : Line). LineLeaves now l reply belief (record { source = source; output = output; tally = tally }) (record { source = source'; output = output; tally = tally })) (sym is) whole

  pub build_line : (at : Line) (reply : Reply) (belief : Option Belief) (source : SourceSeen S) (output output' : OutputSeen D) (tally tally' : List ItemName) → at ≡ line.Build → source_failures reply ≡ 0 → OutputLeft now reply belief output output'
      → in_any_order (names_now now) (names_past_now now) tally tally'
      → LineLeaves now at reply belief (record { source = source; output = output; tally = tally }) (record { source = source; output = output'; tally = tally' })
  build_line at reply belief source output output' tally tally' is none left tallied =
      let whole : LineLeaves now line.Build reply belief (record { source = source; output = output; tally = tally }) (record { source = source; output = output'; tally = tally' }) =
      record { output = left; source = quiet_source line.Build reply source none; tallied = tallied } in
      subst (λ (l : Line). LineLeaves now l reply belief (record { source = source; output = output; tally = tally }) (record { source = source; output = output'; tally = tally' })) (sym is) whole

  -- a line at which memory was wanting before it called an end
  pub spares_all : (at : Line) (there : Scene S D) → LineSpares now at there there
  spares_all at there = record {
    output = spared now.belief there.output;
    output_untouched = λ _. refl;
    tallied = grows_none there.tally;
    untallied = λ _. refl;
    source_untouched = λ _. refl;
    source_files = refl;
    source_failures = refl;
  }

  pub scan_spares : (at : Line) (source source' : SourceSeen S) (output : OutputSeen D) (tally : List ItemName) → at ≡ line.Scan → source'.files ≡ source.files → source'.failures ≡ source.failures
      → LineSpares now at (record { source = source; output = output; tally = tally }) (record { source = source'; output = output; tally = tally })
  scan_spares at source source' output tally is files failures = record {
    output = spared now.belief output;
    output_untouched = λ _. refl;
    tallied = grows_none tally;
    untallied = λ _. refl;
    source_untouched = λ other. absurd (other is);
    source_files = files;
    source_failures = failures;
  }

  pub build_spares : (at : Line) (source : SourceSeen S) (output output' : OutputSeen D) (tally tally' : List ItemName) → at ≡ line.Build → OutputSpared now.belief output output' → Grows tally tally'
      → LineSpares now at (record { source = source; output = output; tally = tally }) (record { source = source; output = output'; tally = tally' })
  build_spares at source output output' tally tally' is left grows = record {
    output = left;
    output_untouched = λ other. absurd (other is);
    tallied = grows;
    untallied = λ other. absurd (other is);
    source_untouched = λ _. refl;
    source_files = refl;
    source_failures = refl;
  }

-- ---- by results

-- what holds of each reply
pub if_ok : {P Q : Reply → Type 0} (result : Result Reply Memory) → ((reply : Reply) → P reply → Q reply) → IfOk result P → IfOk result Q
if_ok (Ok reply) f p = f reply p
if_ok (Err e) f p = tt

-- the same with what holds wherever there is one
pub if_ok_with : {P Q : Reply → Type 0} {R : Type 0} (result : Result Reply Memory) → ((reply : Reply) → P reply → R → Q reply) → IfOk result P → OnOk result R → IfOk result Q
if_ok_with (Ok reply) f p r = f reply p r
if_ok_with (Err e) f p r = tt

pub if_short : {P Q : Type 0} (result : Result Reply Memory) → (P → Q) → OnErr result P → OnErr result Q
if_short (Ok reply) f p = tt
if_short (Err e) f p = f p

-- no page was looked at
pub looks_at_none : (old new : Files) (belief : Belief) → new ≡ old → LooksAtSome old belief new
looks_at_none old new belief same = λ path. inl (ap (λ (m : Files). get m path) same)
