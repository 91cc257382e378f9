-- Runs for which memory was found, and whose ends did not fail.
use Rattle.std.proofs.Common.{◌≡◌, ◌<◌, ◌≤◌, ◌+◌, ◌-◌, ◌^◌, ℕ, ℤ, min, refl, arith}
use Rattle.std.specs.Prelude.{max}
use Rattle.site_base.specs.Ends.{Rose}
use Rattle.site_session.specs.Standing.{Standing}
use Rattle.site_words.specs.declared.faults.UsageKind.{UsageKind}
use Rattle.site_program.specs.Checks.{CheckDone, OneCheck}
use Rattle.site_program.specs.Makes.{MakeDone, OneMake, make_fault}
use Rattle.site_program.specs.Stages.{Blames, Comes, Completes, Stayed, NoneFailed, Stage}
use Rattle.site_program.specs.declared.status.Status.{Status}
use Rattle.site_program.specs.declared.status.Status.TheVariants as status
use Rattle.site_program.proofs.Making.{never_input, never_out, never_source, never_usage}

-- a count that stayed, and was not at its last value, did not rise
pub never_rose : (before now : ℕ) → Stayed before now → Rose before now → ⊥
never_rose before now held rose = let same = held.0 in let room = held.1 in omega (arith, same, room, rose)

pub completes : {S D : Type 0} (was now : Stage S D) (s : Status) → Blames was now s → ((kind : UsageKind) → s ≡ status.Usage kind → ⊥) → (s ≡ status.InputFault → ⊥) → Completes was now s
completes was now s blames usage input memory none = by s blames usage input memory
  where
    by : (s : Status) → Blames was now s → ((kind : UsageKind) → s ≡ status.Usage kind → ⊥) → (s ≡ status.InputFault → ⊥) → (s ≡ status.Memory → ⊥) → Comes s
    by status.Done b u i m = tt
    by (status.Site fault) b u i m = tt
    by (status.Script number kind) b u i m = tt
    by (status.Usage kind) b u i m = u kind refl
    by status.SourceFault b u i m = never_rose was.scene.source.failures now.scene.source.failures none.source (b.source refl)
    by (status.OutFault count) b u i m =
        let rose = b.output count refl in
        let same = none.output.0 in
        let room = none.output.1 in
        omega (arith, rose, same, room)
    by status.InputFault b u i m = i refl
    by status.SinkFault b u i m = never_rose was.sink.failures now.sink.failures none.sink (b.sink refl)
    by status.Memory b u i m = m refl

-- ---- checks and made-up sites

pub check_blames : {S D : Type 0} (first : Standing) (was now : Stage S D) (s : Status) → CheckDone first was.scene.source now.scene.source was.sink now.sink s → Blames was now s
check_blames first was now s done = record { source = done.source_fault; output = λ count e. absurd (done.no_output count e); sink = done.sink_fault }

pub one_check : {S D : Type 0} (first : Standing) (was now : Stage S D) (s : Status) → CheckDone first was.scene.source now.scene.source was.sink now.sink s → now.scene.output ≡ was.scene.output → OneCheck first was now s
one_check first was now s done output = record { done = done; output = output; completes = completes was now s (check_blames first was now s done) done.no_usage done.no_input }

pub make_blames : {S D : Type 0} (number count : ℕ) (moment : ℤ) (was now : Stage S D) (s : Status) → MakeDone number count moment was.sink now.sink s → Blames was now s
make_blames number count moment was now s done =
    let fault = make_fault number count moment in
    record { source = λ e. absurd (never_source fault s done.ends e); output = λ n e. absurd (never_out fault s n done.ends e); sink = done.sink_fault }

pub one_make : {S D : Type 0} (number count : ℕ) (moment : ℤ) (was now : Stage S D) (s : Status) → MakeDone number count moment was.sink now.sink s → now.scene.source ≡ was.scene.source → now.scene.output ≡ was.scene.output
    → OneMake number count moment was now s
one_make number count moment was now s done source output =
    let fault = make_fault number count moment in
    record {
      done = done;
      source = source;
      output = output;
      completes = completes was now s (make_blames number count moment was now s done) (λ kind e. never_usage fault s kind done.ends e) (λ e. never_input fault s done.ends e);
    }
