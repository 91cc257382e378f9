-- What a filter answers, as a run in which its fault is the tag's.
use Rattle.std.proofs.Common.{◌≡◌, ◌∙◌, refl, ap, sym, Result, Ok, Err}
use Rattle.site_base.specs.Plain.{Plain}
use Rattle.site_base.specs.declared.faults.FaultKind.{FaultKind}
use Rattle.site_base.specs.declared.faults.SiteFault.{SiteFault}
use Rattle.site_base.specs.declared.value.Value.{Value}
use Rattle.read_record.specs.Answers.{Finds}
use Rattle.read_record.specs.Queries.{Query, Give, Fail, Ask, Known, Missing, on_reply, View, Trace, note, Ran, RanTo, FailedAt, WaitsFor, run}
use Rattle.read_record.specs.declared.stop.Stop.{Stop}
use Rattle.read_record.specs.declared.stop.Stop.TheVariants as stop
use Rattle.filter_base.specs.Answers.{Replies}
use Rattle.filter_base.specs.declared.stop.Filtered.{Filtered}
use Rattle.filter_base.specs.declared.stop.Filtered.TheVariants as filtered
use Rattle.liquid_values.specs.Answers.{AnsweredAt, in_plain}
use Rattle.liquid_values.specs.Places.{Place, fault_at, placed}

module _ {A : Type 0} (p : Place) where
  abbrev placed_ran : Ran FaultKind A → Ran SiteFault A
  placed_ran (RanTo a t) = RanTo a t
  placed_ran (FailedAt k t) = FailedAt (fault_at p k) t
  placed_ran (WaitsFor j t) = WaitsFor j t

  run-placed : (view : View) (t : Trace) (q : Query FaultKind A) → run view t (placed p q) ≡ placed_ran (run view t q)
  run-placed view t (Give a) = refl
  run-placed view t (Fail k) = refl
  run-placed view t (Ask k on) =
      elim (view k) as (λ r. on_reply r (λ v. run view (note k v t) (placed p (on v))) (λ j. WaitsFor j t) ≡ placed_ran (on_reply r (λ v. run view (note k v t) (on v)) (λ j. WaitsFor j t)))
      [ Known v ↦ run-placed view (note k v t) (on v) | Missing j ↦ refl ]

module _ (p : Place) (view : View) (t s : Trace) (q : Query FaultKind Plain) where
  ran-placed : (r : Ran FaultKind Plain) → run view t q ≡ r → run view t (placed p q) ≡ placed_ran p r
  ran-placed r h = run-placed p view t q ∙ ap (placed_ran p) h

  pub answered_runs : (answer : Filtered) (x : Result Value (Stop SiteFault)) → Replies (run view t q) answer s → AnsweredAt p answer x → Finds (run view t (placed p q)) (in_plain x) s
  answered_runs (filtered.Value v) (Ok w) h g = ran-placed _ h ∙ ap (λ u. RanTo u s) g
  answered_runs (filtered.Fault k) (Err (stop.Fault f)) h g = ran-placed _ h ∙ ap (λ e. FailedAt e s) g
  answered_runs (filtered.Fault k) (Err (stop.Needs j)) h g = absurd g
  answered_runs (filtered.Fault k) (Err stop.Memory) h g = tt
  answered_runs (filtered.Needs j) (Err (stop.Fault f)) h g = cc
  answered_runs (filtered.Needs j) (Err (stop.Needs i)) h g = let e : i ≡ j = cc in ran-placed _ h ∙ ap (λ n. WaitsFor n s) (sym e)
  answered_runs (filtered.Needs j) (Err stop.Memory) h g = tt
  answered_runs filtered.Memory (Err (stop.Fault f)) h g = cc
  answered_runs filtered.Memory (Err (stop.Needs i)) h g = cc
  answered_runs filtered.Memory (Err stop.Memory) h g = tt
  answered_runs filtered.Unknown x h g = absurd h
  answered_runs (filtered.Value v) (Err e) h g = absurd g
  answered_runs (filtered.Fault k) (Ok w) h g = absurd g
  answered_runs (filtered.Needs j) (Ok w) h g = absurd g
  answered_runs filtered.Memory (Ok w) h g = absurd g
