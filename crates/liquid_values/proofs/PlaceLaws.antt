-- What calls that change something, or that look nothing up, tell of runs.
use Rattle.std.proofs.Common.{◌≡◌, ◌∙◌, ap, Result, Ok, Err}
use Rattle.site_base.specs.declared.faults.FaultKind.{FaultKind}
use Rattle.site_base.specs.declared.faults.SiteFault.{SiteFault}
use Rattle.read_record.proofs.CallLaws.{stops_at, stops_bind, stops_then, finds_then}
use Rattle.read_record.proofs.QueryLaws.{run_gave, run_failed, run_waits}
use Rattle.read_record.specs.Answers.{Stops, Finds}
use Rattle.read_record.specs.Queries.{Query, bind, View, Trace, Ran, RanTo, FailedAt, run}
use Rattle.read_record.specs.declared.stop.Stop.{Stop}
use Rattle.read_record.specs.declared.stop.Stop.TheVariants as stop
use Rattle.liquid_values.specs.Answers.{Advances, FoundAt, Settles}
use Rattle.liquid_values.specs.Places.{Place, found_at}

module _ {F A : Type 0} (view : View) (t : Trace) where
  pub settles_runs : (q : Query F A) (x : Result (Unit {0}) (Stop F)) (a : A) → Settles q x a → Advances (run view t q) x a t
  settles_runs q (Ok done) a h = ap (run view t) h
  settles_runs q (Err (stop.Fault f)) a h = ap (run view t) h
  settles_runs q (Err (stop.Needs j)) a h = absurd h
  settles_runs q (Err stop.Memory) a h = tt

module _ {F A : Type 0} where
  advances_at : (r s : Ran F A) (x : Result (Unit {0}) (Stop F)) (a : A) (u : Trace) → r ≡ s → Advances s x a u → Advances r x a u
  advances_at r s (Ok done) a u same h = same ∙ h
  advances_at r s (Err e) a u same h = stops_at r s e u same h

module _ {F A B : Type 0} (view : View) (t : Trace) (q : Query F A) (next : A → Query F B) where
  -- it leaves what its second part leaves
  pub advances_then : (a : A) (u : Trace) (x : Result (Unit {0}) (Stop F)) (b : B) (s : Trace) → run view t q ≡ RanTo a u → Advances (run view u (next a)) x b s → Advances (run view t (bind q next)) x b s
  advances_then a u x b s gave h = advances_at _ _ x b s (run_gave view t q next a u gave) h

  -- and so where that looks nothing up
  pub settles_then : (a : A) (u : Trace) (x : Result (Unit {0}) (Stop F)) (b : B) → run view t q ≡ RanTo a u → Settles (next a) x b → Advances (run view t (bind q next)) x b u
  settles_then a u x b gave h = advances_then a u x b u gave (settles_runs view u (next a) x b h)

module _ (view : View) (t : Trace) where
  pub found_runs : {A : Type 0} (p : Place) (r : Result A FaultKind) (x : Result A (Stop SiteFault)) → FoundAt p r x → Finds (run view t (found_at p r)) x t
  found_runs p (Ok a) (Ok b) h = ap (λ c. run view t (found_at p (Ok c))) h
  found_runs p (Ok a) (Err e) h = absurd h
  found_runs p (Err k) (Ok b) h = absurd h
  found_runs p (Err k) (Err (stop.Fault f)) h = ap (λ g. FailedAt g t) h
  found_runs p (Err k) (Err (stop.Needs j)) h = absurd h
  found_runs p (Err k) (Err stop.Memory) h = tt

-- a value that is found without a look-up, and then another query
module _ {A B : Type 0} (view : View) (t : Trace) (p : Place) (r : Result A FaultKind) (next : A → Query SiteFault B) where
  pub found_gave : (a : A) → FoundAt p r (Ok a) → run view t (bind (found_at p r) next) ≡ run view t (next a)
  found_gave a h = run_gave view t (found_at p r) next a t (found_runs view t p r (Ok a) h)

  pub found_stops : (e : Stop SiteFault) → FoundAt p r (Err e) → Stops (run view t (bind (found_at p r) next)) e t
  found_stops e h = stops_bind view t (found_at p r) next e t (found_runs view t p r (Err e) h)

pub ruleset settles = (run_gave, run_failed, run_waits, stops_bind, stops_then, finds_then, settles_runs, advances_then, settles_then, found_runs, found_gave, found_stops)
