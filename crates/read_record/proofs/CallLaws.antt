-- What a call that stands for a query tells of a query that begins with it.
use Rattle.std.proofs.Common.{◌≡◌, ◌∙◌, Result, Ok, Err}
use Rattle.read_record.specs.Answers.{Stops, Finds}
use Rattle.read_record.specs.Queries.{Query, bind, View, Trace, Ran, RanTo, run}
use Rattle.read_record.specs.declared.stop.Stop.{Stop}
use Rattle.read_record.specs.declared.stop.Stop.TheVariants as stop
use Rattle.read_record.proofs.QueryLaws.{run_gave, run_failed, run_waits}

module _ {F A : Type 0} where
  pub stops_at : (r s : Ran F A) (e : Stop F) (t : Trace) → r ≡ s → Stops s e t → Stops r e t
  stops_at r s (stop.Fault k) t same h = same ∙ h
  stops_at r s (stop.Needs j) t same h = same ∙ h
  stops_at r s stop.Memory t same h = tt

  pub finds_at : (r s : Ran F A) (x : Result A (Stop F)) (t : Trace) → r ≡ s → Finds s x t → Finds r x t
  finds_at r s (Ok a) t same h = same ∙ h
  finds_at r s (Err e) t same h = stops_at r s e t same h

module _ {F A B : Type 0} (view : View) (t : Trace) (q : Query F A) (next : A → Query F B) where
  -- it stops where its first part stops
  pub stops_bind : (e : Stop F) (s : Trace) → Stops (run view t q) e s → Stops (run view t (bind q next)) e s
  stops_bind (stop.Fault k) s h = run_failed view t q next k s h
  stops_bind (stop.Needs j) s h = run_waits view t q next j s h
  stops_bind stop.Memory s h = tt

  -- and where its second part stops, after the first gave a value
  pub stops_then : (a : A) (u : Trace) (e : Stop F) (s : Trace) → run view t q ≡ RanTo a u → Stops (run view u (next a)) e s → Stops (run view t (bind q next)) e s
  stops_then a u e s gave h = stops_at _ _ e s (run_gave view t q next a u gave) h

  -- it gives what its second part gives
  pub finds_then : (a : A) (u : Trace) (x : Result B (Stop F)) (s : Trace) → run view t q ≡ RanTo a u → Finds (run view u (next a)) x s → Finds (run view t (bind q next)) x s
  finds_then a u x s gave h = finds_at _ _ x s (run_gave view t q next a u gave) h

pub ruleset binds = (run_gave, run_failed, run_waits, stops_bind, stops_then, finds_then)
