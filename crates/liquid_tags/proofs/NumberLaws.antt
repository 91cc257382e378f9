-- What is found without a look-up, then a query, and what is made of both.
use Rattle.std.proofs.Common.{◌≡◌, ◌∙◌, Result, Ok, Err}
use Rattle.site_base.specs.declared.faults.FaultKind.{FaultKind}
use Rattle.site_base.specs.declared.faults.SiteFault.{SiteFault}
use Rattle.read_record.proofs.CallLaws.{stops_at, stops_bind}
use Rattle.read_record.proofs.QueryLaws.{run_gave}
use Rattle.read_record.specs.Answers.{Stops}
use Rattle.read_record.specs.Queries.{Query, Give, bind, View, Trace, RanTo, run}
use Rattle.read_record.specs.declared.stop.Stop.{Stop}
use Rattle.liquid_values.specs.Answers.{FoundAt}
use Rattle.liquid_values.specs.Places.{Place, found_at}
use Rattle.liquid_values.proofs.PlaceLaws.{found_gave}

module _ {A B C : Type 0} (view : View) (t : Trace) (p : Place) (r : Result A FaultKind) (q : Query SiteFault B) (last : A → B → C) (a : A) (found : FoundAt p r (Ok a)) where
  abbrev both : Query SiteFault C
  both = bind (found_at p r) (λ x. bind q (λ y. Give (last x y)))

  pub both_gave : (b : B) (s : Trace) → run view t q ≡ RanTo b s → run view t both ≡ RanTo (last a b) s
  both_gave b s gave =
      found_gave view t p r (λ x. bind q (λ y. Give (last x y))) a found ∙ run_gave view t q (λ y. Give (last a y)) b s gave

  pub both_stops : (e : Stop SiteFault) (s : Trace) → Stops (run view t q) e s → Stops (run view t both) e s
  both_stops e s stops =
      stops_at _ _ e s (found_gave view t p r (λ x. bind q (λ y. Give (last x y))) a found) (stops_bind view t q (λ y. Give (last a y)) e s stops)
