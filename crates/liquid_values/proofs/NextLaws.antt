-- One call that looks things up behind another: each clause speaks of the view as it was before its call.
use Rattle.std.proofs.Common.{◌≡◌, subst, Result}
use Rattle.liquid_values.proofs.PlaceLaws.{advances_then}
use Rattle.liquid_values.specs.Answers.{Advances}
use Rattle.read_record.proofs.CallLaws.{finds_then, stops_then}
use Rattle.read_record.specs.Answers.{Finds, Stops}
use Rattle.read_record.specs.Queries.{Query, bind, View, Trace, RanTo, run}
use Rattle.read_record.specs.declared.stop.Stop.{Stop}

module _ {F A B : Type 0} (view other : View) (t : Trace) (q : Query F A) (next : A → Query F B) (a : A) (u : Trace) (same : other ≡ view) (gave : run view t q ≡ RanTo a u) where
  pub finds_next : (x : Result B (Stop F)) (s : Trace) → Finds (run other u (next a)) x s → Finds (run view t (bind q next)) x s
  finds_next x s h = finds_then view t q next a u x s gave (subst (λ v. Finds (run v u (next a)) x s) same h)

  pub stops_next : (e : Stop F) (s : Trace) → Stops (run other u (next a)) e s → Stops (run view t (bind q next)) e s
  stops_next e s h = stops_then view t q next a u e s gave (subst (λ v. Stops (run v u (next a)) e s) same h)

  pub advances_next : (x : Result (Unit {0}) (Stop F)) (b : B) (s : Trace) → Advances (run other u (next a)) x b s → Advances (run view t (bind q next)) x b s
  advances_next x b s h = advances_then view t q next a u x b s gave (subst (λ v. Advances (run v u (next a)) x b s) same h)
