-- What a call that stands for a query tells of a query that begins with it.
pub use Rattle.read_record.proofs.CallLaws.{stops_at, stops_bind, stops_then}
use Rattle.read_record.proofs.QueryLaws.{run_gave, run_failed, run_waits}
use Rattle.std.proofs.Common.{◌≡◌, Result, Ok, subst, sym}
use Rattle.site_base.specs.declared.faults.FaultKind.{FaultKind}
use Rattle.read_record.specs.Queries.{Query, bind, View, Trace, run}
use Rattle.filter_base.specs.Answers.{Finds, made}
use Rattle.filter_base.specs.Stops.{Stop}

module _ {A B : Type 0} where
  -- it goes on by what is found without a look-up
  pub after_made : (view : View) (t s : Trace) (found : Result A FaultKind) (a : A) (next : A → Query FaultKind B) (r : Result B Stop) → found ≡ Ok a
      → Finds (run view t (next a)) r s → Finds (run view t (bind (made found) next)) r s
  after_made view t s found a next r is h = subst (λ (x : Result A FaultKind). Finds (run view t (bind (made x) next)) r s) (sym is) h

pub ruleset binds = (run_gave, run_failed, run_waits, stops_bind, stops_then)
