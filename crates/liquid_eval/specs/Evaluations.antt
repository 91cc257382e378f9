-- What an evaluation answers, as a result.
use Rattle.std.specs.Prelude.{ℕ, List, Result, Ok, Err}
use Rattle.site_base.specs.declared.faults.SiteFault.{SiteFault}
use Rattle.read_record.specs.declared.stop.Stop.{Stop}
use Rattle.read_record.specs.declared.stop.Stop.TheVariants as stop
use Rattle.liquid_eval.specs.declared.evaluation.Evaluated.{Evaluated}
use Rattle.liquid_eval.specs.declared.evaluation.Evaluated.TheVariants as evaluated

abbrev pub answer_of : Evaluated → Result (List ℕ) (Stop SiteFault)
answer_of (evaluated.Text t) = Ok t
answer_of (evaluated.Fault f) = Err (stop.Fault f)
answer_of (evaluated.Needs j) = Err (stop.Needs j)
answer_of evaluated.Memory = Err stop.Memory
