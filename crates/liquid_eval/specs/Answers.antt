-- What calls answer, in terms of definitions.
use Rattle.std.specs.Prelude.{◌≡◌, Result, Ok, Err}
use Rattle.site_base.specs.Plain.{Plain}
use Rattle.site_base.specs.declared.faults.FaultKind.{FaultKind}
use Rattle.site_base.specs.declared.faults.SiteFault.{SiteFault}
use Rattle.read_record.specs.Answers.{Stops}
use Rattle.read_record.specs.Queries.{Query, Give, Fail, Ran, RanTo, Trace, View, run}
use Rattle.read_record.specs.declared.stop.Stop.{Stop}
use Rattle.read_record.specs.declared.stop.Stop.TheVariants as stop
use Rattle.liquid_values.specs.Answers.{FoundAt}
use Rattle.liquid_values.specs.Places.{Place}
use Rattle.liquid_tags.specs.declared.state.State.{State}
use Rattle.liquid_eval.specs.declared.signal.Signal.{Signal}
use Rattle.liquid_eval.specs.declared.work.Work.{Work}
use Rattle.liquid_eval.specs.Reached.{Reached, reached}

-- nodes were evaluated, and leave this
abbrev pub Reaches : Ran SiteFault Reached → Result Signal (Stop SiteFault) → State → Trace → Type 0
Reaches r (Ok signal) s t = r ≡ RanTo (reached s signal) t
Reaches r (Err e) s t = Stops r e t

-- a tag was begun, and what is left of it comes to what the whole tag comes to
abbrev pub Leads : (Work → Query SiteFault Reached) → View → Ran SiteFault Reached → Result Work (Stop SiteFault) → Trace → Type 0
Leads left view r (Ok w) t = r ≡ run view t (left w)
Leads left view r (Err e) t = Stops r e t

-- the same, of a call that looks nothing up
abbrev pub Uses : Query SiteFault Reached → Result Signal (Stop SiteFault) → State → Type 0
Uses q (Ok signal) s = q ≡ Give (reached s signal)
Uses q (Err (stop.Fault f)) s = q ≡ Fail f
Uses q (Err (stop.Needs j)) s = ⊥
Uses q (Err stop.Memory) s = Unit {0}

-- a value without a look-up, or the tag's fault, unless memory was wanting
abbrev pub Yields : Place → Result Plain FaultKind → Result Plain (Stop SiteFault) → Type 0
Yields p r (Ok v) = FoundAt p r (Ok v)
Yields p r (Err (stop.Fault f)) = FoundAt p r (Err (stop.Fault f))
Yields p r (Err (stop.Needs j)) = ⊥
Yields p r (Err stop.Memory) = Unit {0}
