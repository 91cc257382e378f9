-- What calls answer, in terms of definitions.
use Rattle.std.specs.Prelude.{◌≡◌, List, Option, Some, None, Result, Ok, Err}
use Rattle.std.specs.Borrow.{Bor}
use Rattle.std.specs.Option.{option_map, option_copied}
use Rattle.site_base.specs.Chains.{◌>>=◌}
use Rattle.site_base.specs.Plain.{Plain}
use Rattle.site_base.specs.View.{plain}
use Rattle.site_base.specs.declared.faults.FaultKind.{FaultKind}
use Rattle.site_base.specs.declared.value.Value.{Value}
pub use Rattle.read_record.specs.Answers.{Stops, Finds, in_plain}
use Rattle.read_record.specs.Queries.{Query, Give, Fail, bind, View, Trace, Ran, RanTo, FailedAt, WaitsFor, run}
use Rattle.filter_base.specs.Limits.{excess, fits}
use Rattle.filter_base.specs.Stops.{Stop}
use Rattle.read_record.specs.declared.stop.Stop.TheVariants as stop
use Rattle.filter_base.specs.declared.stop.Filtered.{Filtered}
use Rattle.filter_base.specs.declared.stop.Filtered.TheVariants as filtered

-- ---- arguments, by the values that they refer to

abbrev pub seen : {E : Type 0} → Result (Bor Value) E → Result Plain E
seen (Ok x) = Ok (plain x.now)
seen (Err e) = Err e

abbrev pub given : Option (Bor Value) → Option Plain
given x = option_map plain (option_copied x)

abbrev pub seen_if : {E : Type 0} → Result (Option (Bor Value)) E → Result (Option Plain) E
seen_if (Ok x) = Ok (given x)
seen_if (Err e) = Err e

abbrev pub seen_two : {E : Type 0} → Result (Bor Value × Bor Value) E → Result (Plain × Plain) E
seen_two (Ok x) = Ok (plain x.0.now, plain x.1.now)
seen_two (Err e) = Err e

abbrev pub seen_one_or_two : {E : Type 0} → Result (Bor Value × Option (Bor Value)) E → Result (Plain × Option Plain) E
seen_one_or_two (Ok x) = Ok (plain x.0.now, given x.1)
seen_one_or_two (Err e) = Err e

abbrev pub seen_up_to_two : {E : Type 0} → Result (Option (Bor Value) × Option (Bor Value)) E → Result (Option Plain × Option Plain) E
seen_up_to_two (Ok x) = Ok (given x.0, given x.1)
seen_up_to_two (Err e) = Err e

-- ---- values

-- a call made what is found, whose limits are not tested yet, or stopped at the fault that stands there once they are
abbrev pub Makes : Result Plain FaultKind → Result Value Stop → Type 0
Makes found (Ok v) = found ≡ Ok (plain v)
Makes found (Err (stop.Fault k)) = (found >>= fits) ≡ Err k
Makes found (Err (stop.Needs j)) = ⊥
Makes found (Err stop.Memory) = Unit {0}

-- ---- queries

-- what is found without a look-up
abbrev pub made : {A : Type 0} → Result A FaultKind → Query FaultKind A
made (Ok a) = Give a
made (Err k) = Fail k

-- a query's value, where it is within the limits
abbrev pub limited : Query FaultKind Plain → Query FaultKind Plain
limited q = bind q (λ v. made (fits v))

-- a call gives what the query comes to over a view, before its limits are tested, or stopped as it does once they are
abbrev pub Gives : View → Trace → Query FaultKind Plain → Result Value Stop → Trace → Type 0
Gives view old q (Ok v) new = run view old q ≡ RanTo (plain v) new
Gives view old q (Err e) new = Stops (run view old (limited q)) e new

abbrev pub stopped : Stop → Filtered
stopped (stop.Fault k) = filtered.Fault k
stopped (stop.Needs j) = filtered.Needs j
stopped stop.Memory = filtered.Memory

-- what is answered for a value: itself, where it is within the limits
abbrev pub fitted : Value → Filtered
fitted v = elim (excess (plain v)) [ Some k ↦ filtered.Fault k | None ↦ filtered.Value v ]

abbrev pub finished : Result Value Stop → Filtered
finished (Ok v) = fitted v
finished (Err e) = stopped e

-- a call answers by a run
abbrev pub Replies : Ran FaultKind Plain → Filtered → Trace → Type 0
Replies ran (filtered.Value v) t = ran ≡ RanTo (plain v) t
Replies ran (filtered.Fault k) t = ran ≡ FailedAt k t
Replies ran (filtered.Needs j) t = ran ≡ WaitsFor j t
Replies ran filtered.Unknown t = ⊥
Replies ran filtered.Memory t = Unit {0}

-- what a filter is: a query, by the input and the arguments
abbrev pub Meaning : Type 0
Meaning = Plain → List Plain → Query FaultKind Plain

-- a call answers by the filter over a view, or that there is none
abbrev pub Filters : Option Meaning → View → Trace → Plain → List Plain → Filtered → Trace → Type 0
Filters (Some f) view old v ws result new = Replies (run view old (limited (f v ws))) result new
Filters None view old v ws result new = (result ≡ filtered.Unknown) × (new ≡ old)
