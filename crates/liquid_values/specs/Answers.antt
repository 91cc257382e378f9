-- What calls answer, in terms of definitions.
use Rattle.std.specs.Prelude.{◌≡◌, Result, Ok, Err}
use Rattle.site_base.specs.Plain.{Plain}
use Rattle.site_base.specs.View.{plain}
use Rattle.site_base.specs.declared.value.Value.{Value}
use Rattle.site_base.specs.declared.faults.FaultKind.{FaultKind}
use Rattle.site_base.specs.declared.faults.SiteFault.{SiteFault}
use Rattle.read_record.specs.Answers.{Stops}
use Rattle.read_record.specs.Queries.{Query, Give, Fail, Trace, Ran, RanTo}
use Rattle.read_record.specs.declared.stop.Stop.{Stop}
use Rattle.read_record.specs.declared.stop.Stop.TheVariants as stop
use Rattle.filter_base.specs.declared.stop.Filtered.{Filtered}
use Rattle.filter_base.specs.declared.stop.Filtered.TheVariants as filtered
use Rattle.liquid_values.specs.declared.found.Found.{Found}
use Rattle.liquid_values.specs.declared.found.Found.TheVariants as the
use Rattle.liquid_values.specs.Names as names
use Rattle.liquid_values.specs.Places.{Place, fault_at}
use Rattle.liquid_values.specs.Standing.{loop_value, row_value}

-- what a call found, by its own type
abbrev pub found_of : Found → names.Found
found_of (the.Value v) = names.value (plain v)
found_of the.Site = names.the_site
found_of (the.Data keys) = names.the_data keys
found_of (the.ForLoop l) = names.value (loop_value l.now)
found_of (the.RowLoop r) = names.value (row_value r.now)

abbrev pub in_found : {E : Type 0} → Result Found E → Result names.Found E
in_found (Ok f) = Ok (found_of f)
in_found (Err e) = Err e

-- a call stops at this fault
abbrev pub IsFault : SiteFault → Stop SiteFault → Type 0
IsFault f (stop.Fault g) = f ≡ g
IsFault f (stop.Needs j) = ⊥
IsFault f stop.Memory = Unit {0}

-- a value without a look-up, or the tag's fault
abbrev pub FoundAt : {A : Type 0} → Place → Result A FaultKind → Result A (Stop SiteFault) → Type 0
FoundAt p (Ok a) (Ok b) = a ≡ b
FoundAt p (Ok a) (Err e) = ⊥
FoundAt p (Err k) (Ok b) = ⊥
FoundAt p (Err k) (Err e) = IsFault (fault_at p k) e

abbrev pub in_plain : {E : Type 0} → Result Value E → Result Plain E
in_plain (Ok v) = Ok (plain v)
in_plain (Err e) = Err e

-- what a filter answered, where a fault is the tag's
abbrev pub AnsweredAt : Place → Filtered → Result Value (Stop SiteFault) → Type 0
AnsweredAt p (filtered.Value v) (Ok w) = plain v ≡ plain w
AnsweredAt p (filtered.Fault k) (Err e) = IsFault (fault_at p k) e
AnsweredAt p (filtered.Needs j) (Err e) = e ≡ stop.Needs j
AnsweredAt p filtered.Memory (Err e) = e ≡ stop.Memory
AnsweredAt p answer result = ⊥

-- a call that changes something leaves what a run comes to
abbrev pub Advances : {F A : Type 0} → Ran F A → Result (Unit {0}) (Stop F) → A → Trace → Type 0
Advances run (Ok done) a t = run ≡ RanTo a t
Advances run (Err e) a t = Stops run e t

-- the same, of a call that looks nothing up
abbrev pub Settles : {F A : Type 0} → Query F A → Result (Unit {0}) (Stop F) → A → Type 0
Settles q (Ok done) a = q ≡ Give a
Settles q (Err (stop.Fault f)) a = q ≡ Fail f
Settles q (Err (stop.Needs j)) a = ⊥
Settles q (Err stop.Memory) a = Unit {0}

-- a filter of the name was found
abbrev pub IsKnown : Filtered → Type 0
IsKnown filtered.Unknown = ⊥
IsKnown answer = Unit {0}
