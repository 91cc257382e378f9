-- What calls answer, in terms of definitions.
use Rattle.std.specs.Prelude.{◌≡◌, List, map, Option, Some, None, Result, Ok, Err}
use Rattle.std.specs.Global.{Vec}
use Rattle.site_base.specs.Plain.{Plain}
use Rattle.site_base.specs.View.{plain}
use Rattle.site_base.specs.declared.value.Value.{Value}
use Rattle.site_base.specs.declared.faults.SiteFault.{SiteFault}
use Rattle.read_record.specs.declared.stop.Stop.{Stop}
use Rattle.read_record.specs.declared.stop.Stop.TheVariants as stop
use Rattle.std.specs.Option.{option_map}
use Rattle.liquid_tags.specs.declared.includes.Included.{Included}
use Rattle.liquid_tags.specs.declared.state.State.{State}
use Rattle.liquid_tags.specs.Includes as includes

-- a call leaves this, unless memory was wanting
abbrev pub Pushes : State → Result (Unit {0}) (Stop SiteFault) → State → Type 0
Pushes left (Ok done) now = now ≡ left
Pushes left (Err stop.Memory) now = Unit {0}
Pushes left (Err e) now = ⊥

abbrev pub in_plains : {E : Type 0} → Result (Vec Value) E → Result (List Plain) E
in_plains (Ok vs) = Ok (map plain vs.items)
in_plains (Err e) = Err e

abbrev pub in_given : {E : Type 0} → Result (Option Value) E → Result (Option Plain) E
in_given (Ok v) = Ok (option_map plain v)
in_given (Err e) = Err e

abbrev pub included_of : Included → includes.Included
included_of i = record { file = i.file; tree = i.template; given = option_map plain i.given }

abbrev pub in_included : {E : Type 0} → Result Included E → Result includes.Included E
in_included (Ok i) = Ok (included_of i)
in_included (Err e) = Err e
