-- What calls take their input for, by the code's own types.
use Rattle.std.specs.Prelude.{◌≡◌, ℕ, List, Vec, Option, Some, None, Result, Ok, Err}
use Rattle.std.specs.declared.alloc.Global.{Global}
use Rattle.site_base.specs.Plain.{Items}
use Rattle.site_base.specs.View.{plain, items_of}
use Rattle.site_base.specs.declared.faults.FaultKind.{FaultKind}
use Rattle.site_base.specs.declared.faults.FaultKind.TheVariants.{FilterArgument}
use Rattle.filter_base.specs.declared.elements.Elements.{Elements}
use Rattle.filter_base.specs.declared.elements.Elements.TheVariants.{Lent, Made}
use Rattle.filter_base.specs.Keyed as Keyed
use Rattle.filter_base.specs.declared.keyed.Entry.{Entry}
use Rattle.filter_base.specs.declared.keyed.Source.{Source}
use Rattle.filter_base.specs.Stops.{Stop}
use Rattle.read_record.specs.declared.stop.Stop.TheVariants as stop

abbrev pub item_values : Elements → Items
item_values (Lent vs) = items_of vs.now
item_values (Made is) = is

abbrev pub MakesElements : Result Items FaultKind → Result Elements Stop → Type 0
MakesElements found (Ok es) = found ≡ Ok (item_values es)
MakesElements found (Err (stop.Fault k)) = found ≡ Err k
MakesElements found (Err (stop.Needs j)) = ⊥
MakesElements found (Err stop.Memory) = Unit {0}

-- ---- elements with their keys

abbrev pub keys_or : Items → Option Items → Items
keys_or is None = is
keys_or is (Some ks) = ks

abbrev pub source_of : Source → Keyed.Source
source_of s = Keyed.source (item_values s.elements) (keys_or (item_values s.elements) s.keys)

abbrev pub found_source : Result Source Stop → Result Keyed.Source Stop
found_source (Ok s) = Ok (source_of s)
found_source (Err e) = Err e

abbrev pub entry_of : Entry → Keyed.Entry
entry_of e = record { key = plain e.key.now; value = plain e.value.now }

-- ---- texts

abbrev pub MakesText : Result (List ℕ) FaultKind → Result (List ℕ) Stop → Type 0
MakesText found (Ok t) = found ≡ Ok t
MakesText found (Err (stop.Fault k)) = found ≡ Err k
MakesText found (Err (stop.Needs j)) = ⊥
MakesText found (Err stop.Memory) = Unit {0}

abbrev pub MakesBytes : Option (List ℕ) → Result (Vec ℕ Global) Stop → Type 0
MakesBytes found (Ok bytes) = found ≡ Some bytes.items
MakesBytes found (Err (stop.Fault k)) = (found ≡ None) × (k ≡ FilterArgument)
MakesBytes found (Err (stop.Needs j)) = ⊥
MakesBytes found (Err stop.Memory) = Unit {0}
