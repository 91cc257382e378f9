-- What is found in a file: a value, or a fault with its line.
use Rattle.std.specs.Prelude.{◌≡◌, ℕ, Result, Err}
use Rattle.site_base.specs.declared.faults.FaultKind.{FaultKind}
use Rattle.site_items.specs.declared.item_error.ItemError.{ItemError}
use Rattle.site_items.specs.declared.item_error.ItemError.TheVariants as item_error

-- a line, or 0 where the kind has none, and what is wrong there
abbrev pub Fault : Type 0
Fault = ℕ × FaultKind

abbrev pub Outcome : Type 0 → Type 0
Outcome A = Result A Fault

-- the fault that there is, unless memory ran out
abbrev pub IsFault : {A : Type 0} → Outcome A → ItemError → Type 0
IsFault found item_error.Memory = Unit {0}
IsFault found (item_error.Fault f) = found ≡ Err (f.line, f.kind)
