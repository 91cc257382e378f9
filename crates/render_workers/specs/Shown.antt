-- What a worker shows the others of an item.
use Rattle.std.specs.Prelude.{◌≡◌, Bool, true, false, Option, Some}
use Rattle.site_base.specs.declared.faults.SiteFault.{SiteFault}
use Rattle.site_base.specs.declared.item_name.ItemName.{ItemName}
use Rattle.read_record.specs.declared.outcome.Outcome.{Outcome}
use Rattle.read_record.specs.declared.outcome.Outcome.TheVariants.{Done, Fault}
use Rattle.read_record.specs.Queries.{Query, View}
use Rattle.read_record.specs.Outcomes.{Page}
use Rattle.read_record.specs.Entries.{Kept, Tells}
use Rattle.round_core.specs.Steps.{Differs}
use Rattle.round_core.specs.declared.made.Made.{Made}
use Rattle.round_core.specs.declared.made.Made.TheVariants as made

abbrev pub has_fault : Outcome → Bool
has_fault (Done content output) = false
has_fault (Fault fault) = true

-- over the view of the worker: what is kept of the item tells what its query gives; or it does not, and the entry was made for it. Whether the item has
-- a fault is told beside it
abbrev pub IsShown : {M : Type 0} → Option Kept → View → ItemName → Query SiteFault Page → Made M → Bool → Type 0
IsShown kept view name query made.Kept fault = (e : Kept) × (kept ≡ Some e) × Tells view name query e × (fault ≡ has_fault e.outcome)
IsShown kept view name query (made.New e) fault = Differs kept view × Tells view name query e × (fault ≡ has_fault e.outcome)
