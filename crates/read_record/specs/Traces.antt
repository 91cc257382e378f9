-- What a render that keeps its reads answers.
use Rattle.std.specs.Prelude.{◌≡◌, List, [], ◌∷◌, ◌++◌, Some}
use Rattle.site_base.specs.declared.faults.SiteFault.{SiteFault}
use Rattle.site_base.specs.declared.item_name.ItemName.{ItemName}
use Rattle.read_record.specs.declared.traced.Traced.{Traced}
use Rattle.read_record.specs.declared.traced.Traced.TheVariants as traced
use Rattle.read_record.specs.Queries.{Query, View, interpret, needed_item}
use Rattle.read_record.specs.Outcomes.{Page}
use Rattle.read_record.specs.Entries.{Tells}

-- an entry that tells what the item's query gives over the view, or the item whose key the query misses
abbrev pub IsTraced : {M : Type 0} → View → (ItemName → Query SiteFault Page) → Traced M → ItemName → Type 0
IsTraced view item (traced.Entry kept) name = Tells view name (item name) kept
IsTraced view item (traced.Needs j) name = needed_item (interpret view (item name)) ≡ Some j
IsTraced view item traced.Memory name = Unit {0}

-- the names that were rendered, once it answered
abbrev pub traced_names : {M : Type 0} → Traced M → ItemName → List ItemName → List ItemName
traced_names (traced.Entry kept) name names = names ++ name ∷ []
traced_names (traced.Needs j) name names = names
traced_names traced.Memory name names = names
