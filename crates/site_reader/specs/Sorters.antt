-- What sorts documents in one reading, against what the configuration says.
use Rattle.std.specs.Prelude.{◌≡◌, List, map, Option, None, slice_get}
use Rattle.site_config.specs.declared.collection.Collection.{Collection}
use Rattle.site_config.specs.declared.config.Config.{Config}
use Rattle.site_config.specs.declared.sorting.Sorting.{Sorting}
use Rattle.site_config.specs.declared.sorting.Sorting.TheVariants as said
use Rattle.site_items.specs.declared.kind.Kind.{Kind}
use Rattle.site_items.specs.declared.kind.Kind.TheVariants as kind
use Rattle.site_reader.specs.declared.sorter.Sorter.{Sorter}
use Rattle.site_reader.specs.declared.sorter.Sorter.TheVariants as sorter

-- what the configuration says of it
abbrev pub sorting_of : Sorter → Sorting
sorting_of sorter.ByDate = said.ByDate
sorting_of (sorter.By name) = said.By name.now
sorting_of (sorter.Listed paths) = said.Listed paths

-- one for each collection, by what it sorts by
abbrev pub AreSorters : Config → List Sorter → Type 0
AreSorters config sorters = map sorting_of sorters ≡ map (λ (c : Collection). c.sorting) config.collections

abbrev pub sorter_of : List Sorter → Kind → Option Sorter
sorter_of sorters (kind.Document n) = slice_get sorters n
sorter_of sorters other = None
