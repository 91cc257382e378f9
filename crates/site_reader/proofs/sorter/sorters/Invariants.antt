use Rattle.std.proofs.Common.{◌≡◌, ◌++◌, drop, map}
use Rattle.site_config.specs.declared.collection.Collection.{Collection}
use Rattle.site_reader.specs.Sorters.{sorting_of}
use Rattle.site_reader.proofs.sorter.sorters.Given as goal

abbrev pub invariant-loop-collection : goal.invariant-loop-collection
invariant-loop-collection l =
    map sorting_of l.made.items ++ map (λ (c : Collection). c.sorting) (drop l.collection-index l.collections) ≡ map (λ (c : Collection). c.sorting) l.collections
