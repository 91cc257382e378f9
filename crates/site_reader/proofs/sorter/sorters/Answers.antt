use Rattle.std.proofs.Common.{ap, arith, map, ◌∙◌}
use Rattle.site_config.specs.declared.collection.Collection.{Collection}
use Rattle.site_reader.specs.Sorters.{sorting_of}
use Rattle.site_reader.proofs.EachLaws.{all_placed, one_placed}
use Rattle.site_reader.proofs.sorter.sorters.Goals as goal

pub loop-collection-preserved : goal.loop-collection-preserved
loop-collection-preserved c =
    one_placed sorting_of (λ (x : Collection). x.sorting) c.as_slice-collections.result.now c.loop-collection.made.items c.push.new.self.items c.loop-collection.collection-index c.in_ok-of.field-0 c.collection-item.result
    c.loop-collection-test.true c.collection-item.is c.in_ok-of.ensures c.in_ok-push.ensures.items c.loop-collection.invariant

pub returns : goal.returns
returns c =
    all_placed sorting_of (λ (x : Collection). x.sorting) c.as_slice-collections.result.now c.loop-collection.made.items c.loop-collection.collection-index (omega (arith, c.loop-collection-test.false)) c.loop-collection.invariant
    ∙ ap (map (λ (x : Collection). x.sorting)) c.as_slice-collections.ensures
