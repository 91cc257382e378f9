use Rattle.std.proofs.Common.{arith, map}
use Rattle.std.proofs.lemmas.Int.{to_z-of_z}
use Rattle.std.proofs.lemmas.List.{length-map}
use Rattle.site_reader.specs.Placing.{seen}
use Rattle.site_reader.proofs.ItemLaws.{items_few}
use Rattle.site_reader.proofs.reading.placed_site.Goals as goal

pub paginated-requires-clause-few : goal.paginated-requires-clause-few
paginated-requires-clause-few c =
    omega (
      arith,
      c.requires.few,
      length-map c.args.files.now seen,
      items_few c.args.config c.args.now c.args.future (map seen c.args.files.now) c.in_ok-items.items (simp (to_z-of_z, c.ranges.now) at c.in_ok-items.ensures),
    )
