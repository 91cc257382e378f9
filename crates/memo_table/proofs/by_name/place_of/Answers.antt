use Rattle.memo_table.proofs.PlaceLaws.{stands}
use Rattle.memo_table.proofs.by_name.place_of.Goals as goal

pub returns : goal.returns
returns g c =
    stands c.args.values.now.entries c.args.name.now c.get_index_of.result c.get_index_of.ensures.index c.get_index_of.ensures.found c.get_index_of.ensures.within c.get_index_of.ensures.value
