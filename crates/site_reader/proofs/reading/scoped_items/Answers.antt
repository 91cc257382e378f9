use Rattle.std.proofs.lemmas.Int.{to_z-of_z}
use Rattle.site_reader.proofs.reading.scoped_items.Goals as goal

pub returns-in-Err : goal.returns-in-Err
returns-in-Err c = simp (to_z-of_z, c.ranges.now) at c.in-Err.ensures
