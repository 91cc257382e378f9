use Rattle.std.proofs.Common.{◌≡◌, drop}
use Rattle.read_record.specs.Noted.{AreRight}
use Rattle.read_record.specs.Records.{first_other_from}
use Rattle.read_record.specs.Stores.{resolved}
use Rattle.read_record.proofs.noting.check_noted.Given as goal

abbrev pub invariant-loop-place : goal.invariant-loop-place
invariant-loop-place g l = record {
  right : AreRight l.store (g.W.World.sight l.world) l.notes;
  so_far : (let view = g.W.World.sight l.world l.reader (g.F.Finished.outcomes l.outs) in
      let reads = resolved l.store l.reads in
      first_other_from 0 reads view ≡ first_other_from l.place (drop l.place reads) view);
}
