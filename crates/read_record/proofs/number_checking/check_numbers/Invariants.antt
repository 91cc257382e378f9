use Rattle.std.proofs.Common.{◌≡◌, drop}
use Rattle.read_record.specs.Stores.{resolved}
use Rattle.read_record.specs.Records.{first_other_from}
use Rattle.read_record.proofs.number_checking.check_numbers.Given as goal

abbrev pub invariant-loop-place : goal.invariant-loop-place
invariant-loop-place g l =
    (let view = g.W.World.sight l.world l.reader (g.F.Finished.outcomes l.outs) in
    let reads = resolved l.store l.reads in
    first_other_from 0 reads view ≡ first_other_from l.place (drop l.place reads) view)
