use Rattle.read_record.proofs.StoreLaws.{Leaves}
use Rattle.read_record.proofs.numbered.NumberedRecord.release.Given as goal

abbrev pub invariant-loop-read : goal.invariant-loop-read
invariant-loop-read l = Leaves l.fn.store l.store l.read-iterator.rest.items l.fn.self
