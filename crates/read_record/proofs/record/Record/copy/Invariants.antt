use Rattle.std.proofs.Common.{◌≡◌, take}
use Rattle.read_record.proofs.record.Record.copy.Given as goal

abbrev pub invariant-loop-place : goal.invariant-loop-place
invariant-loop-place l = l.reads.items ≡ take l.place l.self
