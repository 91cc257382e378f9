use Rattle.std.proofs.Common.{◌≡◌, take}
use Rattle.read_record.specs.Stores.{resolved, HasMore}
use Rattle.read_record.proofs.record.Record.number.Given as goal

abbrev pub invariant-loop-place : goal.invariant-loop-place
invariant-loop-place l = (resolved l.store l.numbered ≡ take l.place l.self) × HasMore l.fn.store l.store l.numbered
