use Rattle.std.proofs.Common.{◌≡◌, drop, length, take}
use Rattle.std.specs.Map.{values_of}
use Rattle.read_record.proofs.StoreLaws.{Leaves}
use Rattle.memo_table.specs.Stored.{all_reads}
use Rattle.memo_table.proofs.releasing.release_behind.Given as goal

abbrev pub invariant-loop-entries : goal.invariant-loop-entries
invariant-loop-entries g l = record {
  front : take l.first l.entries.entries ≡ take l.first l.fn.entries.entries;
  leaves : Leaves l.fn.store l.store (all_reads (values_of (drop l.first l.entries.entries))) (all_reads (values_of (drop l.first l.fn.entries.entries)));
}

abbrev pub decreases-loop-entries : goal.decreases-loop-entries
decreases-loop-entries g l = length l.entries.entries
