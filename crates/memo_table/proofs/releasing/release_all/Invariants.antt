use Rattle.std.proofs.Common.{vec_len}
use Rattle.read_record.proofs.StoreLaws.{Leaves}
use Rattle.memo_table.specs.Stored.{all_reads}
use Rattle.memo_table.proofs.releasing.release_all.Given as goal

abbrev pub invariant-loop-entry : goal.invariant-loop-entry
invariant-loop-entry g l = Leaves l.fn.store l.store (all_reads l.entries.items) (all_reads l.fn.entries.items)

abbrev pub decreases-loop-entry : goal.decreases-loop-entry
decreases-loop-entry g l = vec_len l.entries
