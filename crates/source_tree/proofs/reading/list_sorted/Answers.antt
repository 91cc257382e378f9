use Rattle.std.proofs.Common.{arith}
use Rattle.site_base.specs.Faults.{fault_at}
use Rattle.site_base.specs.declared.faults.FaultKind.TheVariants.{TooManyFiles}
use Rattle.source_tree.proofs.Listed.{clash_free-sorted, listed, rise}
use Rattle.source_tree.proofs.ScanFaults.{too_many}
use Rattle.source_tree.proofs.Told.{named_fault}
use Rattle.source_tree.proofs.reading.list_sorted.Goals as goal

pub returns-clause-rise : goal.returns-clause-rise
returns-clause-rise g c = rise c.in-Ok.paths.items c.sort_unstable.new.self.items c.in-Ok.ensures.lists.differ c.sort_unstable.ensures.permutation c.sort_unstable.ensures.sorted

pub returns-clause-clash_free : goal.returns-clause-clash_free
returns-clause-clash_free g c = clash_free-sorted c.in-Ok.paths.items c.sort_unstable.new.self.items c.in-Ok.ensures.clash_free c.sort_unstable.ensures.permutation

pub returns-clause-listed : goal.returns-clause-listed
returns-clause-listed g c = λ files told.
    listed files c.in-Ok.paths.items c.sort_unstable.new.self.items c.in-Ok.ensures.lists.differ (c.in-Ok.ensures.lists.exact files told) c.sort_unstable.ensures.permutation c.sort_unstable.ensures.sorted

pub returns-then-len-gt-MOST_FILES-clause-limit : goal.returns-then-len-gt-MOST_FILES-clause-limit
returns-then-len-gt-MOST_FILES-clause-limit g c = λ files fault told is.
    let paths = listed files c.in-Ok.paths.items c.sort_unstable.new.self.items c.in-Ok.ensures.lists.differ (c.in-Ok.ensures.lists.exact files told) c.sort_unstable.ensures.permutation c.sort_unstable.ensures.sorted in
    let path = c.swap_remove-path.result in
    named_fault c.limit.result (fault_at TooManyFiles path) fault _ c.limit.ensures
    (too_many files c.sort_unstable.new.self.items path paths (omega (arith, c.len.ensures, c.sort_unstable.new.self.ok.0)) c.swap_remove-path.ensures.value) is
