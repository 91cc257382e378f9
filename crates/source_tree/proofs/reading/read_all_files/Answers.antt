use Rattle.std.proofs.Common.{◌≤◌, ◌∙◌, None, Some, ap, arith, length, sym}
use Rattle.std.specs.FinMap.{keys}
use Rattle.site_base.specs.Faults.{fault_at}
use Rattle.site_base.specs.PathMap.{as_map}
use Rattle.site_base.specs.declared.faults.FaultKind.TheVariants.{SiteTooLong}
use Rattle.source_tree.specs.Limits.{most_files}
use Rattle.source_tree.specs.declared.scan_error.ScanError.TheVariants.{Limit}
use Rattle.source_tree.proofs.AllFiles.{keeps-read, read_rises}
use Rattle.source_tree.proofs.ScanFaults.{fault_long, fault_sum}
use Rattle.source_tree.proofs.Steps.{all_long, all_read, follows-end}
use Rattle.source_tree.proofs.Told.{err_same, named_fault}
use Rattle.source_tree.proofs.reading.read_all_files.Goals as goal

pub returns-in-Err-clause-limit : goal.returns-in-Err-clause-limit
returns-in-Err-clause-limit g c = λ files fault told is.
    let paths = c.in_ok-paths.ensures.listed files told in
    let few : length (keys files) ≤ most_files = omega (arith, c.in_ok-paths.ensures.few, ap length paths) in
    let long = c.in-Err.ensures.limit fault (err_same c.in-Err.error (Limit fault) is) files (c.list_sorted.ensures.same ∙ told) in
    fault_long files _ few long.1 ∙ ap Some (sym long.0)

pub from_rising-requires : goal.from_rising-requires
from_rising-requires g c =
    read_rises c.in_ok-paths.paths.items c.in-Ok.reading.files.items c.in_ok-paths.ensures.rise (follows-end c.in_ok-paths.paths.items c.in-Ok.reading c.in-Ok.ensures.all c.in-None.is)

pub of-requires-clause-total : goal.of-requires-clause-total
of-requires-clause-total g c =
    let paths = c.in_ok-paths in
    let reading = c.in-Ok.reading in
    (keeps-read paths.paths.items reading.files.items (as_map c.from_rising.result) reading.total paths.ensures.rise paths.ensures.few paths.ensures.clash_free
    (follows-end paths.paths.items reading c.in-Ok.ensures.all c.in-None.is) c.from_rising.ensures reading.sum reading.within reading.short).0

pub of-requires-clause-files : goal.of-requires-clause-files
of-requires-clause-files g c =
    let paths = c.in_ok-paths in
    let reading = c.in-Ok.reading in
    (keeps-read paths.paths.items reading.files.items (as_map c.from_rising.result) reading.total paths.ensures.rise paths.ensures.few paths.ensures.clash_free
    (follows-end paths.paths.items reading c.in-Ok.ensures.all c.in-None.is) c.from_rising.ensures reading.sum reading.within reading.short).1

pub returns-in-Some-clause-limit : goal.returns-in-Some-clause-limit
returns-in-Some-clause-limit g c = λ files fault told is.
    let paths = c.in_ok-paths.ensures.listed files told in
    let few : length (keys files) ≤ most_files = omega (arith, c.in_ok-paths.ensures.few, ap length paths) in
    let going = c.in-Ok.ensures.told files (c.list_sorted.ensures.same ∙ told) in
    let path = c.in-Some.path in
    named_fault c.limit.result (fault_at SiteTooLong path) fault _ c.limit.ensures
    (fault_sum files (Some path) few (all_long files c.in-Ok.reading going) (going.over path c.in-Some.is)) is

pub returns-in-None-clause-told : goal.returns-in-None-clause-told
returns-in-None-clause-told g c = λ files told.
    let paths = c.in_ok-paths.ensures.listed files told in
    let few : length (keys files) ≤ most_files = omega (arith, c.in_ok-paths.ensures.few, ap length paths) in
    let reading = c.in-Ok.reading in
    let going = c.in-Ok.ensures.told files (c.list_sorted.ensures.same ∙ told) in
    let rise = read_rises c.in_ok-paths.paths.items reading.files.items c.in_ok-paths.ensures.rise (follows-end c.in_ok-paths.paths.items reading c.in-Ok.ensures.all c.in-None.is) in
    let all = all_read files (as_map c.from_rising.result) reading going c.in-None.is c.from_rising.ensures rise in
    (c.of.ensures ∙ all.0, fault_sum files None few (all_long files reading going) all.1)
