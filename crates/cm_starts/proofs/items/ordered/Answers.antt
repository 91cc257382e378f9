use Rattle.std.proofs.Common.{◌<◌, arith, get_or}
use Rattle.std.proofs.lemmas.Str.{IsCharBoundary-after_ascii, IsCharBoundary-before_ascii}
use Rattle.cm_starts.proofs.Ends.{mark_ascii}
use Rattle.cm_starts.proofs.Numerals.{not_refused}
use Rattle.cm_starts.proofs.items.ordered.Goals as goal

pub range-requires-clause-end_boundary : goal.range-requires-clause-end_boundary
range-requires-clause-end_boundary c =
    let small : get_or c.as_bytes-bytes.result.now c.class_run-n.result 0 < 128 = omega (arith, mark_ascii c.in-Some.mark, c.in-Some.ensures.same) in
    IsCharBoundary-before_ascii c.args.text.now c.class_run-n.result (omega (arith, c.if-n-text.false, c.as_bytes-bytes.ensures.len, c.class_run-n.ensures.within)) (rw c.as_bytes-bytes.ensures.value at small)

pub range_from-requires : goal.range_from-requires
range_from-requires c some =
    let small : get_or c.as_bytes-bytes.result.now c.class_run-n.result 0 < 128 = omega (arith, mark_ascii c.in-Some.mark, c.in-Some.ensures.same) in
    IsCharBoundary-after_ascii c.args.text.now c.class_run-n.result c.utf8.text (omega (arith, c.if-n-text.false, c.as_bytes-bytes.ensures.len, c.class_run-n.ensures.within)) (rw c.as_bytes-bytes.ensures.value at small)

pub returns-in-Err : goal.returns-in-Err
returns-in-Err c =
    absurd (not_refused c.args.text.now c.range.result.now c.class_run-n.result (rw c.as_bytes-bytes.ensures.value at c.class_run-n.ensures.value) c.range.ensures.value (omega (arith, c.range.ensures.len, c.if-n-eq0.false)) (omega (arith, c.range.ensures.len, c.if-n-gt9.false)) c.in-Err.ensures.value.0)
