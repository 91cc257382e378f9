use Rattle.std.proofs.Common.{◌<◌, arith, get_or}
use Rattle.std.proofs.lemmas.Str.{IsCharBoundary-after_ascii}
use Rattle.cm_starts.proofs.Ends.{mark_ascii}
use Rattle.cm_starts.proofs.items.list_mark.Goals as goal

pub range_from-requires : goal.range_from-requires
range_from-requires c some =
    let small : get_or c.as_bytes-bytes.result.now 0 0 < 128 = omega (arith, mark_ascii c.in-Some.mark, c.in-Some.ensures.same) in
    IsCharBoundary-after_ascii c.args.text.now 0 c.utf8.text (omega (arith, c.if-bytes-eq0.false, c.as_bytes-bytes.ensures.len)) (rw c.as_bytes-bytes.ensures.value at small)
