use Rattle.std.proofs.Common.{arith}
use Rattle.std.proofs.lemmas.Result.{err_from_is_err_and}
use Rattle.cm_print.proofs.NodeLaws.{url_refused}
use Rattle.cm_print.proofs.writer.Writer.push_url.Goals as goal

pub returns-in_err-push_url_byte : goal.returns-in_err-push_url_byte
returns-in_err-push_url_byte c =
    let e = err_from_is_err_and c.from_residual.result c.from_residual.ensures.1 in
    rw (e.1, e.2) (λ long.
    rw c.as_bytes-byte-items.ensures.value at (url_refused _ _ c.args.self.now.most _ c.loop-byte.byte-index _ (omega arith) c.loop-byte.invariant.so_far (rw c.loop-byte.invariant.most at (c.in_err-push_url_byte.ensures long))))
