use Rattle.std.proofs.Common.{◌∙◌, arith}
use Rattle.std.proofs.lemmas.Result.{err_from_is_err_and}
use Rattle.cm_print.proofs.NodeLaws.{mark_refused, mark_step}
use Rattle.cm_spans.specs.Pieces.{mark_byte}
use Rattle.cm_print.proofs.writer.Writer.push_marks.Goals as goal

pub returns-in_err-push_mark : goal.returns-in_err-push_mark
returns-in_err-push_mark c =
    let e = err_from_is_err_and c.from_residual.result c.from_residual.ensures.1 in
    rw (e.1, e.2) (λ long.
    mark_refused _ _ c.args.self.now.most c.args.len c.loop-place.place (mark_byte c.args.mark) (omega arith) c.loop-place.invariant.so_far (rw c.loop-place.invariant.most at (c.in_err-push_mark.ensures long)))

pub loop-place-preserved : goal.loop-place-preserved
loop-place-preserved c = record {
  so_far = mark_step _ _ _ c.args.len c.loop-place.place (mark_byte c.args.mark) (omega arith) c.loop-place.invariant.so_far c.in_ok-push_mark.ensures.text;
  most = c.in_ok-push_mark.ensures.most ∙ c.loop-place.invariant.most;
}
