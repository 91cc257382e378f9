use Rattle.std.proofs.Common.{◌<◌, length, ◌∙◌, arith}
use Rattle.std.proofs.lemmas.Str.{IsCharBoundary-after_ascii}
use Rattle.std.proofs.lemmas.Result.{err_from_is_err_and}
use Rattle.cm_print.proofs.Escapes.{run_refused, run_ends, step_same, reference_refused, small_byte}
use Rattle.cm_print.proofs.writer.Writer.push_escaped.Goals as goal

pub returns-in_err-push : goal.returns-in_err-push
returns-in_err-push c =
    let e = err_from_is_err_and c.from_residual.result c.from_residual.ensures.1 in
    rw (e.1, e.2) (λ long.
    run_refused c.args.escape _ c.loop-rest.rest.now _ c.args.self.now.most c.plain_len-plain.result c.plain_len-plain.ensures.value c.loop-rest.invariant.so_far
    (rw (c.range.ensures.value, c.loop-rest.invariant.most) at (c.in_err-push.ensures long)))

pub returns-then-plain-rest : goal.returns-then-plain-rest
returns-then-plain-rest c = record {
  text = run_ends c.args.escape _ _ c.loop-rest.rest.now _ c.plain_len-plain.result c.plain_len-plain.ensures.value c.if-plain-rest.true c.loop-rest.invariant.so_far (rw c.range.ensures.value at c.in_ok-push.ensures.text);
  most = c.in_ok-push.ensures.most ∙ c.loop-rest.invariant.most;
}

pub returns-in_err-push-2 : goal.returns-in_err-push-2
returns-in_err-push-2 c =
    let e = err_from_is_err_and c.from_residual-in_err-push-2.result c.from_residual-in_err-push-2.ensures.1 in
    rw (e.1, e.2) (λ long.
    let lt : c.plain_len-plain.result < length c.loop-rest.rest.now = let b = c.plain_len-plain.ensures.boundary.0 in omega (arith, b, c.if-plain-rest.false) in
    reference_refused c.args.escape _ _ c.loop-rest.rest.now _ c.reference.result.now c.args.self.now.most c.plain_len-plain.result c.plain_len-plain.ensures.value lt
    (rw c.as_bytes.ensures.value at c.reference.ensures) c.loop-rest.invariant.so_far (rw c.range.ensures.value at c.in_ok-push.ensures.text)
    (rw (c.in_ok-push.ensures.most ∙ c.loop-rest.invariant.most) at (c.in_err-push-2.ensures long)))

pub loop-rest-preserved : goal.loop-rest-preserved
loop-rest-preserved c =
    let lt : c.plain_len-plain.result < length c.loop-rest.rest.now = let b = c.plain_len-plain.ensures.boundary.0 in omega (arith, b, c.if-plain-rest.false) in
    record {
      utf8 = c.range_from-rest.utf8;
      so_far = rw c.range_from-rest.ensures.value
          (step_same c.args.escape _ _ _ c.loop-rest.rest.now _ c.reference.result.now c.plain_len-plain.result c.plain_len-plain.ensures.value lt
          (rw c.as_bytes.ensures.value at c.reference.ensures) c.loop-rest.invariant.so_far (rw c.range.ensures.value at c.in_ok-push.ensures.text) c.in_ok-push-2.ensures.text);
      most = c.in_ok-push-2.ensures.most ∙ c.in_ok-push.ensures.most ∙ c.loop-rest.invariant.most;
    }

pub range_from-rest-requires : goal.range_from-rest-requires
range_from-rest-requires c = λ some.
    let lt : c.plain_len-plain.result < length c.loop-rest.rest.now = let b = c.plain_len-plain.ensures.boundary.0 in omega (arith, b, c.if-plain-rest.false) in
    IsCharBoundary-after_ascii c.loop-rest.rest.now c.plain_len-plain.result c.loop-rest.invariant.utf8 lt (small_byte c.args.escape _ (c.plain_len-plain.ensures.stop lt))
