use Rattle.std.proofs.Common.{arith, drop, reverse, subst, take, ℕ, ◌==◌, ◌≡◌}
use Rattle.site_text.specs.Fronts.{run_len}
use Rattle.cm_spans.specs.Pieces.{mark_byte}
use Rattle.cm_spans.proofs.Runs.{marks_are, marks_end}
use Rattle.cm_spans.proofs.spans.marks.Goals as goal

pub returns-clause-value : goal.returns-clause-value
returns-clause-value c =
    let len = subst (λ (b : ℕ). c.run-len.result ≡ run_len (λ d. d == b) c.range_from-rest.result.now) c.byte.ensures.value c.run-len.ensures.value in
    marks_are c.marks_between.result (mark_byte c.args.mark) c.run-len.result c.char_before-before.result c.char_after-after.result (reverse (take c.args.at c.args.text.now)) (drop c.args.at c.args.text.now) c.range_from-rest.result.now c.range_from.result.now
    c.marks_between.ensures len c.range_from-rest.ensures.value c.char_before-before.ensures c.char_after-after.ensures c.range_from.ensures.value

pub returns-clause-ends : goal.returns-clause-ends
returns-clause-ends c =
    let len = subst (λ (b : ℕ). c.run-len.result ≡ run_len (λ d. d == b) c.range_from-rest.result.now) c.byte.ensures.value c.run-len.ensures.value in
    marks_end (drop c.args.at c.args.text.now) c.range_from-rest.result.now (mark_byte c.args.mark) c.run-len.result c.range_from-rest.utf8 c.range_from-rest.ensures.value c.requires.some
    (omega (arith, c.byte.ensures.some, c.byte.ensures.value)) (omega (arith, c.byte.ensures.ascii, c.byte.ensures.value)) len
