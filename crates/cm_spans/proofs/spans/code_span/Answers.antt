use Rattle.std.proofs.Common.{arith, drop, refl, ◌<◌}
use Rattle.cm_spans.proofs.Runs.{run_ends, run_some}
use Rattle.cm_spans.proofs.Spaced.{span_cuts}
use Rattle.cm_spans.proofs.spans.code_span.Goals as goal

pub range-requires-clause-start_le_end : goal.range-requires-clause-start_le_end
range-requires-clause-start_le_end c =
    let some : 0 < c.run-n.result = omega (arith, c.run-n.ensures.value, run_some 96 c.args.text.now c.requires.start (omega arith)) in
    (span_cuts c.args.text.now (drop c.run-n.result c.args.text.now) c.run-n.result c.in-Some.k c.utf8.text c.run-n.ensures.value some refl c.in-Some.ensures.value).order

pub range-requires-clause-end_boundary : goal.range-requires-clause-end_boundary
range-requires-clause-end_boundary c =
    let some : 0 < c.run-n.result = omega (arith, c.run-n.ensures.value, run_some 96 c.args.text.now c.requires.start (omega arith)) in
    (span_cuts c.args.text.now (drop c.run-n.result c.args.text.now) c.run-n.result c.in-Some.k c.utf8.text c.run-n.ensures.value some refl c.in-Some.ensures.value).back

pub returns-in-Some-clause-ends : goal.returns-in-Some-clause-ends
returns-in-Some-clause-ends c =
    let some : 0 < c.run-n.result = omega (arith, c.run-n.ensures.value, run_some 96 c.args.text.now c.requires.start (omega arith)) in
    (span_cuts c.args.text.now (drop c.run-n.result c.args.text.now) c.run-n.result c.in-Some.k c.utf8.text c.run-n.ensures.value some refl c.in-Some.ensures.value).ends

pub returns-in-None-clause-ends : goal.returns-in-None-clause-ends
returns-in-None-clause-ends c =
    let some : 0 < c.run-n.result = omega (arith, c.run-n.ensures.value, run_some 96 c.args.text.now c.requires.start (omega arith)) in
    run_ends 96 c.args.text.now c.run-n.result c.utf8.text c.run-n.ensures.value some (omega arith)
