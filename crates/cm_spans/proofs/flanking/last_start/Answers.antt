use Rattle.std.proofs.Common.{arith, refl, sym, ◌∙◌}
use Rattle.std.proofs.lemmas.Str.{IsCharBoundary-start}
use Rattle.cm_spans.proofs.Beside.{start_here, start_none}
use Rattle.cm_spans.proofs.flanking.last_start.Goals as goal

pub returns-then-is_lead-clause-value : goal.returns-then-is_lead-clause-value
returns-then-is_lead-clause-value c =
    let same = c.as_bytes-bytes.ensures.value in
    start_here c.args.text.now _ c.loop-end.end refl (omega arith) (rw same at c.loop-end.invariant.within) (rw same at (sym c.is_lead.ensures ∙ c.if-is_lead.true)) (rw same at c.loop-end.invariant.so_far)

pub returns-clause-value : goal.returns-clause-value
returns-clause-value c = start_none c.args.text.now c.loop-end.end (omega (arith, c.loop-end-test.false)) (rw c.as_bytes-bytes.ensures.value at c.loop-end.invariant.so_far)

pub returns-clause-cut : goal.returns-clause-cut
returns-clause-cut c = IsCharBoundary-start c.args.text.now c.utf8.text
