use Rattle.std.proofs.Common.{arith}
use Rattle.site_text.proofs.Runs.{boundary_byte}
use Rattle.cm_links.proofs.gaps.line_rest.Goals as goal

pub returns-then-as_bytes-n-eq10-clause-boundary : goal.returns-then-as_bytes-n-eq10-clause-boundary
returns-then-as_bytes-n-eq10-clause-boundary c =
    boundary_byte c.args.text.now c.class_len-n.result 10 c.utf8.text (omega (arith, c.class_len-n.ensures.cut.0, c.if-n-text.false)) (rw c.as_bytes.ensures.value at c.if-as_bytes-n-eq10.true) (omega arith)
