use Rattle.std.proofs.Common.{arith}
use Rattle.cm_links.proofs.Boundaries.{boundary_mark}
use Rattle.cm_links.proofs.titles.closing_mark.Goals as goal

pub returns-in-34-clause-start : goal.returns-in-34-clause-start
returns-in-34-clause-start c = boundary_mark c.args.text.now _ 34 c.as_bytes-bytes.ensures.utf8 c.as_bytes-bytes.ensures.value c.if-bytes-eq0.false c.in-34.is (omega arith)

pub returns-in-39-clause-start : goal.returns-in-39-clause-start
returns-in-39-clause-start c = boundary_mark c.args.text.now _ 39 c.as_bytes-bytes.ensures.utf8 c.as_bytes-bytes.ensures.value c.if-bytes-eq0.false c.in-39.is (omega arith)

pub returns-in-40-clause-start : goal.returns-in-40-clause-start
returns-in-40-clause-start c = boundary_mark c.args.text.now _ 40 c.as_bytes-bytes.ensures.utf8 c.as_bytes-bytes.ensures.value c.if-bytes-eq0.false c.in-40.is (omega arith)
