use Rattle.std.proofs.Common.{arith, length, sym, ◌≡◌}
use Rattle.cm_inlines.proofs.ListLaws.{span_lists}
use Rattle.cm_inlines.proofs.SpanLaws.{reads_bracket, reads_span}
use Rattle.cm_inlines.proofs.reading.read_other.Goals as goal

pub overflow_add-result : goal.overflow_add-result
overflow_add-result c = omega (arith, c.in_ok-n.ensures.value.within, c.as_bytes.ensures.len)

pub returns-then-as_bytes-at-eq93-clause-reads : goal.returns-then-as_bytes-at-eq93-clause-reads
returns-then-as_bytes-at-eq93-clause-reads c =
    reads_bracket c.args.links.now c.args.text.now c.args.at c.args.nodes.now.items c.close_bracket.new.nodes.items c.in_ok-n.n c.requires.inside (rw c.as_bytes.ensures.value at c.if-as_bytes-at-eq93.true) c.in_ok-n.ensures.value

pub returns-clause-reads : goal.returns-clause-reads
returns-clause-reads c =
    reads_span c.args.links.now c.args.text.now c.args.at c.args.nodes.now.items c.push_span.new.nodes.items c.span_at-taken.result c.requires.inside (rw c.as_bytes.ensures.value at c.if-as_bytes-at-eq93.false) c.requires.sound c.span_at-taken.ensures.value c.span_at-taken.ensures.ends c.in_ok-push_span.ensures

pub returns-clause-listed : goal.returns-clause-listed
returns-clause-listed c =
    let size : length c.args.nodes.now.items ≡ c.len.result = omega (arith, c.len.ensures, c.args.nodes.now.ok.0) in
    span_lists c.span_at-taken.result.span c.args.at c.len.result c.args.delimiters.now c.add.new.self c.args.nodes.now.items c.push_span.new.nodes.items c.requires.listed c.in_ok-add.ensures (sym size) c.in_ok-push_span.ensures
