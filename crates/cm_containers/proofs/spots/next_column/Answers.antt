use Rattle.std.proofs.Common.{arith}
use Rattle.cm_containers.proofs.Steps.{takes_space, takes_tab}
use Rattle.cm_containers.proofs.spots.next_column.Goals as goal

pub returns-in-32 : goal.returns-in-32
returns-in-32 c = takes_space c.args.line.now c.args.spot c.behind.result c.utf8.line c.requires (omega (arith, c.requires.within, c.if-spot-bytes.false, c.as_bytes-bytes.ensures.len)) (rw c.as_bytes-bytes.ensures.value at c.in-32.is) c.behind.ensures

pub returns-in-9 : goal.returns-in-9
returns-in-9 c = takes_tab c.args.line.now c.args.spot c.within_tab.result c.utf8.line c.requires (omega (arith, c.requires.within, c.if-spot-bytes.false, c.as_bytes-bytes.ensures.len)) (rw c.as_bytes-bytes.ensures.value at c.in-9.is) c.within_tab.ensures
