use Rattle.std.proofs.Common.{arith, length, sym, ◌<◌, ◌∙◌, ◌≤◌}
use Rattle.cm_inlines.proofs.MachineLaws.{change_past, change_same, change_some}
use Rattle.cm_inlines.proofs.changes.change_at.Goals as goal

pub returns-in-Some : goal.returns-in-Some
returns-in-Some c =
    let lt : c.args.place < length c.args.nodes.now.items = omega (arith, c.len.ensures, c.if-place-len.true, c.args.nodes.now.ok.0) in
    c.put.ensures ∙ change_some c.args.how c.args.place c.args.nodes.now.items c.index.result.now c.in-Some.node lt c.index.ensures c.in-Some.ensures

pub returns-in-None : goal.returns-in-None
returns-in-None c =
    let lt : c.args.place < length c.args.nodes.now.items = omega (arith, c.len.ensures, c.if-place-len.true, c.args.nodes.now.ok.0) in
    change_same c.args.how c.args.place c.args.nodes.now.items c.index.result.now lt c.index.ensures c.in-None.ensures

pub returns-else-place-len : goal.returns-else-place-len
returns-else-place-len c =
    let le : length c.args.nodes.now.items ≤ c.args.place = omega (arith, c.len.ensures, c.if-place-len.false, c.args.nodes.now.ok.0) in
    sym (change_past c.args.how c.args.place _ c.args.nodes.now.items le)
