use Rattle.std.proofs.Common.{◌<◌, ◌≤◌, arith, length, set, ap, ◌∙◌}
use Rattle.liquid_parse.proofs.Stacks.{set_is, set_beyond}
use Rattle.liquid_parse.proofs.building.set_len.Goals as goal

pub returns-then-place-len : goal.returns-then-place-len
returns-then-place-len c =
    let ns = c.args.nodes.now.items in
    let lt : c.args.place < length ns = omega (arith, c.if-place-len.true, c.len.ensures, c.args.nodes.now.ok.0) in
    ap (set ns c.args.place) c.set_len.ensures ∙ set_is ns c.args.place c.args.len c.index_mut.result.now lt c.index_mut.ensures.value

pub returns-else-place-len : goal.returns-else-place-len
returns-else-place-len c =
    let le : length c.args.nodes.now.items ≤ c.args.place = omega (arith, c.if-place-len.false, c.len.ensures, c.args.nodes.now.ok.0) in
    set_beyond c.args.nodes.now.items c.args.place c.args.len le
