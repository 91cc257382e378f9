use Rattle.std.proofs.Common.{◌-◌, arith, length, take, drop}
use Rattle.liquid_parse.proofs.Walking.{first_in, behind_first}
use Rattle.liquid_parse.proofs.template.first_of.Goals as goal

pub split_at-requires : goal.split_at-requires
split_at-requires c =
    let nodes = c.args.nodes.now in
    let p = first_in nodes (take (length nodes - 1) (drop 1 nodes)) c.node-item.result c.node-item.result (omega (arith, c.in-len1-up.len_at_least)) c.node-item.is (behind_first nodes) c.requires in
    rw c.len_of.ensures p.0

pub returns-in-len1-up-clause-some : goal.returns-in-len1-up-clause-some
returns-in-len1-up-clause-some c =
    let nodes = c.args.nodes.now in
    let p = first_in nodes (take (length nodes - 1) (drop 1 nodes)) c.node-item.result c.node-item.result (omega (arith, c.in-len1-up.len_at_least)) c.node-item.is (behind_first nodes) c.requires in
    rw (c.split_at.ensures.front, c.split_at.ensures.back, c.len_of.ensures) p.1
