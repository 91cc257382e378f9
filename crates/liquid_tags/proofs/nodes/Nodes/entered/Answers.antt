use Rattle.std.proofs.Common.{◌≡◌, ◌∙◌, ◌-◌, length, take, drop, ap}
use Rattle.std.proofs.lemmas.List.{take_rest}
use Rattle.liquid_parse.specs.Flat.{tree_of}
use Rattle.liquid_tags.specs.Nodes.{entered}
use Rattle.liquid_tags.proofs.NodeLaws.{entered_flat, entered_tree}
use Rattle.liquid_tags.proofs.nodes.Nodes.entered.Goals as goal

pub invariant_of-result : goal.invariant_of-result
invariant_of-result c =
    let nodes = c.self.inside.nodes.now in
    entered_flat nodes (take (length nodes - 1) (drop 1 nodes)) (take_rest nodes 1) c.self.invariant

pub returns-in-len1-up : goal.returns-in-len1-up
returns-in-len1-up c =
    let nodes = c.self.inside.nodes.now in
    let seen : tree_of nodes ≡ c.args.self.now = cc in
    entered_tree nodes (take (length nodes - 1) (drop 1 nodes)) (take_rest nodes 1) c.self.invariant ∙ ap entered seen
