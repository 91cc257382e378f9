use Rattle.std.proofs.Common.{◌≡◌, ◌∙◌, ap}
use Rattle.liquid_parse.specs.Flat.{tree_of}
use Rattle.liquid_tags.proofs.NodeLaws.{tree_of-none}
use Rattle.liquid_tags.proofs.nodes.Nodes.first.Goals as goal

pub returns-in-None : goal.returns-in-None
returns-in-None c =
    let seen : c.args.self.now ≡ tree_of c.self.inside.nodes.now = cc in
    seen ∙ ap tree_of c.in-None.ensures.none ∙ tree_of-none
