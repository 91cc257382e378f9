use Rattle.std.proofs.Common.{◌∙◌, ap}
use Rattle.liquid_parse.specs.Flat.{tree_of}
use Rattle.liquid_parse.specs.FlatLaws.{tree_of-flat}
use Rattle.liquid_tags.proofs.nodes.Nodes.of_shared.Goals as goal

pub returns : goal.returns
returns c = ap tree_of c.nodes.ensures.nodes ∙ tree_of-flat c.args.template.now
