use Rattle.cm_blocks.proofs.LeafTaking.{behind_tab}
use Rattle.cm_blocks.proofs.leaf_lines.LeafLines.with_rest.Goals as goal

pub range_from-requires : goal.range_from-requires
range_from-requires c = λ _. behind_tab c.args.line.now c.args.spot c.utf8.line c.requires c.if-spot.true
