use Rattle.std.proofs.Common.{sym, ◌∙◌}
use Rattle.cm_containers.specs.Spots.{text_at}
use Rattle.cm_blocks.specs.Leaves.{holds_text}
use Rattle.cm_blocks.proofs.LeafTaking.{next_same}
use Rattle.cm_blocks.proofs.leaf_more.next_line.Goals as goal

pub returns-then-not-is_underline : goal.returns-then-not-is_underline
returns-then-not-is_underline c = next_same (holds_text c.args.text.now) c.args.spot.column (text_at c.args.line.now c.args.spot) c.next_in-next.result c.next_in-next.ensures (sym c.is_underline.ensures ∙ c.if-not-is_underline.true)
