use Rattle.cm_containers.specs.Spots.{text_at}
use Rattle.cm_starts.specs.Marks.{mark_byte}
use Rattle.cm_blocks.proofs.OpeningLaws.{item_marked}
use Rattle.cm_blocks.proofs.opening.what_opens.Goals as goal

pub item-requires-clause-mark : goal.item-requires-clause-mark
item-requires-clause-mark c =
    let t = text_at c.args.line.now c.args.spot in
    item_marked c.args.spot.column c.behind_white-white.result.at (mark_byte c.in-Item.mark) c.in-Item.number c.in-Item.digits t c.args.line.now c.in-Item.ensures c.behind_white-white.ensures.rest
