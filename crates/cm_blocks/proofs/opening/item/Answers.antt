use Rattle.std.proofs.Common.{arith, refl, ◌+◌}
use Rattle.cm_starts.specs.Marks.{mark_byte}
use Rattle.cm_blocks.proofs.OpeningLaws.{further, item_opens}
use Rattle.cm_blocks.proofs.opening.item.Goals as goal

pub returns : goal.returns
returns c =
    let line = c.args.line.now in
    let s = c.args.spot in
    let w = c.args.white in
    let a = c.behind_mark-after.result in
    let is = c.behind_mark-after.ensures in
    let p = c.padding-padding.result in (
      item_opens line s w a c.shift.result c.as_char.result (mark_byte c.args.mark) c.args.number c.args.digits p _ c.as_char.ensures c.requires.white c.requires.mark c.requires.start is.column is.text c.padding-padding.ensures.value refl c.shift.ensures.rest,
      c.shift.ensures.spot,
      further line s w a c.shift.result (c.args.digits + 1) p c.requires.white (omega arith) is.column c.shift.ensures.rest,
      c.requires.known,
    )
