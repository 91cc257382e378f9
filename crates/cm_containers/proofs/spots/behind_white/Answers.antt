use Rattle.std.proofs.Common.{length, refl, ◌*◌, ◌+◌}
use Rattle.cm_containers.proofs.WhiteSpace.{white_behind}
use Rattle.cm_containers.proofs.spots.behind_white.Goals as goal

pub returns : goal.returns
returns c = white_behind c.args.line.now c.args.from c.shift.result (length c.args.line.now * 4 + 8) refl c.requires c.shift.ensures.spot c.shift.ensures.rest
