use Rattle.std.proofs.Common.{arith}
use Rattle.std.specs.Option.{option_map}
use Rattle.cm_print.proofs.WordLaws.{described_stays}
use Rattle.cm_print.proofs.inline_place.behind_described.Goals as goal

pub returns-in_default : goal.returns-in_default
returns-in_default c = record {
  place = described_stays (option_map (λ t. t.now) c.args.title) c.args.images c.args.node.now c.in_default.not-OpenImage c.in_default.not-CloseImage;
  images = omega arith;
}
