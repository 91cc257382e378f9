use Rattle.std.proofs.Common.{Ok}
use Rattle.site_items.specs.Seeking.{ruled_item}
use Rattle.site_reader.specs.Ranks.{in_order, with_item}
use Rattle.site_reader.proofs.EachLaws.{first_told}
use Rattle.site_reader.proofs.items.add_kind.Goals as goal

pub returns-in-Err : goal.returns-in-Err
returns-in-Err c =
    let file = c.args.file.now in
    first_told (ruled_item c.args.rules.now c.args.kind file.path.now file.content) (λ made. Ok (with_item c.args.rules.now.config.now c.args.kind file.path.now made (in_order c.args.items.now.items))) file.path.now c.in-Err.error c.error_at.result c.in-Err.ensures c.error_at.ensures
