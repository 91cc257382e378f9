use Rattle.std.proofs.Common.{◌∙◌, ap, map}
use Rattle.tag_archives.specs.Archives.{archives, bounded}
use Rattle.tag_archives.specs.Gathering.{archive_at}
use Rattle.tag_archives.proofs.GatheringLaws.{archives_made, made_within}
use Rattle.tag_archives.proofs.Laws.{are_listed}
use Rattle.tag_archives.proofs.gathering.archives.Goals as goal

pub returns-in-Ok-clause-made : goal.returns-in-Ok-clause-made
returns-in-Ok-clause-made c =
    made_within c.args.word c.args.posts.now c.within_bounds.result (bounded (map archive_at c.in-Ok.groups.entries))
    (archives_made c.args.word c.as_slice.result.now c.in-Ok.groups.entries c.in-Ok.ensures.0 c.in-Ok.ensures.1 ∙ ap (archives c.args.word) c.as_slice.ensures) c.within_bounds.ensures

pub returns-in-Ok-clause-lists : goal.returns-in-Ok-clause-lists
returns-in-Ok-clause-lists c =
    are_listed c.args.word c.args.posts.now c.within_bounds.result
    (made_within c.args.word c.args.posts.now c.within_bounds.result (bounded (map archive_at c.in-Ok.groups.entries))
    (archives_made c.args.word c.as_slice.result.now c.in-Ok.groups.entries c.in-Ok.ensures.0 c.in-Ok.ensures.1 ∙ ap (archives c.args.word) c.as_slice.ensures) c.within_bounds.ensures)
