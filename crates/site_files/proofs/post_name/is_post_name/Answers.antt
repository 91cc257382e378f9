use Rattle.std.proofs.Common.{ap, ◌∙◌}
use Rattle.std.proofs.lemmas.Int.{to_z-of_z}
use Rattle.site_files.specs.PostNames.{has_title}
use Rattle.site_files.proofs.Dated.{named_post, not_named_post}
use Rattle.site_files.proofs.post_name.is_post_name.Goals as goal

pub returns-then-has_title : goal.returns-then-has_title
returns-then-has_title c =
    let dated = simp (to_z-of_z, c.ranges.offset) at c.dated_name.ensures.parts in
    named_post c.args.offset c.args.name.now c.stem.ensures.stem (c.has_title.ensures ∙ ap has_title dated) c.if-has_title.true c.extension.ensures

pub returns-else-has_title : goal.returns-else-has_title
returns-else-has_title c =
    let dated = simp (to_z-of_z, c.ranges.offset) at c.dated_name.ensures.parts in
    not_named_post c.args.offset c.args.name.now c.stem.ensures.stem (c.has_title.ensures ∙ ap has_title dated) c.if-has_title.false
