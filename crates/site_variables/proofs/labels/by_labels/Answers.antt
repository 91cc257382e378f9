use Rattle.std.proofs.Common.{◌∙◌}
use Rattle.site_base.specs.View.{pairs_of}
use Rattle.site_variables.specs.Lists.{posts}
use Rattle.site_variables.proofs.LabelLaws.{gathered_in}
use Rattle.site_variables.proofs.labels.by_labels.Goals as goal

pub returns : goal.returns
returns c =
    gathered_in c.args.key.now (posts c.args.items.now) (pairs_of c.as_slice.result.now) c.newest_first.result (c.as_slice.ensures ∙ c.in_ok-groups.ensures) c.newest_first.ensures
