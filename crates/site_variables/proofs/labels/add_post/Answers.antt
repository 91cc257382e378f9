use Rattle.std.proofs.Common.{◌∙◌, sym}
use Rattle.site_variables.specs.Lists.{named}
use Rattle.site_variables.proofs.LabelLaws.{next_name}
use Rattle.site_variables.proofs.labels.add_post.Goals as goal

pub loop-label-preserved : goal.loop-label-preserved
loop-label-preserved c =
    sym (next_name (named c.args.post.now) c.loop-label.groups c.add_under.new.groups c.labels-label-items.result.now c.loop-label.label-index c.label-item.result c.loop-label-test.true c.label-item.is c.in_ok-add_under.ensures)
    ∙ c.loop-label.invariant
