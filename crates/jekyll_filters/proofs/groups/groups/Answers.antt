use Rattle.std.proofs.Common.{◌∙◌, sym}
use Rattle.jekyll_filters.proofs.GroupLaws.{next_element}
use Rattle.jekyll_filters.proofs.groups.groups.Goals as goal

pub loop-entry-preserved : goal.loop-entry-preserved
loop-entry-preserved c =
    sym (next_element c.loop-entry.made c.add.new.groups c.args.entries.now c.loop-entry.entry-index c.entry-item.result c.loop-entry-test.true c.entry-item.is c.in_ok-add.ensures)
    ∙ c.loop-entry.invariant
