use Rattle.std.proofs.Common.{◌∙◌}
use Rattle.link_check.proofs.NumberLaws.{texts_pages, used_pages}
use Rattle.link_check.specs.Numbers.{texts_of}
use Rattle.link_check.proofs.value_table.ValueTable.forget_unused.Goals as goal

pub returns : goal.returns
returns c =
    let marked = c.mark_pages.new.slots.items in
    let pages = c.args.pages.now in
    used_pages marked c.sweep.new.slots.items c.sweep.ensures.kept pages c.mark_pages.ensures.safe
    (texts_pages c.args.self.now (texts_of marked) (c.mark_pages.ensures.same.texts ∙ c.unmark.ensures ∙ c.self.view_is) pages c.requires)
