use Rattle.std.proofs.Common.{◌∙◌, ap, subst}
use Rattle.link_check.specs.Numbers.{AreNumbered}
use Rattle.link_check.specs.Table.{finished}
use Rattle.link_check.proofs.TableLaws.{finished_numbered, finished_rises, finished_table}
use Rattle.link_check.proofs.table.LinkTable.finish.Goals as goal

pub invariant_of-self : goal.invariant_of-self
invariant_of-self c =
    let old = c.self.inside.pages.items in
    let new = c.keep_offered.new.pages.items in
    record {
      rises = finished_rises old new c.self.invariant.rises c.keep_offered.ensures;
      numbered = finished_numbered c.self.inside.values old new c.self.invariant.numbered c.keep_offered.ensures;
    }

pub forget_unused-requires : goal.forget_unused-requires
forget_unused-requires c = finished_numbered c.self.inside.values c.self.inside.pages.items c.deref.result.now c.self.invariant.numbered (c.deref.ensures.value ∙ c.keep_offered.ensures)

pub invariant_of-self-then-self : goal.invariant_of-self-then-self
invariant_of-self-then-self c =
    record {
      rises = finished_rises c.self.inside.pages.items c.keep_offered.new.pages.items c.self.invariant.rises c.keep_offered.ensures;
      numbered = subst (AreNumbered c.forget_unused.new.self) c.deref.ensures.value c.forget_unused.ensures;
    }

pub returns-then-self : goal.returns-then-self
returns-then-self c = finished_table c.self.inside.pages.items c.keep_offered.new.pages.items c.self.invariant.rises c.keep_offered.ensures ∙ ap finished c.self.view_is

pub returns-else-len-count : goal.returns-else-len-count
returns-else-len-count c = finished_table c.self.inside.pages.items c.keep_offered.new.pages.items c.self.invariant.rises c.keep_offered.ensures ∙ ap finished c.self.view_is
