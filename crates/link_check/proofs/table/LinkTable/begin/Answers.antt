use Rattle.std.proofs.Common.{◌∙◌, ap}
use Rattle.link_check.specs.Table.{begun}
use Rattle.link_check.proofs.TableLaws.{begun_numbered, begun_rises, begun_table}
use Rattle.link_check.proofs.table.LinkTable.begin.Goals as goal

pub invariant_of-self : goal.invariant_of-self
invariant_of-self c =
    let old = c.self.inside.pages.items in
    let new = c.unoffer.new.pages.items in
    record {
      rises = begun_rises old new c.self.invariant.rises c.unoffer.ensures;
      numbered = begun_numbered c.self.inside.values old new c.self.invariant.numbered c.unoffer.ensures;
    }

pub returns : goal.returns
returns c = begun_table c.self.inside.pages.items c.unoffer.new.pages.items c.self.invariant.rises c.unoffer.ensures ∙ ap begun c.self.view_is
