use Rattle.std.proofs.Common.{◌≡◌, ◌∙◌, ap}
use Rattle.std.proofs.lemmas.Result.{IfOk-weaker}
use Rattle.link_check.specs.Notes.{broken_of}
use Rattle.link_check.specs.Table.{broken_in}
use Rattle.link_check.proofs.TableLaws.{broken_table}
use Rattle.link_check.proofs.table.LinkTable.broken.Goals as goal

pub returns : goal.returns
returns g c =
    let has = g.P.Paths.paths c.args.paths.now in
    let base = c.args.base.now in
    let pages = c.self.inside.pages.items in
    IfOk-weaker c.broken_of.result
    (λ list. list ≡ broken_of has base c.deref.result.now)
    (λ list. list ≡ broken_in has base c.args.self.now)
    (λ list is. is ∙ ap (broken_of has base) c.deref.ensures.value ∙ broken_table has base pages c.self.invariant.rises ∙ ap (broken_in has base) c.self.view_is)
    c.broken_of.ensures
