use Rattle.std.proofs.Common.{◌∙◌, ap, arith, sym}
use Rattle.std.specs.FinMap.{len, remove}
use Rattle.std.specs.Option.{option_copied}
use Rattle.site_base.specs.Places.{Files}
use Rattle.source_tree.proofs.Holding.{len-absent, len-there}
use Rattle.source_tree.proofs.held.Held.len_besides.Goals as goal

pub overflow_sub-result : goal.overflow_sub-result
overflow_sub-result c = omega (arith, len-there _ _ _ (sym c.get.ensures ∙ ap option_copied c.in-Some.is), c.len.ensures)

pub returns-in-Some : goal.returns-in-Some
returns-in-Some c =
    omega (arith, len-there _ _ _ (sym c.get.ensures ∙ ap option_copied c.in-Some.is), c.len.ensures)
    ∙ ap (λ (m : Files). len (remove m c.args.path.now)) c.self.view_is

pub returns-in-None : goal.returns-in-None
returns-in-None c =
    c.len-in-None.ensures ∙ sym (len-absent _ _ (sym c.get.ensures ∙ ap option_copied c.in-None.is))
    ∙ ap (λ (m : Files). len (remove m c.args.path.now)) c.self.view_is
