use Rattle.std.proofs.Common.{◌≡◌, ◌∙◌, None, ap, arith, length, sym}
use Rattle.std.specs.FinMap.{insert}
use Rattle.site_base.specs.PathMap.{as_map}
use Rattle.source_tree.specs.Put.{put_refusal}
use Rattle.source_tree.proofs.Holding.{keeps-insert, only_none}
use Rattle.source_tree.proofs.held.Held.put.Goals as goal

pub invariant_of-self-2 : goal.invariant_of-self-2
invariant_of-self-2 c =
    let path = c.args.path in
    let bytes = c.args.bytes.items in
    let none : put_refusal c.args.self.now path bytes ≡ None =
    ap (put_refusal c.args.self.now path) (sym c.deref.ensures.value) ∙ sym c.refusal.ensures ∙ only_none c.refusal.result c.in_default.not-Some in
    keeps-insert _ _ _ _ path bytes c.self.view_is c.self.invariant.1 none
    (omega (arith, c.total_besides.ensures.is, c.len.ensures, c.deref.ensures.len, ap length c.deref.ensures.value))
    (c.in_ok-put.ensures.ok ∙ ap (insert (as_map c.self.inside.files) path) c.in_ok-shared.ensures)
