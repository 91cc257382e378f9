use Rattle.std.proofs.Common.{subst, ap, ◌∙◌}
use Rattle.liquid_grammar.specs.Pieces.{cut_is, cut_of}
use Rattle.liquid_expr.specs.CutSteps.{left, Cuts}
use Rattle.liquid_expr.specs.declared.cutting.Next.{Next}
use Rattle.liquid_expr.proofs.CutLoop.{closes}
use Rattle.liquid_expr.proofs.cutting.cut_up.Goals as goal

pub returns-in-End : goal.returns-in-End
returns-in-End c =
    let list = c.pieces.list.items in
    let h = subst (λ (n : Next). Cuts n list c.next.new.pieces.items c.pieces.cutter c.next.new.self) c.in-End.is c.in_ok-next.ensures in
    ap (λ ps. cut_is ps c.in-End.unclosed) h.0 ∙ closes list c.in-End.unclosed (left c.pieces.cutter) (cut_of c.args.text.now) h.1 c.pieces.invariant.1
