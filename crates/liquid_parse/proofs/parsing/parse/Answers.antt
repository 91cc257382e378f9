use Rattle.std.proofs.Common.{◌≡◌, ◌++◌, [], List, Ok, Err, refl, sym, ap, subst, ◌∙◌}
use Rattle.std.proofs.lemmas.Result.{err_from_is_err_and}
use Rattle.liquid_grammar.specs.declared.piece.Piece.{Piece}
use Rattle.liquid_grammar.specs.Pieces.{with_front, cut_from, cut_of}
use Rattle.liquid_grammar.specs.declared.item.Verbatim.TheVariants.{Not}
use Rattle.liquid_grammar.specs.Trees.{Tree}
use Rattle.liquid_expr.specs.CutSteps.{left, AreSpans, Cuts}
use Rattle.liquid_expr.specs.declared.cutting.Next.{Next}
use Rattle.liquid_expr.proofs.CutLoop.{more_front}
use Rattle.liquid_expr.proofs.SpanLaws.{spans_between}
use Rattle.liquid_parse.specs.Machine.{flat_of, steps, finish, Steps}
use Rattle.liquid_parse.proofs.AllPieces.{runs_begin, runs_past, runs_fail, runs_out, fails_end, whole_text}
use Rattle.liquid_parse.proofs.parsing.parse.Goals as goal

pub fronts-init : goal.fronts-init
fronts-init c =
    let text = c.args.text.now in
    let cut = cut_from (left c.new-cutter.result) in
    let all : with_front [] cut ≡ cut_of text = ap cut_from c.new-cutter.ensures.whole in
    (c.new-cutter.ensures.placed, [], all, runs_begin text cut.pieces cut.unclosed (flat_of (record { nodes = c.new.result; stack = c.new-2.result; verbatim = Not })) all (rw (c.new.ensures.items, c.new-2.ensures.items) refl))

pub put_all-requires : goal.put_all-requires
put_all-requires c =
    let text = c.args.text.now in
    let inv = c.fronts.invariant in
    let h = subst (λ (n : Next). Cuts n c.clear.new.self.items c.next.new.pieces.items c.fronts.cutter c.next.new.self) c.in-Pieces.is c.in_ok-next.ensures in
    let is : c.as_slice.result.now ≡ h.0 = c.as_slice.ensures.value ∙ h.1 ∙ ap (λ (xs : List Piece). xs ++ h.0) c.clear.ensures.items in
    let later = cut_from (left c.next.new.self) in
    subst (AreSpans text) (sym is) (spans_between text c.utf8.text inv.1 h.0 later.pieces later.unclosed (ap (with_front inv.1) (sym h.2) ∙ inv.2))

pub fronts-preserved : goal.fronts-preserved
fronts-preserved c =
    let text = c.args.text.now in
    let inv = c.fronts.invariant in
    let f = flat_of c.fronts.building in
    let h = subst (λ (n : Next). Cuts n c.clear.new.self.items c.next.new.pieces.items c.fronts.cutter c.next.new.self) c.in-Pieces.is c.in_ok-next.ensures in
    let is : c.as_slice.result.now ≡ h.0 = c.as_slice.ensures.value ∙ h.1 ∙ ap (λ (xs : List Piece). xs ++ h.0) c.clear.ensures.items in (
      h.3,
      inv.1 ++ h.0,
      more_front inv.1 h.0 (inv.1 ++ h.0) (left c.fronts.cutter) (left c.next.new.self) (cut_of text) refl h.2 inv.2,
      runs_past text (cut_from (left c.fronts.cutter)) (cut_from (left c.next.new.self)) h.0 f h.2 (flat_of c.put_all.new.building) (ap (λ (xs : List Piece). steps text xs f) (sym is) ∙ c.in_ok-put_all-in-Pieces.ensures) inv.3,
    )

pub returns-in_err-put_all-in-Pieces : goal.returns-in_err-put_all-in-Pieces
returns-in_err-put_all-in-Pieces c =
    let text = c.args.text.now in
    let inv = c.fronts.invariant in
    let f = flat_of c.fronts.building in
    let h = subst (λ (n : Next). Cuts n c.clear.new.self.items c.next.new.pieces.items c.fronts.cutter c.next.new.self) c.in-Pieces.is c.in_ok-next.ensures in
    let is : c.as_slice.result.now ≡ h.0 = c.as_slice.ensures.value ∙ h.1 ∙ ap (λ (xs : List Piece). xs ++ h.0) c.clear.ensures.items in
    let e = err_from_is_err_and c.from_residual-in_err-put_all-in-Pieces.result c.from_residual-in_err-put_all-in-Pieces.ensures.1 in
    rw (e.1, e.2)
    (runs_fail text (cut_from (left c.fronts.cutter)) (cut_from (left c.next.new.self)) h.0 f h.2 c.in_err-put_all-in-Pieces.field-0.0 (flat_of c.put_all.new.building)
    (subst (λ (xs : List Piece). Steps {X = Unit {0}} (Err c.in_err-put_all-in-Pieces.field-0.0) (flat_of c.put_all.new.building) (steps text xs f)) is c.in_err-put_all-in-Pieces.ensures) inv.3)

pub returns-in_err-finish-in-End : goal.returns-in_err-finish-in-End
returns-in_err-finish-in-End c =
    let text = c.args.text.now in
    let inv = c.fronts.invariant in
    let f = flat_of c.fronts.building in
    let h = subst (λ (n : Next). Cuts n c.clear.new.self.items c.next.new.pieces.items c.fronts.cutter c.next.new.self) c.in-End.is c.in_ok-next.ensures in
    let open_end = runs_out text (cut_from (left c.fronts.cutter)) inv.1 c.in-End.unclosed f h.1 inv.2 inv.3 in
    let e = err_from_is_err_and c.from_residual-in_err-finish-in-End.result c.from_residual-in_err-finish-in-End.ensures.1 in
    rw (e.1, e.2) (fails_end text c.in_err-finish-in-End.field-0.0 (finish c.in-End.unclosed f.verbatim f) c.in_err-finish-in-End.ensures open_end)

pub from_nodes-requires : goal.from_nodes-requires
from_nodes-requires c =
    let text = c.args.text.now in
    let inv = c.fronts.invariant in
    let f = flat_of c.fronts.building in
    let h = subst (λ (n : Next). Cuts n c.clear.new.self.items c.next.new.pieces.items c.fronts.cutter c.next.new.self) c.in-End.is c.in_ok-next.ensures in
    let open_end = runs_out text (cut_from (left c.fronts.cutter)) inv.1 c.in-End.unclosed f h.1 inv.2 inv.3 in
    (whole_text text c.in_ok-finish-in-End.field-0.items (sym open_end ∙ c.in_ok-finish-in-End.ensures)).1

pub returns-in-End : goal.returns-in-End
returns-in-End c =
    let text = c.args.text.now in
    let inv = c.fronts.invariant in
    let f = flat_of c.fronts.building in
    let h = subst (λ (n : Next). Cuts n c.clear.new.self.items c.next.new.pieces.items c.fronts.cutter c.next.new.self) c.in-End.is c.in_ok-next.ensures in
    let open_end = runs_out text (cut_from (left c.fronts.cutter)) inv.1 c.in-End.unclosed f h.1 inv.2 inv.3 in
    (whole_text text c.in_ok-finish-in-End.field-0.items (sym open_end ∙ c.in_ok-finish-in-End.ensures)).0 ∙ ap (λ (t : Tree). Ok t) (sym c.from_nodes.ensures)
