use Rattle.std.proofs.Common.{◌≡◌, ◌+◌, Some, None, Ok, get_or, drop, sym, ap, ◌∙◌}
use Rattle.std.proofs.lemmas.Result.{err_from_is_err_and}
use Rattle.liquid_grammar.specs.declared.piece.Piece.{Piece}
use Rattle.liquid_grammar.specs.declared.piece.PieceKind.TheVariants.{Text}
use Rattle.liquid_grammar.specs.Pieces.{Cut, cut_is, cut_of}
use Rattle.liquid_grammar.specs.Tags.{name_parts, parts_of_cut, part_of, inside}
use Rattle.liquid_expr.proofs.SpanLaws.{span_at}
use Rattle.liquid_expr.proofs.NameLaws.{with_parts, part_on, part_stops, parts_end, parts_open, parts_begin, some_text}
use Rattle.liquid_expr.proofs.naming.read_name_parts.Goals as goal

abbrev no_piece : Piece
no_piece = record { kind = Text; span = record { start = 0; end = 0 }; inner = record { start = 0; end = 0 }; line = 0 }

pub inside-requires : goal.inside-requires
inside-requires c =
    let list = c.deref-piece-items.result.now in
    let is : cut_is list c.in_ok-pieces.pieces.unclosed ≡ cut_of c.args.text.now = ap (λ ps. cut_is ps c.in_ok-pieces.pieces.unclosed) c.deref-piece-items.ensures.value ∙ c.in_ok-pieces.ensures in
    span_at c.args.text.now c.utf8.text list c.in_ok-pieces.pieces.unclosed c.loop-piece.piece-index no_piece is c.loop-piece-test.true

pub loop-piece-init : goal.loop-piece-init
loop-piece-init c =
    let list = c.deref-piece-items.result.now in
    let is : cut_is list c.in_ok-pieces.pieces.unclosed ≡ cut_of c.args.text.now = ap (λ ps. cut_is ps c.in_ok-pieces.pieces.unclosed) c.deref-piece-items.ensures.value ∙ c.in_ok-pieces.ensures in
    ap (λ front. with_parts front (name_parts c.args.text.now (cut_of c.args.text.now).unclosed list)) c.new-parts.ensures.items ∙ parts_begin c.args.text.now list c.in_ok-pieces.pieces.unclosed is

pub loop-piece-preserved : goal.loop-piece-preserved
loop-piece-preserved c =
    let text = c.args.text.now in
    let list = c.deref-piece-items.result.now in
    let i = c.loop-piece.piece-index in
    let p = get_or list i no_piece in
    let said : part_of p.kind (inside text p.inner) ≡ Ok c.in_ok-part.field-0 = ap (part_of p.kind) (sym c.inside.ensures) ∙ c.in_ok-part.ensures in
    ap (λ front. with_parts front (name_parts text (cut_of text).unclosed (drop (i + 1) list))) c.in_ok-push.ensures.items
    ∙ part_on text (cut_of text).unclosed list (parts_of_cut text (cut_of text)) no_piece c.loop-piece.parts.items i c.in_ok-part.field-0 c.loop-piece-test.true said c.loop-piece.invariant

pub returns-in_err-part : goal.returns-in_err-part
returns-in_err-part c =
    let text = c.args.text.now in
    let list = c.deref-piece-items.result.now in
    let i = c.loop-piece.piece-index in
    let p = get_or list i no_piece in
    let e = err_from_is_err_and c.from_residual-in_err-part.result c.from_residual-in_err-part.ensures.1 in
    rw (e.1, e.2, some_text text (sym c.is_empty.ensures ∙ c.if-is_empty.false))
    (part_stops text (cut_of text).unclosed list (parts_of_cut text (cut_of text)) no_piece c.loop-piece.parts.items i c.in_err-part.field-0.0 c.inside.result.now c.inside.ensures c.loop-piece-test.true c.in_err-part.ensures c.loop-piece.invariant)

pub returns-in-Some : goal.returns-in-Some
returns-in-Some c =
    let text = c.args.text.now in
    let list = c.deref-piece-items.result.now in
    let open_line : (cut_of text).unclosed ≡ Some c.in-Some.field-0 = ap (λ (x : Cut). x.unclosed) (sym c.in_ok-pieces.ensures) ∙ c.in-Some.is in
    let told : with_parts c.loop-piece.parts.items (name_parts text (Some c.in-Some.field-0) (drop c.loop-piece.piece-index list)) ≡ parts_of_cut text (cut_of text) = ap (λ u. with_parts c.loop-piece.parts.items (name_parts text u (drop c.loop-piece.piece-index list))) (sym open_line) ∙ c.loop-piece.invariant in
    some_text text (sym c.is_empty.ensures ∙ c.if-is_empty.false) ∙ parts_open text c.in-Some.field-0 list (parts_of_cut text (cut_of text)) c.loop-piece.parts.items c.loop-piece.piece-index c.loop-piece-test.false told

pub returns : goal.returns
returns c =
    let text = c.args.text.now in
    let list = c.deref-piece-items.result.now in
    let closed : (cut_of text).unclosed ≡ None = ap (λ (x : Cut). x.unclosed) (sym c.in_ok-pieces.ensures) ∙ c.in-None.is in
    let told : with_parts c.loop-piece.parts.items (name_parts text None (drop c.loop-piece.piece-index list)) ≡ parts_of_cut text (cut_of text) = ap (λ u. with_parts c.loop-piece.parts.items (name_parts text u (drop c.loop-piece.piece-index list))) (sym closed) ∙ c.loop-piece.invariant in
    some_text text (sym c.is_empty.ensures ∙ c.if-is_empty.false) ∙ parts_end text list (parts_of_cut text (cut_of text)) c.loop-piece.parts.items c.loop-piece.piece-index c.loop-piece-test.false told ∙ ap (λ x. Ok x) (sym c.fitted.ensures)
