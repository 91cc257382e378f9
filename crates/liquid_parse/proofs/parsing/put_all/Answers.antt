use Rattle.std.proofs.lemmas.Result.{err_from_is_err_and}
use Rattle.liquid_grammar.specs.declared.piece.Piece.{Piece}
use Rattle.liquid_grammar.specs.declared.piece.PieceKind.TheVariants.{Text}
use Rattle.liquid_expr.proofs.SpanLaws.{span_there}
use Rattle.liquid_parse.specs.Machine.{flat_of, steps}
use Rattle.liquid_parse.proofs.AllPieces.{steps_on, steps_stop, steps_end}
use Rattle.liquid_parse.proofs.parsing.put_all.Goals as goal

abbrev no_piece : Piece
no_piece = record { kind = Text; span = record { start = 0; end = 0 }; inner = record { start = 0; end = 0 }; line = 0 }

pub inside-requires : goal.inside-requires
inside-requires c = span_there c.args.text.now c.args.pieces.now c.loop-piece.piece-index no_piece c.loop-piece-test.true c.requires

pub loop-piece-preserved : goal.loop-piece-preserved
loop-piece-preserved c =
    let text = c.args.text.now in let ps = c.args.pieces.now in
    steps_on text ps c.loop-piece.piece-index no_piece (flat_of c.loop-piece.building) c.loop-piece-test.true c.inside.result.now c.inside.ensures (flat_of c.put.new.building)
    (steps text ps (flat_of c.args.building.now)) c.in_ok-put.ensures c.loop-piece.invariant

pub returns-in_err-put : goal.returns-in_err-put
returns-in_err-put c =
    let text = c.args.text.now in let ps = c.args.pieces.now in
    let e = err_from_is_err_and c.from_residual.result c.from_residual.ensures.1 in
    rw (e.1, e.2)
    (steps_stop text ps c.loop-piece.piece-index no_piece (flat_of c.loop-piece.building) c.loop-piece-test.true c.inside.result.now c.inside.ensures c.in_err-put.field-0.0 (flat_of c.put.new.building) (flat_of c.put.new.building)
    (steps text ps (flat_of c.args.building.now)) c.in_err-put.ensures c.loop-piece.invariant)

pub returns : goal.returns
returns c =
    let text = c.args.text.now in let ps = c.args.pieces.now in
    steps_end text ps c.loop-piece.piece-index (flat_of c.loop-piece.building) (steps text ps (flat_of c.args.building.now)) c.loop-piece-test.false c.loop-piece.invariant
