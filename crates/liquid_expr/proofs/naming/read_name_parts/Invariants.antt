use Rattle.std.proofs.Common.{◌≡◌, drop}
use Rattle.liquid_grammar.specs.Pieces.{cut_of}
use Rattle.liquid_grammar.specs.Tags.{name_parts, parts_of_cut}
use Rattle.liquid_expr.proofs.NameLaws.{with_parts}
use Rattle.liquid_expr.proofs.naming.read_name_parts.Given as goal

abbrev pub invariant-loop-piece : goal.invariant-loop-piece
invariant-loop-piece l = with_parts l.parts.items (name_parts l.text (cut_of l.text).unclosed (drop l.piece-index l.piece-items)) ≡ parts_of_cut l.text (cut_of l.text)
