use Rattle.std.proofs.Common.{ap, ◌∙◌}
use Rattle.liquid_grammar.specs.Pieces.{white_len}
use Rattle.liquid_expr.proofs.NameLaws.{white_cut}
use Rattle.liquid_expr.proofs.naming.stripped_front.Goals as goal

pub range_from-requires : goal.range_from-requires
range_from-requires c = λ _. white_cut c.args.text.now c.white_len.result c.utf8.text (c.white_len.ensures.value ∙ ap white_len c.as_bytes.ensures.value)
