use Rattle.std.proofs.Common.{ap, ◌∙◌}
use Rattle.std.specs.List.{prefix_len}
use Rattle.liquid_grammar.specs.Tags.{is_black}
use Rattle.liquid_expr.proofs.NameLaws.{black_cut}
use Rattle.liquid_expr.proofs.naming.first_word.Goals as goal

pub range-requires-clause-end_boundary : goal.range-requires-clause-end_boundary
range-requires-clause-end_boundary c = black_cut c.stripped_front-behind.result.now c.black_len.result (c.black_len.ensures.value ∙ ap (prefix_len is_black) c.as_bytes.ensures.value)
