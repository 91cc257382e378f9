use Rattle.std.proofs.Common.{ap, ◌∙◌}
use Rattle.std.specs.List.{prefix_len}
use Rattle.markdown_grammar.specs.Tables.{is_cell_white}
use Rattle.cm_tables.proofs.WhiteLaws.{white_cut}
use Rattle.cm_tables.proofs.white.bare_front.Goals as goal

pub range_from-requires : goal.range_from-requires
range_from-requires c = λ _. white_cut c.args.text.now c.white_len.result c.utf8.text (c.white_len.ensures.value ∙ ap (prefix_len is_cell_white) c.as_bytes.ensures.value)
