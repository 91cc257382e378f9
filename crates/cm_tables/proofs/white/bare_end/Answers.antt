use Rattle.std.proofs.Common.{ap, ◌∙◌}
use Rattle.std.specs.List.{suffix_len}
use Rattle.markdown_grammar.specs.Tables.{is_cell_white}
use Rattle.cm_tables.proofs.WhiteLaws.{white_end_cut}
use Rattle.cm_tables.proofs.white.bare_end.Goals as goal

pub range-requires-clause-end_boundary : goal.range-requires-clause-end_boundary
range-requires-clause-end_boundary c = white_end_cut c.args.text.now c.white_end_len.result (c.white_end_len.ensures.value ∙ ap (suffix_len is_cell_white) c.as_bytes.ensures.value)
