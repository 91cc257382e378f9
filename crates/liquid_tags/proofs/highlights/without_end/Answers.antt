use Rattle.std.proofs.Common.{ap, ◌∙◌}
use Rattle.std.specs.List.{suffix_len}
use Rattle.liquid_tags.specs.Highlights.{is_line_end}
use Rattle.liquid_tags.proofs.HighlightLaws.{end_cut}
use Rattle.liquid_tags.proofs.highlights.without_end.Goals as goal

pub range-requires-clause-end_boundary : goal.range-requires-clause-end_boundary
range-requires-clause-end_boundary c = end_cut c.args.text.now c.end_len.result (c.end_len.ensures.value ∙ ap (suffix_len is_line_end) c.as_bytes.ensures.value)
