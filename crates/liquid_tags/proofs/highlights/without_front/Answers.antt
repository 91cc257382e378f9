use Rattle.std.proofs.Common.{ap, ◌∙◌}
use Rattle.std.specs.List.{prefix_len}
use Rattle.liquid_tags.specs.Highlights.{is_line_end}
use Rattle.liquid_tags.proofs.HighlightLaws.{front_cut}
use Rattle.liquid_tags.proofs.highlights.without_front.Goals as goal

pub range_from-requires : goal.range_from-requires
range_from-requires c = λ _. front_cut c.args.text.now c.front_len.result c.utf8.text (c.front_len.ensures.value ∙ ap (prefix_len is_line_end) c.as_bytes.ensures.value)
