use Rattle.std.proofs.Common.{◌∙◌, ap, sym}
use Rattle.link_check.specs.Tags.{begins_attribute}
use Rattle.link_check.proofs.Cuts.{attribute_cut, start_cut}
use Rattle.link_check.proofs.tags.attribute_name_len.Goals as goal

pub returns-then-not-begins_attribute-clause-cut : goal.returns-then-not-begins_attribute-clause-cut
returns-then-not-begins_attribute-clause-cut c = start_cut c.args.text.now c.utf8.text

pub range_from-requires : goal.range_from-requires
range_from-requires c = λ lt. attribute_cut c.args.text.now c.utf8.text (ap begins_attribute (sym c.byte_at.ensures) ∙ sym c.begins_attribute.ensures ∙ c.if-not-begins_attribute.false)
