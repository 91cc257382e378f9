use Rattle.std.proofs.Common.{◌∙◌, ap, sym}
use Rattle.site_text.specs.Bytes.{is_letter}
use Rattle.link_check.proofs.Cuts.{letter_cut, start_cut}
use Rattle.link_check.proofs.tags.tag_name_len.Goals as goal

pub returns-then-not-is_letter-clause-cut : goal.returns-then-not-is_letter-clause-cut
returns-then-not-is_letter-clause-cut c = start_cut c.args.text.now c.utf8.text

pub range_from-requires : goal.range_from-requires
range_from-requires c = λ lt. letter_cut c.args.text.now c.utf8.text (ap is_letter (sym c.byte_at.ensures) ∙ sym c.is_letter.ensures ∙ c.if-not-is_letter.false)
