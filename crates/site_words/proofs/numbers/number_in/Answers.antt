use Rattle.std.proofs.Common.{sym, ◌∙◌, arith}
use Rattle.site_words.proofs.Numerals.{read_in, unread_in}
use Rattle.site_words.proofs.numbers.number_in.Goals as goal

pub returns-in-Ok-clause-is : goal.returns-in-Ok-clause-is
returns-in-Ok-clause-is c = c.in_range.ensures.is ∙ sym (read_in c.args.least c.args.most c.in-Ok.number c.args.text.now c.in-Ok.ensures.value.0)

pub returns-in-Err-clause-is : goal.returns-in-Err-clause-is
returns-in-Err-clause-is c = sym (unread_in c.args.least c.args.most c.args.text.now (omega arith) c.in-Err.ensures.value.0)
