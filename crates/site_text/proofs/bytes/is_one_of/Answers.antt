use Rattle.std.proofs.Common.{◌∙◌}
use Rattle.site_text.proofs.Words.{any_is}
use Rattle.site_text.proofs.bytes.is_one_of.Goals as goal

pub returns : goal.returns
returns c = c.contains.ensures.value ∙ any_is c.args.c c.args.listed.now
