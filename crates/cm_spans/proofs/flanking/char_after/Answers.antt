use Rattle.std.proofs.Common.{◌∙◌}
use Rattle.cm_spans.proofs.Beside.{after_is}
use Rattle.cm_spans.proofs.flanking.char_after.Goals as goal

pub returns : goal.returns
returns c = c.first_char.ensures ∙ after_is c.args.text.now
