use Rattle.std.proofs.Common.{◌∙◌, ap}
use Rattle.link_check.specs.Links.{comment_end, up_to}
use Rattle.link_check.proofs.Comments.{comment_cut}
use Rattle.link_check.proofs.finding.comment_len.Goals as goal

pub returns-clause-cut : goal.returns-clause-cut
returns-clause-cut c = comment_cut c.args.text.now c.up_to.result c.utf8.text (c.up_to.ensures ∙ ap (up_to comment_end) c.as_bytes.ensures.value)
