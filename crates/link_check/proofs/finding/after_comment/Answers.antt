use Rattle.std.proofs.Common.{◌∙◌, sym}
use Rattle.link_check.proofs.LinkLaws.{comment_found, nothing_found}
use Rattle.link_check.proofs.finding.after_comment.Goals as goal

pub returns-in-None-clause-found : goal.returns-in-None-clause-found
returns-in-None-clause-found c = nothing_found ∙ comment_found c.args.text.now c.comment_len.result c.in-None.is (sym c.comment_len.ensures.value)
