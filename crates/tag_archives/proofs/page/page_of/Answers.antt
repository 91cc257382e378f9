use Rattle.std.proofs.Common.{◌∙◌, ap, sym}
use Rattle.tag_archives.specs.Gathering.{page_of}
use Rattle.tag_archives.proofs.PageLaws.{still_known}
use Rattle.tag_archives.proofs.page.page_of.Goals as goal

pub returns-in_ok-kept-in-Ok-clause-known : goal.returns-in_ok-kept-in-Ok-clause-known
returns-in_ok-kept-in-Ok-clause-known c = still_known c.args.word c.args.known.now c.kept.new.known c.args.name.now c.in-Ok.page c.requires (ap (page_of c.args.word) (sym c.as_str.ensures) ∙ c.in-Ok.ensures) c.in_ok-kept-in-Ok.ensures.known
