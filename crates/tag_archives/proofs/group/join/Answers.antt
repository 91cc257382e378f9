use Rattle.site_base.specs.Plain.{site_item}
use Rattle.tag_archives.proofs.GroupLaws.{on_ok, joined_back}
use Rattle.tag_archives.proofs.group.join.Goals as goal

pub returns : goal.returns
returns c = on_ok c.put.result (joined_back c.args.groups.now.entries c.take.new.groups.entries c.put.new.groups.entries c.args.page.path c.args.page.slug c.args.title (site_item c.args.post.now.path c.args.post.now.part) c.args.since c.in_ok-old.old c.in_ok-made.made c.in_ok-old.ensures.rest c.in_ok-old.ensures.group c.in_ok-made.ensures) c.put.ensures
