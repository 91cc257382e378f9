use Rattle.link_check.proofs.NumberLaws.{numbered_at}
use Rattle.link_check.proofs.notes.broken_of.Goals as goal

pub push_page-requires-clause-numbered : goal.push_page-requires-clause-numbered
push_page-requires-clause-numbered g c = numbered_at c.args.values.now c.args.pages.now c.loop-entry.entry-index c.entry-item.result c.requires c.loop-entry-test.true c.entry-item.is
