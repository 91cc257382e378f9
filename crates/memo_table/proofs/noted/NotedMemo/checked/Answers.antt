use Rattle.memo_table.proofs.StoredLaws.{lent_of}
use Rattle.memo_table.proofs.noted.NotedMemo.checked.Goals as goal

pub checked_in-requires-clause-lent : goal.checked_in-requires-clause-lent
checked_in-requires-clause-lent g c = lent_of g.M.ItemMeaning.item c.self.inside.store c.self.inside.entries.entries c.self.inside.replaced.items c.self.invariant.0
