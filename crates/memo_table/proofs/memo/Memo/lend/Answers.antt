use Rattle.memo_table.proofs.StoredLaws.{lent_of}
use Rattle.memo_table.proofs.memo.Memo.lend.Goals as goal

pub new-requires : goal.new-requires
new-requires g c = lent_of g.M.ItemMeaning.item c.self.inside.store c.self.inside.entries.entries c.self.inside.replaced.items c.self.invariant
