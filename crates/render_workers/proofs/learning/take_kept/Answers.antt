use Rattle.std.proofs.Common.{◌≡◌, ◌<◌, ◌∙◌, length, subst, sym}
use Rattle.memo_table.specs.Lending.{EntriesAndWorld}
use Rattle.round_core.specs.Meant.{given_by}
use Rattle.render_workers.specs.Worked.{StaysRight}
use Rattle.render_workers.proofs.WorkerLaws.{takes_kept}
use Rattle.render_workers.proofs.learning.take_kept.Goals as goal

pub take_kept-requires-clause-world : goal.take_kept-requires-clause-world
take_kept-requires-clause-world g c = subst (λ (l : EntriesAndWorld g.row.W.Denot). length c.args.hand.now ≡ length (g.W.World.names l.world)) (sym c.requires.lent) c.requires.room

pub take_kept-requires-clause-item : goal.take_kept-requires-clause-item
take_kept-requires-clause-item g c = subst (λ (l : EntriesAndWorld g.row.W.Denot). c.args.item < length (g.W.World.names l.world)) (sym c.requires.lent) c.requires.item

pub returns-clause-lent : goal.returns-clause-lent
returns-clause-lent g c = c.take_kept.ensures.lent ∙ c.requires.lent

pub returns-clause-hand : goal.returns-clause-hand
returns-clause-hand g c =
    let e = c.take_kept.ensures in
    subst (λ (l : EntriesAndWorld g.row.W.Denot). StaysRight (given_by (g.W.World.names l.world) (g.W.World.sight l.world) g.M.ItemMeaning.item l.entries) c.args.hand.now c.take_kept.new.self) c.requires.lent
    (takes_kept _ _ _ _ _ _ _ e.taken, e.right c.args.lent.now.entries)
