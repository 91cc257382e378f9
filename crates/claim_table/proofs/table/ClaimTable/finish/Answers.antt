use Rattle.std.proofs.Common.{◌≡◌, ◌<◌, ◌∙◌, sym, ap, subst}
use Rattle.atomic_table.specs.Seated.{TableId}
use Rattle.claim_table.specs.Counts.{times}
use Rattle.claim_table.proofs.Counting.{below_without}
use Rattle.claim_table.proofs.Keeping.{finishes_allowed}
use Rattle.claim_table.proofs.table.ClaimTable.finish.Goals as goal

pub store-requires : goal.store-requires
store-requires c =
    let t = c.self.inside.table.shared in
    let s = c.seat.inside.seat in
    let mine : 0 < times c.args.item s.me.0.mine = rw (ap (λ s. s.mine) c.seat.view_is) c.requires.mine in
    let same : s.table_id ≡ t.table_id = ap (λ s. s.table) c.seat.view_is ∙ c.requires.table ∙ sym c.self.view_is in
    let inside : c.args.item < t.table_id.words = subst (λ (z : TableId). c.args.item < z.words) same (c.seat.invariant.1 c.args.item mine) in
    let item : c.args.item < t.key = rw c.self.invariant.1 inside in
    (same, inside, finishes_allowed t.key t.table_id.slots s.id c.args.item s.me item mine)

pub invariant_of-seat : goal.invariant_of-seat
invariant_of-seat c =
    let s = c.seat.inside.seat in
    let e = c.store.ensures in
    let mine : 0 < times c.args.item s.me.0.mine = rw (ap (λ s. s.mine) c.seat.view_is) c.requires.mine in
    rw (e.2.0, e.0) (c.seat.invariant.0, below_without s.table_id.words c.args.item s.me.0.mine mine c.seat.invariant.1)
