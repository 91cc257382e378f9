use Rattle.std.proofs.Common.{◌≡◌, ◌<◌, ◌∙◌, sym, ap, subst}
use Rattle.atomic_table.specs.Seated.{TableId}
use Rattle.claim_table.specs.Counts.{AllBelow}
use Rattle.claim_table.proofs.Counting.{below_joined}
use Rattle.claim_table.proofs.Keeping.{joins, looks_allowed}
use Rattle.claim_table.proofs.table.ClaimTable.join.Goals as goal

pub join_seat-requires : goal.join_seat-requires
join_seat-requires c =
    let t = c.self.inside.table.shared in (
      ap (λ s. s.table) c.into.view_is ∙ c.requires.into ∙ sym c.self.view_is,
      ap (λ s. s.table) c.from.view_is ∙ c.requires.from ∙ sym c.self.view_is,
      c.from.invariant.0,
      c.self.invariant.0,
      joins t.key c.into.inside.seat.id c.into.inside.seat.me.0 c.from.inside.seat.id c.from.inside.seat.me.0,
    )

pub load-requires : goal.load-requires
load-requires c =
    let t = c.self.inside.table.shared in
    let zero : 0 < t.key = rw c.self.invariant.1 c.self.invariant.0 in
    let e = c.join_seat.ensures in (
      e.0 ∙ ap (λ s. s.table) c.into.view_is ∙ c.requires.into ∙ sym c.self.view_is,
      c.self.invariant.0,
      looks_allowed t.key t.table_id.slots c.join_seat.new.seat.id 0 c.join_seat.new.seat.me zero,
    )

pub invariant_of-into : goal.invariant_of-into
invariant_of-into c =
    let s = c.into.inside.seat in
    let other = c.from.inside.seat in
    let e = c.join_seat.ensures in
    let f = c.load.ensures in
    let same : other.table_id ≡ s.table_id =
    ap (λ s. s.table) c.from.view_is ∙ c.requires.from ∙ sym c.requires.into ∙ sym (ap (λ s. s.table) c.into.view_is) in
    let below : AllBelow s.table_id.words other.me.0.mine = subst (λ (z : TableId). AllBelow z.words other.me.0.mine) same c.from.invariant.1 in
    rw (f.2.0, f.0, e.2, e.0) (c.into.invariant.0, below_joined s.table_id.words s.me.0.mine other.me.0.mine c.into.invariant.1 below)
