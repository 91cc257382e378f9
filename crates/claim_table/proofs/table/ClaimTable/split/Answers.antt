use Rattle.std.proofs.Common.{◌∙◌, sym, ap}
use Rattle.claim_table.proofs.Keeping.{splits}
use Rattle.claim_table.proofs.table.ClaimTable.split.Goals as goal

pub split_seat-seat-requires : goal.split_seat-seat-requires
split_seat-seat-requires c =
    let t = c.self.inside.table.shared in (
      ap (λ s. s.table) c.seat.view_is ∙ c.requires.table ∙ sym c.self.view_is,
      c.self.invariant.0,
      splits t.key c.seat.inside.seat.id c.seat.inside.seat.me.0,
    )
