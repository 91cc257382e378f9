use Rattle.std.proofs.Common.{◌≡◌, ◌<◌, ◌∙◌, sym, ap, subst}
use Rattle.atomic_table.specs.Seated.{TableId}
use Rattle.claim_table.proofs.Counting.{below_claimed, has_claimed}
use Rattle.claim_table.proofs.Keeping.{claims_allowed}
use Rattle.claim_table.proofs.table.ClaimTable.try_claim.Goals as goal
use Rattle.claim_table.proofs.table.ClaimTable.try_claim.Goals.{in-0, in-1, in_default}

pub compare_exchange-found-requires : goal.compare_exchange-found-requires
compare_exchange-found-requires c =
    let t = c.self.inside.table.shared in
    let item : c.args.item < t.key = rw (c.self.invariant.1, c.self.view_is) c.requires.item in (
      ap (λ s. s.table) c.seat.view_is ∙ c.requires.table ∙ sym c.self.view_is,
      rw c.self.view_is c.requires.item,
      claims_allowed t.key t.table_id.slots c.seat.inside.seat.id c.args.item c.seat.inside.seat.me item,
    )

pub invariant_of-seat : goal.invariant_of-seat
invariant_of-seat c =
    let s = c.seat.inside.seat in
    let found = c.compare_exchange-found.result in
    let e = c.compare_exchange-found.ensures in
    let table : s.table_id ≡ c.args.self.now = ap (λ s. s.table) c.seat.view_is ∙ c.requires.table in
    let inside : c.args.item < s.table_id.words = subst (λ (z : TableId). c.args.item < z.words) (sym table) c.requires.item in
    rw (e.2.1.0, e.0) (c.seat.invariant.0, below_claimed s.table_id.words found c.args.item s.me.0.mine inside c.seat.invariant.1)

pub returns-clause-mine : goal.returns-clause-mine
returns-clause-mine c = λ is.
    let s = c.seat.inside.seat in
    let found = c.compare_exchange-found.result in
    let e = c.compare_exchange-found.ensures in
    let free : found ≡ 0 = elim c.match-found.branch [
      | in-0 w ↦ w.in-0.is
      | in-1 w ↦ (let h = sym w.result-is ∙ is in cc)
      | in_default w ↦ (let h = sym w.result-is ∙ is in cc)
    ]
    in
    rw e.2.1.0 (has_claimed found c.args.item s.me.0.mine free)
