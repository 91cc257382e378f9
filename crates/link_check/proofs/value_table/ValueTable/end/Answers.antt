use Rattle.std.proofs.Common.{◌∙◌, ◌≤◌, List, Option, ap, arith, length, sym, ℕ}
use Rattle.link_check.proofs.NumberLaws.{text_beyond}
use Rattle.link_check.specs.Numbers.{held_at}
use Rattle.link_check.proofs.value_table.ValueTable.end.Goals as goal

pub returns-clause-free : goal.returns-clause-free
returns-clause-free c =
    let slots = c.self.inside.slots.items in
    let place = c.len.result in
    let beyond : length slots ≤ place = omega (arith, c.len.ensures) in
    ap (λ (v : List (Option (List ℕ))). held_at v place) (sym c.self.view_is) ∙ text_beyond slots place beyond
