use Rattle.std.proofs.Common.{◌∙◌, ◌<◌, ◌≤◌, List, Option, ℕ, ap, arith, length, sym}
use Rattle.link_check.proofs.NumberLaws.{shown, text_beyond, text_read}
use Rattle.link_check.specs.Numbers.{held_at}
use Rattle.link_check.proofs.value_table.ValueTable.text_at.Goals as goal

pub returns-then-place-len : goal.returns-then-place-len
returns-then-place-len c =
    let slots = c.self.inside.slots.items in
    let place = c.args.place in
    let within : place < length slots = omega (arith, c.if-place-len.true, c.len.ensures) in
    shown c.as_ref.result (held_at c.args.self.now place)
    (c.as_ref.ensures.value ∙ sym (text_read slots place c.index.result.now within c.index.ensures) ∙ ap (λ (v : List (Option (List ℕ))). held_at v place) c.self.view_is)

pub returns : goal.returns
returns c =
    let slots = c.self.inside.slots.items in
    let beyond : length slots ≤ c.args.place = omega (arith, c.if-place-len.false, c.len.ensures) in
    ap (λ (v : List (Option (List ℕ))). held_at v c.args.place) (sym c.self.view_is) ∙ text_beyond slots c.args.place beyond
