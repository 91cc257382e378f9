use Rattle.std.proofs.Common.{◌≡◌, ◌∙◌, List, Option, Some, ap, sym, ℕ}
use Rattle.link_check.proofs.NumberLaws.{inserted_index}
use Rattle.link_check.specs.Numbers.{held_at, texts_of}
use Rattle.link_check.proofs.value_table.ValueTable.add.Goals as goal

pub invariant_of-self-2 : goal.invariant_of-self-2
invariant_of-self-2 c =
    let values = texts_of c.self.inside.slots.items in
    let number = c.in_ok-number.number in
    let here : held_at values number ≡ Some c.args.key = ap (λ (v : List (Option (List ℕ))). held_at v number) c.self.view_is ∙ c.in_ok-number.ensures.number ∙ ap (λ (t : List ℕ). Some t) (sym c.requires) in
    inserted_index values c.self.inside.numbers c.insert.new.self c.args.key number c.self.invariant here (λ q. c.in_ok-insert.ensures.updates.0 q)
