use Rattle.std.proofs.Common.{arith, rules, ◌≡◌, ◌+◌, ◌*◌, ap}
use Rattle.site_base.specs.Plain.{list_size}
use Rattle.site_base.proofs.Drops.{most_falls}
use Rattle.site_base.proofs.+value.Goals as goal

pub value::List::drop-drop-self-inside-requires : goal.value::List::drop-drop-self-inside-requires
value::List::drop-drop-self-inside-requires t c κs =
    let size = ap list_size c.self.view_is in
    let t-is : 3 * (list_size c.args.self + 1) + 0 ≡ t = c.decreases in
    (((grind (arith, most_falls c.self.inside.place, size, t-is), tt), tt), search rules)

pub value::List::drop-drop-requires : goal.value::List::drop-drop-requires
value::List::drop-drop-requires t c κs =
    let size = ap list_size c.self.view_is in
    let t-is : 3 * (list_size c.args.self + 1) + 0 ≡ t = c.decreases in
    (((grind (arith, most_falls c.self.inside.place, size, t-is), tt), tt), search rules)
