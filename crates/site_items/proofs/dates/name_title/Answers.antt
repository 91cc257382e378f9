use Rattle.std.proofs.Common.{ap}
use Rattle.std.specs.Prelude.{unwrap_or}
use Rattle.std.specs.Option.{option_map}
use Rattle.std.proofs.lemmas.Int.{to_z-of_z}
use Rattle.site_items.proofs.dates.name_title.Goals as goal

pub returns-in-Some : goal.returns-in-Some
returns-in-Some c =
    let made = simp (to_z-of_z, c.ranges.offset) at c.in-Some.ensures.parts in
    ap (λ o. unwrap_or (option_map (λ p. p.1) o) c.args.name.now) made

pub returns-in-None : goal.returns-in-None
returns-in-None c =
    let made = simp (to_z-of_z, c.ranges.offset) at c.in-None.ensures.parts in
    ap (λ o. unwrap_or (option_map (λ p. p.1) o) c.args.name.now) made
