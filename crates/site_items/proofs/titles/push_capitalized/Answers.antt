use Rattle.std.proofs.Common.{◌≡◌, map, rules}
use Rattle.std.specs.Char.{to_ascii_lowercase}
use Rattle.site_items.specs.Titles.{capitalized}
use Rattle.site_items.proofs.Capitals.{no_capital}
use Rattle.site_items.proofs.titles.push_capitalized.Goals as goal

pub returns-in_ok-to_ascii_lowercase-in-None : goal.returns-in_ok-to_ascii_lowercase-in-None
returns-in_ok-to_ascii_lowercase-in-None c =
    let small : map to_ascii_lowercase c.args.part.now ≡ capitalized c.args.part.now = no_capital c.args.part.now c.utf8.part (λ at. absurd (cc (c.in-None.ensures.variant.1 at))) in
    rw (← small) (search rules)
