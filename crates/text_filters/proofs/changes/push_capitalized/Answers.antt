use Rattle.std.proofs.Common.{◌≡◌, map, rules}
use Rattle.std.specs.Char.{to_ascii_lowercase}
use Rattle.text_filters.specs.Changes.{capitalized}
use Rattle.text_filters.proofs.ChangeLaws.{no_capital}
use Rattle.text_filters.proofs.changes.push_capitalized.Goals as goal

pub returns-in_ok-to_ascii_lowercase-in-None : goal.returns-in_ok-to_ascii_lowercase-in-None
returns-in_ok-to_ascii_lowercase-in-None c =
    let small : map to_ascii_lowercase c.args.text.now ≡ capitalized c.args.text.now = no_capital c.args.text.now c.utf8.text (λ at. absurd (cc (c.in-None.ensures.variant.1 at))) in
    rw (← small) (search rules)
