use Rattle.std.proofs.Common.{◌≡◌, true, length, nat_lt, rules, eqb}
use Rattle.std.specs.Prelude.{codes}
use Rattle.std.specs.List.{ends_with}
use Rattle.std.proofs.lemmas.Str.Pattern.{ends_text}
use Rattle.site_items.proofs.placed_variables.has_end.Goals as goal

pub returns : goal.returns
returns c =
    let ends : c.ends_with.result ≡ ends_with eqb c.args.url.now (codes "/") = ends_text c.ends_with.result (codes "/") c.args.url.now c.ends_with.ensures.cases in
    let long : nat_lt 1 (length c.args.url.now) ≡ true = search rules in
    rw long ends
