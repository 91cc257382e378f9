use Rattle.std.proofs.Common.{map, length, sym, ap, ◌∙◌}
use Rattle.std.proofs.lemmas.List.{drop-map, length-drop}
use Rattle.liquid_expr.specs.Tokens.{token_in}
use Rattle.liquid_expr.proofs.tokens.rest.Goals as goal

pub returns-clause-seen : goal.returns-clause-seen
returns-clause-seen c =
    let token = token_in c.args.tokens.text.now in
    ap (map token) c.places_behind.ensures ∙ sym (drop-map token c.args.len c.args.tokens.places.now)

pub returns-clause-count : goal.returns-clause-count
returns-clause-count c = ap length c.places_behind.ensures ∙ length-drop c.args.len c.args.tokens.places.now
