use Rattle.std.proofs.Common.{arith, ◌≡◌, ◌<◌, ◌≤◌, ◌++◌, ◌∷◌, [], length, drop, Some, Ok, sym, ap, subst, ◌∙◌, IfSome}
use Rattle.std.proofs.lemmas.Result.{err_from_is_err_and}
use Rattle.liquid_grammar.specs.Readings.{many, one, stop}
use Rattle.liquid_expr.specs.Tokens.{tokens_of, count}
use Rattle.liquid_expr.specs.Steps.{more_added}
use Rattle.liquid_expr.specs.Readings.{alone, IsMore}
use Rattle.liquid_expr.proofs.Adding.{goes_on, ends, fails, counted}
use Rattle.liquid_expr.proofs.Wholes.{from_alone, more_stops}
use Rattle.liquid_expr.proofs.reading.many.Goals as goal

pub returns-in_err-item-clause-value : goal.returns-in_err-item-clause-value
returns-in_err-item-clause-value g c =
    let ts = tokens_of c.args.tokens in
    let next = g.R.Repeats.more in
    let used = c.loop-list.used in
    let now = c.loop-list.list.items in
    let e = err_from_is_err_and c.from_residual.result c.from_residual.ensures.1 in
    let rest : tokens_of c.rest.result ≡ drop used ts = c.rest.ensures.seen in
    rw (e.1, e.2) (more_stops (next (tokens_of c.rest.result)) (many next ts) c.in_err-item.field-0.0 c.in_err-item.ensures.value
    (λ w. fails next alone g.met.R.Repeats.ends ts [] now used (ap next (sym rest) ∙ w) c.loop-list.invariant.told))

pub loop-list-preserved : goal.loop-list-preserved
loop-list-preserved g c =
    let ts = tokens_of c.args.tokens in
    let next = g.R.Repeats.more in
    let used = c.loop-list.used in
    let now = c.loop-list.list.items in
    let item = c.in-Some.item in
    let n = c.in-Some.len in
    let is : c.in_ok-item.field-0 ≡ Some (item, n) = c.in-Some.is in
    let rest : tokens_of c.rest.result ≡ drop used ts = c.rest.ensures.seen in
    let found : next (tokens_of c.rest.result) ≡ one item n = subst (λ f. IsMore (Ok f) (next (tokens_of c.rest.result))) is c.in_ok-item.ensures.value in
    let within : (0 < n) × (n ≤ count c.rest.result) = subst (λ f. IfSome f (λ k. (0 < k.1) × (k.1 ≤ count c.rest.result))) is c.in_ok-item.ensures.within in
    let rest_len = c.rest.ensures.count in
    let le : n ≤ length (drop used ts) = omega (arith, within.1, ap length rest, counted c.rest.result) in
    let list : c.push.new.self.items ≡ now ++ item ∷ [] = c.in_ok-push.ensures.items in
    let added : more_added alone now (next (drop used ts)) ≡ Some (c.push.new.self.items, n) = ap (λ x. more_added alone now (next x)) (sym rest) ∙ ap (more_added alone now) found ∙ ap (λ l. Some (l, n)) (sym list) in
    record {
      within = omega (arith, within.1, rest_len, c.loop-list.invariant.within);
      told = goes_on next alone ts now c.push.new.self.items used n _ added within.0 le c.loop-list.invariant.told;
    }

pub returns-clause-value : goal.returns-clause-value
returns-clause-value g c =
    let ts = tokens_of c.args.tokens in
    let next = g.R.Repeats.more in
    let used = c.loop-list.used in
    let now = c.loop-list.list.items in
    let rest : tokens_of c.rest.result ≡ drop used ts = c.rest.ensures.seen in
    let last : next (tokens_of c.rest.result) ≡ stop = subst (λ f. IsMore (Ok f) (next (tokens_of c.rest.result))) c.in_default.is c.in_ok-item.ensures.value in
    from_alone (many next ts) now used (ends next alone ts now used _ (ap next (sym rest) ∙ last) c.loop-list.invariant.told) ∙ ap (λ l. Some (l, used)) (sym c.fitted.ensures)
