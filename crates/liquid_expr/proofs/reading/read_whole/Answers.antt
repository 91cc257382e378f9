use Rattle.std.proofs.Common.{◌≡◌, arith, Some, None, MatchOption, length, sym, ap, subst, ◌∙◌}
use Rattle.std.proofs.lemmas.List.{length-map}
use Rattle.liquid_grammar.specs.Tokens.{tokens}
use Rattle.liquid_expr.specs.Tokens.{token_in, tokens_at, ArePlaces}
use Rattle.liquid_expr.proofs.Wholes.{large_read, whole_read}
use Rattle.liquid_expr.proofs.reading.read_whole.Goals as goal

pub returns-then-has_large : goal.returns-then-has_large
returns-then-has_large g c =
    let text = c.args.text.now in
    let places = c.in-Some.places.list.items in
    let are : ArePlaces text places c.in-Some.places.has_large = subst (λ f. MatchOption f (tokens text ≡ None) (λ p. ArePlaces text p.list.items p.has_large)) c.in-Some.is c.in_ok-places.ensures in
    let read : g.T.FromTokens.reading (tokens_at text places) ≡ Some (c.in-Ok.value, c.in-Ok.len) = ap (λ l. g.T.FromTokens.reading (tokens_at text l)) (sym c.deref.ensures.value) ∙ c.in-Ok.ensures.value in
    let len : c.in-Ok.len ≡ length (tokens_at text places) = omega (arith, c.if-len.false, c.len.ensures, c.in-Some.places.list.ok.0, length-map places (token_in text)) in
    large_read g.T.FromTokens.reading text (tokens_at text places) are.all c.in-Ok.value c.in-Ok.len read len (sym are.large ∙ c.if-has_large.true)

pub returns-in-Ok : goal.returns-in-Ok
returns-in-Ok g c =
    let text = c.args.text.now in
    let places = c.in-Some.places.list.items in
    let are : ArePlaces text places c.in-Some.places.has_large = subst (λ f. MatchOption f (tokens text ≡ None) (λ p. ArePlaces text p.list.items p.has_large)) c.in-Some.is c.in_ok-places.ensures in
    let read : g.T.FromTokens.reading (tokens_at text places) ≡ Some (c.in-Ok.value, c.in-Ok.len) = ap (λ l. g.T.FromTokens.reading (tokens_at text l)) (sym c.deref.ensures.value) ∙ c.in-Ok.ensures.value in
    let len : c.in-Ok.len ≡ length (tokens_at text places) = omega (arith, c.if-len.false, c.len.ensures, c.in-Some.places.list.ok.0, length-map places (token_in text)) in
    whole_read g.T.FromTokens.reading text (tokens_at text places) are.all c.in-Ok.value c.in-Ok.len read len (sym are.large ∙ c.if-has_large.false)
