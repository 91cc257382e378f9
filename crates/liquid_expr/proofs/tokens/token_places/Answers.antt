use Rattle.std.proofs.Common.{rules, ◌≡◌, ◌<◌, length, drop, sym, ap, subst, ◌∙◌, true, false, Some, None, slice_index}
use Rattle.std.specs.List.{list_any}
use Rattle.liquid_grammar.specs.Pieces.{is_white}
use Rattle.liquid_grammar.specs.Tokens.{token_at, is_large}
use Rattle.liquid_expr.specs.Token.{token_of}
use Rattle.liquid_expr.specs.Tokens.{tokens_at}
use Rattle.liquid_expr.proofs.TokenLoop.{IsLeft, all_left, white_left, token_left, large_left, none_left, nothing_left}
use Rattle.liquid_expr.proofs.tokens.token_places.Goals as goal

pub loop-rest-init : goal.loop-rest-init
loop-rest-init c =
    let text = c.args.text.now in
    (c.utf8.text, subst (IsLeft text text) (sym c.new-list.ensures.items) (all_left text), ap (λ ps. list_any is_large (tokens_at text ps)) (sym c.new-list.ensures.items))

pub loop-rest-preserved : goal.loop-rest-preserved
loop-rest-preserved c =
    let text = c.args.text.now in
    let rest = c.loop-rest.rest.now in
    let places = c.loop-rest.list.items in
    let t = token_of c.in-Some.token in
    let some : 0 < length rest = search rules in
    let black : is_white (slice_index rest 0) ≡ false = sym c.begins_white.ensures.value ∙ c.if-begins_white.false in
    let found : token_at rest ≡ Some (t, c.in-Some.len) = sym c.in-Some.ensures.value in
    let left = token_left text rest places t c.in-Some.len c.loop-rest.invariant.1 some black found c.in-Some.ensures.fits.some c.in-Some.ensures.fits.within in
    let large = large_left text rest places t c.in-Some.len c.loop-rest.has_large c.loop-rest.invariant.1 found c.loop-rest.invariant.2 in
    let items = sym c.in_ok-push-in-Some.ensures.items in (
      c.after-rest-in-Some.utf8,
      subst (λ xs. IsLeft text xs c.push.new.self.items) (sym c.after-rest-in-Some.ensures) (subst (IsLeft text (drop c.in-Some.len rest)) items left),
      c.or_large-has_large.ensures ∙ large ∙ ap (λ ps. list_any is_large (tokens_at text ps)) items,
    )

pub loop-rest-preserved-then-begins_white : goal.loop-rest-preserved-then-begins_white
loop-rest-preserved-then-begins_white c =
    let text = c.args.text.now in
    let rest = c.loop-rest.rest.now in
    let places = c.loop-rest.list.items in
    let some : 0 < length rest = search rules in
    let white : is_white (slice_index rest 0) ≡ true = sym c.begins_white.ensures.value ∙ c.if-begins_white.true in
    (c.after-rest.utf8, subst (λ xs. IsLeft text xs places) (sym c.after-rest.ensures) (white_left text rest places c.loop-rest.invariant.1 some white), c.loop-rest.invariant.2)

pub returns-in-None : goal.returns-in-None
returns-in-None c =
    let rest = c.loop-rest.rest.now in
    let some : 0 < length rest = search rules in
    let black : is_white (slice_index rest 0) ≡ false = sym c.begins_white.ensures.value ∙ c.if-begins_white.false in
    let found : token_at rest ≡ None = sym c.in-None.ensures.value in
    none_left c.args.text.now rest c.loop-rest.list.items c.loop-rest.invariant.1 some black found

pub returns : goal.returns
returns c =
    let none : length c.loop-rest.rest.now ≡ 0 = search rules in
    record { all = nothing_left c.args.text.now c.loop-rest.rest.now c.loop-rest.list.items c.loop-rest.invariant.1 none; large = c.loop-rest.invariant.2 }
