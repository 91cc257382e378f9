use Rattle.std.proofs.Common.{rules, ◌≡◌, length, Some, None, sym}
use Rattle.liquid_grammar.specs.Tokens.{token_at}
use Rattle.liquid_expr.specs.Token.{token_of}
use Rattle.liquid_expr.proofs.PlaceLaws.{empty_in, none_in, found_in}
use Rattle.liquid_expr.proofs.tokens.token_in.Goals as goal

pub returns-then-is_empty : goal.returns-then-is_empty
returns-then-is_empty c =
    let none : length c.text_from-rest.result.now ≡ 0 = search rules in
    empty_in c.args.text.now c.text_from-rest.result.now c.args.place c.text_from-rest.ensures none

pub returns-in-Some : goal.returns-in-Some
returns-in-Some c =
    let found : token_at c.text_from-rest.result.now ≡ Some (token_of c.in-Some.token, c.in-Some.field-0-1) = sym c.in-Some.ensures.value in
    found_in c.args.text.now c.text_from-rest.result.now c.args.place c.text_from-rest.ensures (token_of c.in-Some.token) c.in-Some.field-0-1 found

pub returns-in-None : goal.returns-in-None
returns-in-None c =
    let none : token_at c.text_from-rest.result.now ≡ None = sym c.in-None.ensures.value in
    none_in c.args.text.now c.text_from-rest.result.now c.args.place c.text_from-rest.ensures none
