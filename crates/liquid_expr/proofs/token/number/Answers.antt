use Rattle.std.proofs.Common.{arith, ◌≡◌, ◌+◌, ◌-◌, ◌<◌, drop, get_or, sym, ap, ◌∙◌, subst}
use Rattle.std.proofs.lemmas.List.{get_or-drop}
use Rattle.std.specs.Str.Parse.{IsNumeral, without_leading_sign}
use Rattle.liquid_expr.proofs.TokenLaws.{fraction_ascii}
use Rattle.liquid_expr.proofs.token.number.Goals as goal

pub head-requires-clause-last : goal.head-requires-clause-last
head-requires-clause-last c =
    let rest = c.args.rest.now in
    let len = c.args.len in
    let f = c.fraction_len-fraction.result in
    let t : c.tail.result.now ≡ drop len rest = c.tail.ensures ∙ ap (drop len) c.as_bytes.ensures.value in
    let place : len + (f - 1) ≡ len + f - 1 = omega arith in
    let at : get_or c.tail.result.now (f - 1) 0 ≡ get_or rest (len + (f - 1)) 0 = ap (λ xs. get_or xs (f - 1) 0) t ∙ get_or-drop len rest (f - 1) 0 in
    let ascii : get_or c.tail.result.now (f - 1) 0 < 128 = subst (λ n. get_or c.tail.result.now (n - 1) 0 < 128) (sym c.fraction_len-fraction.ensures.value) (fraction_ascii c.tail.result.now (omega (arith, c.fraction_len-fraction.ensures.value))) in
    subst (λ i. get_or rest i 0 < 128) place (subst (λ x. x < 128) at ascii)

pub whole-requires : goal.whole-requires
whole-requires c = subst (λ xs. IsNumeral 10 (without_leading_sign xs)) (sym c.head-else-fraction-gt0.ensures.head) c.requires.whole.numeral
