use Rattle.std.proofs.Common.{arith, ◌≡◌, ◌+◌, ◌<◌, length, drop, get_or, sym, ap, ◌∙◌, subst}
use Rattle.std.proofs.lemmas.List.{length-drop}
use Rattle.std.proofs.lemmas.Grind.{get_or_after_one}
use Rattle.liquid_expr.proofs.token.quoted.Goals as goal

pub between-requires-clause-last : goal.between-requires-clause-last
between-requires-clause-last c =
    let rest = c.args.rest.now in
    let n = c.unquoted_len-end.result in
    let t : c.tail.result.now ≡ drop 1 rest = c.tail.ensures ∙ ap (drop 1) c.as_bytes-bytes.ensures.value in
    let lt : n < length c.tail.result.now = omega (arith, ap length t, length-drop 1 rest, ap length c.as_bytes-bytes.ensures.value) in
    let at : get_or rest (1 + n) 0 ≡ c.args.quote = sym (get_or_after_one rest n 0) ∙ ap (λ xs. get_or xs n 0) (sym t) ∙ c.unquoted_len-end.ensures.stops lt in
    subst (λ x. x < 128) (sym at) c.requires.ascii
