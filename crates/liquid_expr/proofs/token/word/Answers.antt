use Rattle.std.proofs.Common.{arith, ◌≡◌, ◌-◌, ◌<◌, ap, subst, slice_index}
use Rattle.std.specs.List.{prefix_len}
use Rattle.site_text.specs.Bytes.{is_name_byte}
use Rattle.liquid_expr.proofs.TokenLaws.{name_some}
use Rattle.liquid_expr.proofs.token.word.Goals as goal

pub head-requires-clause-last : goal.head-requires-clause-last
head-requires-clause-last c =
    let rest = c.args.rest.now in
    let b : c.as_bytes.result.now ≡ rest = c.as_bytes.ensures.value in
    let some : 0 < c.name_len-len.result = omega (arith, c.name_len-len.ensures.value, ap (prefix_len is_name_byte) b, name_some rest c.requires.some c.requires.letter) in
    subst (λ xs. slice_index xs (c.name_len-len.result - 1) < 128) b (c.name_len-len.ensures.ascii some)
