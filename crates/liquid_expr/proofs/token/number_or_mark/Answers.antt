use Rattle.std.proofs.Common.{◌≡◌, ap, ◌∙◌}
use Rattle.liquid_grammar.specs.Tokens.{whole_len}
use Rattle.liquid_expr.proofs.TokenLaws.{is_whole}
use Rattle.liquid_expr.proofs.token.number_or_mark.Goals as goal

pub number-requires-clause-whole : goal.number-requires-clause-whole
number-requires-clause-whole c =
    let len : c.whole_len-whole.result ≡ whole_len c.args.rest.now = c.whole_len-whole.ensures ∙ ap whole_len c.as_bytes.ensures.value in
    is_whole c.args.rest.now c.whole_len-whole.result len c.if-whole-gt0.true
