use Rattle.std.proofs.Common.{◌++◌, ℕ, List, take, drop, ap, ◌∙◌, arith}
use Rattle.front_yaml.specs.Bytes.{starts, repeated}
use Rattle.front_yaml.specs.TextLines.{Line, spaces}
use Rattle.front_yaml.proofs.LineLaws.{after_spaces, spaces_again, cut_fits}
use Rattle.front_yaml.proofs.text_lines.TextLine.of.Goals as goal

pub invariant_of-result : goal.invariant_of-result
invariant_of-result c =
    let n = c.space_len-indent.ensures.value in
    let r = c.tail.ensures ∙ ap (λ k. drop k c.front-text.result.now) n in (
      ap (starts 32) r ∙ after_spaces c.front-text.result.now,
      cut_fits c.args.line.now _ _ c.inside_len.result c.space_len-indent.result c.front-text.ensures c.tail.ensures c.space_len-indent.ensures.within (omega arith),
      c.requires,
    )

pub returns : goal.returns
returns c =
    let n = c.space_len-indent.ensures.value in
    let r = c.tail.ensures ∙ ap (λ k. drop k c.front-text.result.now) n in
    let text = ap (λ k. repeated k 32 ++ c.tail.result.now) n ∙ ap (λ xs. repeated (spaces c.front-text.result.now) 32 ++ xs) r ∙ spaces_again c.front-text.result.now ∙ c.front-text.ensures ∙ ap (λ k. take k c.args.line.now) c.inside_len.ensures.value in
    let made : List ℕ → Line = λ t. record { number = c.args.number; text = t } in
    ap made text
