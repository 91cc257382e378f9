use Rattle.std.proofs.Common.{length, sym, ◌-◌, ◌∙◌}
use Rattle.cm_spans.proofs.Spaced.{cut_text, padded_text, plain_text}
use Rattle.cm_spans.proofs.code.code_text.Goals as goal

pub returns-then-is_padded : goal.returns-then-is_padded
returns-then-is_padded c =
    let t = c.args.text.now in
    padded_text t c.range.result.now (sym c.is_padded.ensures.value ∙ c.if-is_padded.true) (cut_text t c.range_from-rest.result.now c.range.result.now (length t - 2) c.range_from-rest.ensures.value c.range.ensures.value)

pub returns-else-is_padded : goal.returns-else-is_padded
returns-else-is_padded c = plain_text c.args.text.now (sym c.is_padded.ensures.value ∙ c.if-is_padded.false)
