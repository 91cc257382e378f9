use Rattle.std.proofs.Common.{drop, reverse, take, ◌∙◌}
use Rattle.cm_spans.proofs.Others.{others_at}
use Rattle.cm_spans.proofs.spans.span_at.Goals as goal

pub returns-clause-value : goal.returns-clause-value
returns-clause-value c =
    let t = drop c.args.at c.args.text.now in
    let first = c.byte_at-c.ensures in
    rw c.range_from-rest.ensures.value at c.bracket_or_text.ensures.value
    ∙ others_at (reverse (take c.args.at c.args.text.now)) t (λ e. c.if-c-eq92.false (first ∙ e)) (λ e. c.if-c-eq38.false (first ∙ e)) (λ e. c.if-c-eq96.false (first ∙ e)) (λ e. c.if-c-eq60.false (first ∙ e)) (λ e. c.if-c-eq42.false (first ∙ e))
    (λ e. c.if-c-eq95.false (first ∙ e))
