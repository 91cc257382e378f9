use Rattle.std.proofs.Common.{◌∙◌}
use Rattle.cm_spans.proofs.WordLaws.{all_plain, words_cut}
use Rattle.cm_spans.proofs.words.plain_words.Goals as goal

pub returns-then-byte_at-eq10-clause-cut : goal.returns-then-byte_at-eq10-clause-cut
returns-then-byte_at-eq10-clause-cut c = words_cut c.args.text.now c.without_spaces.result (rw c.as_bytes-bytes.ensures.value at c.without_spaces.ensures)

pub returns-clause-value : goal.returns-clause-value
returns-clause-value c = all_plain c.args.text.now c.class_run-len.result (rw c.as_bytes-bytes.ensures.value at c.class_run-len.ensures.value) (λ h. c.if-byte_at-eq10.false (c.byte_at.ensures ∙ h))

pub returns-clause-cut : goal.returns-clause-cut
returns-clause-cut c =
    words_cut c.args.text.now c.class_run-len.result (all_plain c.args.text.now c.class_run-len.result (rw c.as_bytes-bytes.ensures.value at c.class_run-len.ensures.value) (λ h. c.if-byte_at-eq10.false (c.byte_at.ensures ∙ h)))
