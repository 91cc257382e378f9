use Rattle.std.proofs.Common.{sym, ◌∙◌}
use Rattle.cm_spans.proofs.Spaced.{padded_on}
use Rattle.cm_spans.proofs.code.is_padded.Goals as goal

pub returns-clause-cuts : goal.returns-clause-cuts
returns-clause-cuts c =
    let same = c.as_bytes-bytes.ensures.value in
    padded_on c.has_other.result c.args.text.now c.utf8.text (rw same at c.if-bytes-lt3.false) (rw same at (sym c.is_blank.ensures ∙ c.if-not-is_blank.false)) (rw same at (sym c.is_blank-else-not-is_blank.ensures ∙ c.if-not-is_blank-2.false))
