use Rattle.std.proofs.Common.{◌≡◌, ◌<◌, ◌∙◌, ℕ, List, None, length, ap, sym, subst, arith}
use Rattle.std.proofs.lemmas.List.{take_rest}
use Rattle.text_filters.specs.Marks.{mark_at}
use Rattle.text_filters.proofs.MarkLaws.{plain_more}
use Rattle.text_filters.proofs.marks.plain_len.Goals as goal

pub loop-len-init : goal.loop-len-init
loop-len-init c =
    let bs = c.as_bytes-bytes.result.now in
    let same : bs ≡ c.args.text.now = c.as_bytes-bytes.ensures.value in
    let none : mark_at c.args.mark bs ≡ None = ap (mark_at c.args.mark) same ∙ c.requires.none in
    let some : 0 < length bs = subst (λ (t : List ℕ). 0 < length t) (sym same) c.requires.some in
    record { some = omega arith; within = omega arith; plain = sym (plain_more c.args.mark bs 0 some none) }

pub loop-len-preserved : goal.loop-len-preserved
loop-len-preserved c =
    let bs = c.as_bytes-bytes.result.now in
    let none = ap (mark_at c.args.mark) (sym (take_rest bs c.loop-len.len)) ∙ sym c.in-None.ensures in
    let more = plain_more c.args.mark bs c.loop-len.len c.loop-len-test.true none in
    record { some = omega arith; within = omega arith; plain = sym more ∙ c.loop-len.invariant.plain }
