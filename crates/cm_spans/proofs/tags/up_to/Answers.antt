use Rattle.std.proofs.Common.{arith, ap, drop, length, sym, take, List, ℕ, ◌-◌, ◌∙◌}
use Rattle.std.proofs.lemmas.List.{length-drop}
use Rattle.cm_starts.proofs.Repeats.{rest_is}
use Rattle.cm_spans.proofs.ClosedBy.{begins_within, to_more}
use Rattle.cm_spans.proofs.tags.up_to.Goals as goal

pub returns-then-begins-clause-within : goal.returns-then-begins-clause-within
returns-then-begins-clause-within c =
    let t = c.args.text.now in
    let i = c.loop-i.i in
    let h = begins_within c.args.word.now (take (length t - i) (drop i t)) (sym c.begins.ensures.value ∙ c.if-begins.true) in
    omega (arith, h, ap (λ (u : List ℕ). length u) (rest_is i t), length-drop i t, c.loop-i-test.true)

pub loop-i-preserved : goal.loop-i-preserved
loop-i-preserved c =
    let t = c.args.text.now in
    let i = c.loop-i.i in
    record {
      within = omega arith;
      so_far = to_more c.args.word.now t (take (length t - i) (drop i t)) i _ c.loop-i-test.true (rest_is i t) (sym c.begins.ensures.value ∙ c.if-begins.false) c.loop-i.invariant.so_far;
    }
