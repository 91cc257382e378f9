use Rattle.std.proofs.Common.{◌∙◌, arith, drop, length-drop, sym, take, length, ◌-◌}
use Rattle.std.proofs.lemmas.List.{take_all}
use Rattle.link_check.proofs.Comments.{up_to_more}
use Rattle.link_check.proofs.finding.up_to.Goals as goal

pub loop-i-preserved : goal.loop-i-preserved
loop-i-preserved c =
    let t = c.args.text.now in
    let i = c.loop-i.i in
    record {
      within = omega arith;
      so_far = up_to_more c.args.mark.now t (take (length t - i) (drop i t)) i _ c.loop-i-test.true (take_all (length t - i) (drop i t) (omega (arith, length-drop i t))) (sym c.begins.ensures.value ∙ c.if-begins.false) c.loop-i.invariant.so_far;
    }
