use Rattle.std.proofs.Common.{arith, drop, length, take, ◌-◌}
use Rattle.std.proofs.lemmas.List.{length-drop}
use Rattle.cm_starts.proofs.Repeats.{no_attribute, one_attribute, rest_is}
use Rattle.cm_starts.proofs.tags.attributes.Goals as goal

pub loop-at-preserved : goal.loop-at-preserved
loop-at-preserved c =
    let text = c.args.text.now in
    let at = c.loop-at.at in
    record {
      within = omega (arith, c.in-Some.ensures.within, length-drop at text, c.loop-at.invariant.within);
      so_far = one_attribute text (take (length text - at) (drop at text)) at c.in-Some.n _ (rest_is at text) c.in-Some.ensures.value c.loop-at.invariant.so_far;
    }

pub returns-in-None-clause-value : goal.returns-in-None-clause-value
returns-in-None-clause-value c = no_attribute c.args.text.now (take (length c.args.text.now - c.loop-at.at) (drop c.loop-at.at c.args.text.now)) c.loop-at.at _ (rest_is c.loop-at.at c.args.text.now) c.in-None.ensures.value c.loop-at.invariant.so_far
