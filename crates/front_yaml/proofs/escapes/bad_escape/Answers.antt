use Rattle.std.proofs.Common.{length, length-drop, ◌+◌, ap, sym, ◌∙◌, arith}
use Rattle.front_yaml.specs.Quotes.{bad_escape}
use Rattle.front_yaml.proofs.Added.{stepped}
use Rattle.front_yaml.proofs.escapes.bad_escape.Goals as goal

pub loop-n-preserved : goal.loop-n-preserved
loop-n-preserved c =
    let text = c.args.text.now in
    record {
      within = omega (arith, c.in-Some.ensures.within, ap length c.tail.ensures, length-drop (c.loop-n.n + 1) text);
      told = sym (stepped (bad_escape 0) (bad_escape 0) text c.tail.result.now c.loop-n.n c.in-Some.len c.loop-n-test.true c.tail.ensures c.in-Some.ensures.value) ∙ c.loop-n.invariant.told;
    }
