use Rattle.std.proofs.Common.{◌≡◌, ◌∙◌, ap, arith, suc, sym, ℕ, ◌-◌}
use Rattle.markdown_grammar.specs.Columns.{shifted}
use Rattle.cm_containers.specs.Spots.{text_at}
use Rattle.cm_containers.proofs.spots.shift.Goals as goal

pub loop-left-preserved : goal.loop-left-preserved
loop-left-preserved c =
    let s = c.loop-left.spot in
    let text = text_at c.args.line.now s in
    let one : c.loop-left.left ≡ suc (c.loop-left.left - 1) = omega (arith, c.loop-left-test.true) in
    record {
      spot = c.in-Some.ensures.0;
      so_far = sym (c.in-Some.ensures.1 (c.loop-left.left - 1)) ∙ sym (ap (λ (n : ℕ). shifted n s.column text) one) ∙ c.loop-left.invariant.so_far;
    }

pub returns-in-None : goal.returns-in-None
returns-in-None c =
    let s = c.loop-left.spot in
    let text = text_at c.args.line.now s in
    let one : c.loop-left.left ≡ suc (c.loop-left.left - 1) = omega (arith, c.loop-left-test.true) in
    record {
      rest = sym (c.in-None.ensures (c.loop-left.left - 1)) ∙ sym (ap (λ (n : ℕ). shifted n s.column text) one) ∙ c.loop-left.invariant.so_far;
      spot = c.loop-left.invariant.spot;
    }

pub returns : goal.returns
returns c =
    let s = c.loop-left.spot in
    let text = text_at c.args.line.now s in
    let none : c.loop-left.left ≡ 0 = omega (arith, c.loop-left-test.false) in
    record {
      rest = sym (ap (λ (n : ℕ). shifted n s.column text) none) ∙ c.loop-left.invariant.so_far;
      spot = c.loop-left.invariant.spot;
    }
