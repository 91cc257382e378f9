use Rattle.std.proofs.Common.{◌≡◌, ◌∙◌, [], List, Some, ap, append-nil, arith, drop, drop_of_length-le, sym, ℕ}
use Rattle.link_check.specs.Targets.{decoded}
use Rattle.link_check.proofs.ValueLaws.{ahead, decoded_end}
use Rattle.link_check.proofs.values.decoded.Goals as goal

pub returns : goal.returns
returns c =
    let t = c.args.text.now in let made = c.loop-at.made.items in
    let none : drop c.loop-at.at t ≡ [] = drop_of_length-le t (omega (arith, c.loop-at-test.false)) in
    ap (λ (u : List ℕ). Some u) (sym (append-nil made)) ∙ ap (ahead made) (sym (ap decoded none ∙ decoded_end)) ∙ c.loop-at.invariant.so_far
