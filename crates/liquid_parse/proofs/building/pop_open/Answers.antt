use Rattle.std.proofs.Common.{◌≡◌, ◌+◌, arith, length, vec_len}
use Rattle.liquid_parse.proofs.Stacks.{popped}
use Rattle.liquid_parse.proofs.building.pop_open.Goals as goal

pub returns-clause-top : goal.returns-clause-top
returns-clause-top c =
    let n : length c.args.stack.now.items ≡ vec_len c.args.stack.now = omega (arith, c.args.stack.now.ok.0) in
    (popped c.args.stack.now.items c.pop.new.self.items c.pop.result (vec_len c.args.stack.now) (vec_len c.pop.new.self) (λ _. vec_len c.pop.new.self + 1 ≡ vec_len c.args.stack.now) n c.pop.ensures.items c.pop.ensures.cases).0

pub returns-clause-below : goal.returns-clause-below
returns-clause-below c =
    let n : length c.args.stack.now.items ≡ vec_len c.args.stack.now = omega (arith, c.args.stack.now.ok.0) in
    (popped c.args.stack.now.items c.pop.new.self.items c.pop.result (vec_len c.args.stack.now) (vec_len c.pop.new.self) (λ _. vec_len c.pop.new.self + 1 ≡ vec_len c.args.stack.now) n c.pop.ensures.items c.pop.ensures.cases).1
