use Rattle.std.proofs.Common.{◌≤◌, ◌+◌, ◌-◌, ◌*◌, ◌^◌, get_or, arith}
use Rattle.front_yaml.proofs.Numbers.{stays_large}
use Rattle.front_yaml.proofs.scalars.number.Goals as goal

pub returns-in-None : goal.returns-in-None
returns-in-None c =
    let ds = c.args.digits.now in
    let i = c.loop-c.c-index in
    let large : 2 ^ 64 ≤ c.loop-c.number * 10 + (get_or ds i 0 - 48) = omega (arith, c.in-None.ensures) in
    let all = stays_large (2 ^ 64) c.loop-c.number i ds c.loop-c-test.true large in
    omega (arith, all, c.loop-c.invariant)
