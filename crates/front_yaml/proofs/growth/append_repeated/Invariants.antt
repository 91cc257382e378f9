use Rattle.std.proofs.Common.{◌≡◌, ◌++◌}
use Rattle.front_yaml.specs.Bytes.{repeated}
use Rattle.front_yaml.proofs.growth.append_repeated.Given as goal

abbrev pub invariant-loop : goal.invariant-loop
invariant-loop l = l.out.items ≡ l.fn.out.items ++ repeated l.counter l.byte
