use Rattle.std.proofs.Common.{◌≡◌, drop}
use Rattle.front_yaml.specs.Scalars.{number_from}
use Rattle.front_yaml.proofs.scalars.number.Given as goal

abbrev pub invariant-loop-c : goal.invariant-loop-c
invariant-loop-c l = number_from l.number (drop l.c-index l.digits) ≡ number_from 0 l.fn.digits
