use Rattle.std.proofs.Common.{◌≡◌, ◌++◌, drop, false}
use Rattle.front_yaml.specs.Quotes.{halved}
use Rattle.front_yaml.proofs.quotes.halved.Given as goal

abbrev pub invariant-loop-c : goal.invariant-loop-c
invariant-loop-c l = l.out.items ++ halved l.second (drop l.c-index l.text) ≡ halved false l.fn.text
