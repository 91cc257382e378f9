use Rattle.std.proofs.Common.{◌≡◌, ◌≤◌, drop}
use Rattle.front_yaml.specs.Escapes.{hex_from}
use Rattle.front_yaml.proofs.HexBounds.{cap}
use Rattle.front_yaml.proofs.escapes.hex_value.Given as goal

abbrev pub invariant-loop-c : goal.invariant-loop-c
invariant-loop-c l = record { told : hex_from l.value (drop l.c-index l.digits) ≡ hex_from 0 l.fn.digits; small : l.value ≤ cap l.c-index }
