use Rattle.std.proofs.Common.{length, ◌-◌, ◌≡◌, ◌<◌, ◌≤◌, drop}
use Rattle.std.specs.Str.Parse.{digits_value, digits_value_after}
use Rattle.site_text.proofs.Digits.{cap}
use Rattle.site_text.proofs.numbers.number.Given as goal

abbrev pub invariant-loop-i : goal.invariant-loop-i
invariant-loop-i l = record {
  within : l.i ≤ length l.digits;
  small : l.value < cap l.i;
  so_far : digits_value_after l.base l.value (drop l.i l.digits) ≡ digits_value l.base l.digits;
}

abbrev pub decreases-loop-i : goal.decreases-loop-i
decreases-loop-i l = length l.digits - l.i
