use Rattle.std.proofs.Common.{length, ◌-◌, ◌≡◌, ◌≤◌, ◌+◌, drop}
use Rattle.std.specs.Prelude.{take_while}
use Rattle.site_base.specs.Lines.{lines}
use Rattle.front_yaml.specs.Front.{total, is_blank, IsCut}
use Rattle.front_yaml.proofs.front_matter.blank_end.Given as goal

abbrev pub invariant-loop-next : goal.invariant-loop-next
invariant-loop-next l = record {
  order : l.from ≤ l.at;
  within : l.at ≤ length l.bytes;
  cut : IsCut l.bytes l.at;
  rest : l.at + total (take_while is_blank (lines (drop l.at l.bytes))) ≡ l.from + total (take_while is_blank (lines (drop l.from l.bytes)));
}

abbrev pub decreases-loop-next : goal.decreases-loop-next
decreases-loop-next l = length l.bytes - l.at
