use Rattle.std.proofs.Common.{length, ◌-◌, ◌≡◌, ◌≤◌, drop}
use Rattle.site_base.specs.Lines.{lines}
use Rattle.front_yaml.specs.Front.{opened, IsCut}
use Rattle.front_yaml.proofs.FrontLemmas.{open_at}
use Rattle.front_yaml.proofs.front_matter.split_opened.Given as goal

abbrev pub invariant-loop-at : goal.invariant-loop-at
invariant-loop-at l = record {
  order : l.start ≤ l.at;
  within : l.at ≤ length l.bytes;
  cut : IsCut l.bytes l.at;
  rest : open_at l.start l.at (lines (drop l.at l.bytes)) ≡ opened l.start (lines (drop l.start l.bytes));
}

abbrev pub decreases-loop-at : goal.decreases-loop-at
decreases-loop-at l = length l.bytes - l.at
