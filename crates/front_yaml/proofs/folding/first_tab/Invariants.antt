use Rattle.std.proofs.Common.{length, ◌-◌, ◌≡◌, ◌≤◌, drop, false}
use Rattle.front_yaml.specs.Folding.{first_tab}
use Rattle.front_yaml.specs.Bytes.{added}
use Rattle.front_yaml.proofs.folding.first_tab.Given as goal

abbrev pub invariant-loop-n : goal.invariant-loop-n
invariant-loop-n l = record { within : l.n ≤ length l.text; told : added l.n (first_tab l.leads (drop l.n l.text)) ≡ first_tab false l.text }

abbrev pub decreases-loop-n : goal.decreases-loop-n
decreases-loop-n l = length l.text - l.n
