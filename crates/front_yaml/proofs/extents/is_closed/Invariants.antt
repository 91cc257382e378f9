use Rattle.std.proofs.Common.{length, ◌-◌, ◌≡◌, ◌≤◌, drop}
use Rattle.front_yaml.specs.Extents.{is_closed}
use Rattle.front_yaml.specs.Scanning.{ends_from}
use Rattle.front_yaml.proofs.extents.is_closed.Given as goal

abbrev pub invariant-loop-n : goal.invariant-loop-n
invariant-loop-n l = record { within : l.n ≤ length l.text; shallow : l.scan.depth ≤ l.n; told : ends_from l.scan (drop l.n l.text) ≡ is_closed l.text }

abbrev pub decreases-loop-n : goal.decreases-loop-n
decreases-loop-n l = length l.text - l.n
