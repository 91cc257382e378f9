use Rattle.std.proofs.Common.{◌≡◌, ◌+◌, ◌-◌, length, drop}
use Rattle.permalinks.specs.Url.{name_len, IsCut}
use Rattle.permalinks.proofs.template.name_len.Given as goal

abbrev pub invariant-loop-end : goal.invariant-loop-end
invariant-loop-end l = (l.end + name_len (drop l.end l.part) ≡ name_len l.part) × IsCut l.part l.end

abbrev pub decreases-loop-end : goal.decreases-loop-end
decreases-loop-end l = length l.part - l.end
