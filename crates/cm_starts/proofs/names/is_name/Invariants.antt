use Rattle.std.proofs.Common.{◌≡◌, ◌-◌, drop, length}
use Rattle.site_text.specs.Bytes.{lowered}
use Rattle.markdown_grammar.specs.Fronts.{same_bytes}
use Rattle.cm_starts.proofs.names.is_name.Given as goal

abbrev pub invariant-loop-i : goal.invariant-loop-i
invariant-loop-i l = same_bytes (drop l.i l.known) (lowered (drop l.i l.name)) ≡ same_bytes l.known (lowered l.name)

abbrev pub decreases-loop-i : goal.decreases-loop-i
decreases-loop-i l = length l.name - l.i
