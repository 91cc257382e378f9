use Rattle.std.proofs.Common.{◌≡◌, drop}
use Rattle.site_text.specs.Bytes.{lowered}
use Rattle.site_text.specs.Fronts.{begins_with}
use Rattle.site_text.proofs.fronts.begins_in_lower_case.Given as goal

abbrev pub invariant-loop-i : goal.invariant-loop-i
invariant-loop-i l = begins_with (drop l.i l.word) (lowered (drop l.i l.text)) ≡ begins_with l.word (lowered l.text)
