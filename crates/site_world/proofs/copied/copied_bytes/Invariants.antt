use Rattle.std.proofs.Common.{◌≡◌, take}
use Rattle.std.specs.FinMap.{entries}
use Rattle.std.specs.List.{sum_by}
use Rattle.site_world.specs.Copied.{copied_length}
use Rattle.site_world.proofs.copied.copied_bytes.Given as goal

abbrev pub invariant-loop-place : goal.invariant-loop-place
invariant-loop-place l = l.bytes ≡ sum_by (copied_length l.copies) (take l.place (entries l.held))
