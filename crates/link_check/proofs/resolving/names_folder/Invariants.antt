use Rattle.std.proofs.Common.{◌≡◌, drop, length}
use Rattle.site_base.specs.Path.{segments}
use Rattle.link_check.specs.Targets.{names_folder}
use Rattle.link_check.proofs.SegmentLaws.{folder_from}
use Rattle.link_check.proofs.resolving.names_folder.Given as goal

abbrev pub invariant-loop-segment : goal.invariant-loop-segment
invariant-loop-segment l = folder_from l.answer (drop (length l.yielded) (segments l.path)) ≡ names_folder (segments l.path)
