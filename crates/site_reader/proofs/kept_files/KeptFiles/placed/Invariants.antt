use Rattle.std.proofs.Common.{◌≡◌, ◌++◌, map, drop}
use Rattle.std.specs.FinMap as finite
use Rattle.site_base.specs.PathMap.{as_map}
use Rattle.site_reader.specs.Placements.{as_kept}
use Rattle.site_reader.proofs.kept_files.KeptFiles.placed.Given as goal

abbrev pub invariant-loop-number : goal.invariant-loop-number
invariant-loop-number l = map as_kept l.files.items ++ drop l.number (finite.entries (as_map l.self.files)) ≡ finite.entries (as_map l.self.files)
