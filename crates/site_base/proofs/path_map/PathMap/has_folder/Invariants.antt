use Rattle.std.specs.FinMap.{keys}
use Rattle.site_base.specs.PathMap.{as_map}
use Rattle.site_base.proofs.Clashing.{NoFolderBefore}
use Rattle.site_base.proofs.path_map.PathMap.has_folder.Given as goal

abbrev pub invariant-loop-end : goal.invariant-loop-end
invariant-loop-end g l = NoFolderBefore l.bytes (keys (as_map l.self)) l.end
