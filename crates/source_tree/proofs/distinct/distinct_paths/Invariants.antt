use Rattle.std.proofs.Common.{◌≡◌, take}
use Rattle.site_base.specs.Places.{paths_of}
use Rattle.source_tree.specs.Rise.{units}
use Rattle.source_tree.proofs.distinct.distinct_paths.Given as goal

abbrev pub invariant-loop-file : goal.invariant-loop-file
invariant-loop-file l = l.paths.items ≡ units (paths_of (take l.file-index l.files))
