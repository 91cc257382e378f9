use Rattle.std.proofs.Common.{◌≡◌, ℕ, List, take}
use Rattle.site_world.specs.Named.{named}
use Rattle.site_world.specs.Sights.{copy_at}
use Rattle.site_world.proofs.copied.copies.Given as goal

abbrev pub invariant-loop-file : goal.invariant-loop-file
invariant-loop-file l = (path : List ℕ) → named l.made path ≡ copy_at path (take l.file-index l.files)
