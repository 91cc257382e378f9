use Rattle.std.proofs.Common.{◌≡◌, ℕ, List, take}
use Rattle.site_world.specs.Shelves.{shelved}
use Rattle.site_world.specs.Sights.{include_named}
use Rattle.site_world.proofs.shelves.includes.Given as goal

abbrev pub invariant-loop-include : goal.invariant-loop-include
invariant-loop-include l = (x : List ℕ) → shelved l.made x ≡ include_named x (take l.include-index l.includes)
