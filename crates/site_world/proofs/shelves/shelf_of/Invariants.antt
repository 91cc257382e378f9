use Rattle.std.proofs.Common.{◌≡◌, ℕ, List, take}
use Rattle.site_base.specs.Plain.{get}
use Rattle.site_base.specs.View.{pairs_of}
use Rattle.site_world.specs.Shelves.{shelved}
use Rattle.site_world.proofs.shelves.shelf_of.Given as goal

abbrev pub invariant-loop-pair : goal.invariant-loop-pair
invariant-loop-pair l = (x : List ℕ) → shelved l.made x ≡ get x (pairs_of (take l.pair-index l.pairs))
