use Rattle.std.proofs.Common.{◌≡◌, ℕ, List, take}
use Rattle.site_world.specs.Named.{named}
use Rattle.site_world.specs.Sights.{post_named}
use Rattle.site_world.proofs.posts.posts.Given as goal

abbrev pub invariant-loop-item : goal.invariant-loop-item
invariant-loop-item l = (x : List ℕ) → named l.made x ≡ post_named x (take l.item-index l.items)
