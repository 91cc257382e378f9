use Rattle.std.proofs.Common.{◌≡◌, length}
use denote.Shadow.{shadow}
use denote.Text.{Utf8}
use Rattle.site_base.specs.Path.{segments}
use Rattle.site_items.specs.Addresses.{behind_posts}
use Rattle.site_world.proofs.posts.behind_posts.Given as goal

abbrev pub invariant-loop-segment : goal.invariant-loop-segment
invariant-loop-segment l = shadow (Utf8 l.rest) × (behind_posts (segments l.rest) ≡ behind_posts (segments l.path))

abbrev pub decreases-loop-segment : goal.decreases-loop-segment
decreases-loop-segment l = length l.rest
