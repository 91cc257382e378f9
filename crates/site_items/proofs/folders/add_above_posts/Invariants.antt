use Rattle.std.proofs.Common.{◌≡◌, length}
use Rattle.std.specs.Prelude.{fold}
use denote.Shadow.{shadow}
use denote.Text.{Utf8}
use Rattle.site_base.specs.Path.{segments}
use Rattle.site_items.specs.Addresses.{above_posts}
use Rattle.site_items.specs.Labels.{add_name}
use Rattle.site_items.proofs.folders.add_above_posts.Given as goal

abbrev pub invariant-loop-segment : goal.invariant-loop-segment
invariant-loop-segment l = shadow (Utf8 l.rest) × (fold add_name l.names (above_posts (segments l.rest)) ≡ fold add_name l.initial.names (above_posts (segments l.path)))

abbrev pub decreases-loop-segment : goal.decreases-loop-segment
decreases-loop-segment l = length l.rest
