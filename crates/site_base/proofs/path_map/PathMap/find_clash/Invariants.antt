use Rattle.std.specs.FinMap.{keys}
use Rattle.site_base.specs.PathMap.{as_map}
use Rattle.site_base.specs.Clash.{has_below}
use Rattle.site_base.proofs.Clashing.{Searched}
use Rattle.site_base.proofs.path_map.PathMap.find_clash.Given as goal

abbrev pub invariant-loop-entry : goal.invariant-loop-entry
invariant-loop-entry g l = Searched (λ folder. has_below folder (keys (as_map l.self))) l.entry-items l.entry-index
