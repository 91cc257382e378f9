use Rattle.std.proofs.Common.{◌≡◌, ◌++◌, map, drop}
use Rattle.std.specs.FinMap as finite
use Rattle.site_items.specs.Defaults.{by_strength}
use Rattle.site_reader.specs.Placements.{AreKnown}
use Rattle.site_reader.specs.Placing.{placed, seen}
use Rattle.site_reader.proofs.placing.placed_files.Given as goal

abbrev pub invariant-loop-number : goal.invariant-loop-number
invariant-loop-number l =
    (map seen l.files.items ++ map (placed l.config l.drafts) (drop l.number (finite.entries l.held)) ≡ map (placed l.config l.drafts) (finite.entries l.held))
    × AreKnown l.config (by_strength l.config.defaults) l.files.items
