use Rattle.std.proofs.Common.{◌≡◌, drop, map, []}
use Rattle.site_reader.specs.Ruled.{ruled_item}
use Rattle.site_reader.specs.Found.{each}
use Rattle.site_reader.specs.Ranks.{in_order}
use Rattle.site_reader.specs.Placing.{seen}
use Rattle.site_reader.proofs.items.read_items.Given as goal

abbrev pub invariant-loop-file : goal.invariant-loop-file
invariant-loop-file l = each (ruled_item l.rules) (map seen (drop l.file-index l.files)) (in_order l.items.items) ≡ each (ruled_item l.rules) (map seen l.files) []
