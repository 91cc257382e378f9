use Rattle.std.proofs.Common.{◌≡◌, drop, map, []}
use Rattle.site_reader.specs.Sites.{add_include}
use Rattle.site_reader.specs.Found.{each}
use Rattle.site_reader.specs.Placing.{seen}
use Rattle.site_reader.proofs.includes.include_list.Given as goal

abbrev pub invariant-loop-file : goal.invariant-loop-file
invariant-loop-file l = each add_include (map seen (drop l.file-index l.files)) l.includes.items ≡ each add_include (map seen l.files) []
