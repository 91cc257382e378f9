use Rattle.std.proofs.Common.{◌≡◌, drop, map, []}
use Rattle.site_reader.specs.Sites.{add_layout}
use Rattle.site_reader.specs.Found.{each}
use Rattle.site_reader.specs.Placing.{seen}
use Rattle.site_reader.proofs.layouts.named_layouts.Given as goal

abbrev pub invariant-loop-file : goal.invariant-loop-file
invariant-loop-file l = each add_layout (map seen (drop l.file-index l.files)) l.layouts.entries ≡ each add_layout (map seen l.files) []
