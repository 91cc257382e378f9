use Rattle.std.proofs.Common.{◌≡◌, drop, map}
use Rattle.site_base.specs.Plain.{no_pairs}
use Rattle.site_reader.specs.Data.{add_data}
use Rattle.site_reader.specs.Found.{each}
use Rattle.site_reader.specs.Placing.{seen}
use Rattle.site_reader.proofs.data.data_tree.Given as goal

abbrev pub invariant-loop-file : goal.invariant-loop-file
invariant-loop-file l = each add_data (map seen (drop l.file-index l.files)) l.tree ≡ each add_data (map seen l.files) no_pairs
