use Rattle.std.proofs.Common.{◌≡◌, ◌++◌, drop}
use Rattle.std.specs.Prelude.{filter_map}
use Rattle.site_reader.specs.Generating.{if_mapped}
use Rattle.site_reader.proofs.mapping.listed_of.Given as goal

abbrev pub invariant-loop-entry : goal.invariant-loop-entry
invariant-loop-entry l = l.pages.items ++ filter_map (if_mapped l.items l.copies) (drop l.entry-index l.won) ≡ filter_map (if_mapped l.items l.copies) l.won
