use Rattle.std.proofs.Common.{◌≡◌, [], drop}
use Rattle.csv.specs.Records.{fields_of}
use Rattle.data_files.specs.Columns.{seen, placed}
use Rattle.data_files.proofs.tables.columns_of.Given as goal

abbrev pub invariant-loop-place : goal.invariant-loop-place
invariant-loop-place l = placed (drop l.place (fields_of l.names)) l.place (seen l.places.entries) ≡ placed (fields_of l.names) 0 []
