use Rattle.std.proofs.Common.{◌≡◌, drop}
use Rattle.csv.specs.Records.{fields_of}
use Rattle.site_base.specs.Plain.{onto_pairs}
use Rattle.data_files.specs.Columns.{seen, picked}
use Rattle.data_files.proofs.tables.hash_of.Given as goal

abbrev pub invariant-loop-column : goal.invariant-loop-column
invariant-loop-column l = onto_pairs l.hash (picked (fields_of l.row) (drop l.column (seen l.places.entries))) ≡ picked (fields_of l.row) (seen l.places.entries)
