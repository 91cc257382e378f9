use Rattle.std.proofs.Common.{◌≡◌, ◌<◌, ℕ, List, Some}
use Rattle.csv.specs.Reading.{Reached, Ready, source_of, strip_bom}
use Rattle.csv.specs.declared.parser.State.TheVariants as st
use Rattle.csv.specs.declared.reader.Trim.TheVariants as trim
use Rattle.data_files.specs.Columns.{IsOf}
use Rattle.data_files.specs.Tables.{separated}
use Rattle.data_files.proofs.tables.read_records.Given as goal

abbrev pub invariant-loop-row : goal.invariant-loop-row
invariant-loop-row l = (l.row-iterator.rdr.trim ≡ trim.None) × Ready l.row-iterator.rdr × (0 < l.row-iterator.left) × (l.row-iterator.rdr.config ≡ separated l.separator)
    × (y : List ℕ) × (source_of (λ s. Some s.now) l.row-iterator.rdr ≡ Some y)
    × (rows : List (List (List ℕ))) × Reached (separated l.separator) st.StartRecord (strip_bom l.fn.text) rows l.row-iterator.rdr.state y
    × IsOf l.table rows
