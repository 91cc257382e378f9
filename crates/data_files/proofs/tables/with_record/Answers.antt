use Rattle.std.proofs.Common.{List, ℕ, ◌∷◌, [], ◌++◌, ◌∙◌, ap, subst}
use Rattle.csv.specs.Records.{fields_of}
use Rattle.data_files.specs.Columns.{IsOf}
use Rattle.data_files.proofs.TableLaws.{one_more_row}
use Rattle.data_files.specs.declared.tables.Table.{Table}
use Rattle.data_files.proofs.tables.with_record.Goals as goal

pub returns-in_ok-list-in-Rows : goal.returns-in_ok-list-in-Rows
returns-in_ok-list-in-Rows c rows is_of =
    let row = fields_of c.args.row.now in
    let h = subst (λ (t : Table). IsOf t rows) c.in-Rows.is is_of in
    (h.0, h.1 ++ row ∷ [], ap (λ (rs : List (List (List ℕ))). rs ++ row ∷ []) h.2, h.3, c.in_ok-list-in-Rows.ensures ∙ one_more_row c.in-Rows.columns h.0 h.1 row c.in-Rows.list h.3 h.4)
