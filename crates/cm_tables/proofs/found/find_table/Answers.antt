use Rattle.std.proofs.Common.{◌∙◌, ◌≡◌, ◌∷◌, [], ap, subst, option_map}
use Rattle.std.specs.Prelude.{IfOk}
use Rattle.cm_tables.specs.Found.{shown}
use Rattle.cm_tables.specs.Rows.{lines_in}
use Rattle.cm_tables.proofs.RowLaws.{in_lines}
use Rattle.cm_tables.proofs.found.find_table.Goals as goal

pub returns-in-Some : goal.returns-in-Some
returns-in-Some c =
    let lines = c.first_line.ensures ∙ ap (λ below. c.first_line.result.0.now ∷ lines_in below) c.in-Some.is in
    subst (λ table. IfOk c.table_under.result (λ found. option_map shown found ≡ table)) (in_lines c.args.text.now _ _ lines) c.table_under.ensures

pub returns-in-None : goal.returns-in-None
returns-in-None c =
    let lines = c.first_line.ensures ∙ ap (λ below. c.first_line.result.0.now ∷ lines_in below) c.in-None.is in
    in_lines c.args.text.now _ [] lines
