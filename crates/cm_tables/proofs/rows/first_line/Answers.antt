use Rattle.std.proofs.Common.{lit<}
use Rattle.std.specs.Prelude.{None, Some}
use Rattle.std.proofs.lemmas.Str.Pattern.{split_once_first}
use Rattle.cm_tables.proofs.RowLaws.{first_of, only_line}
use Rattle.cm_tables.proofs.rows.first_line.Goals as goal

pub returns-in-Some : goal.returns-in-Some
returns-in-Some c =
    let cut = split_once_first 10 c.args.text.now (Some (c.in-Some.line, c.in-Some.below)) c.in-Some.ensures.cases (lit< tt) in
    rw (cut.1, cut.2) (first_of c.args.text.now cut.0)

pub returns-in-None : goal.returns-in-None
returns-in-None c = only_line c.args.text.now (split_once_first 10 c.args.text.now None c.in-None.ensures.cases (lit< tt))
