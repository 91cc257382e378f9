use Rattle.std.proofs.Common.{◌+◌, ap, sym, ◌∙◌, drop, arith}
use Rattle.std.proofs.lemmas.List.{length-map}
use Rattle.csv.specs.Records.{fields_of}
use Rattle.site_base.specs.Plain.{Pairs, onto_pairs}
use Rattle.data_files.specs.Columns.{named, seen, picked}
use Rattle.data_files.proofs.TableLaws.{next_column, last_column}
use Rattle.data_files.proofs.tables.hash_of.Goals as goal

pub loop-column-preserved : goal.loop-column-preserved
loop-column-preserved c =
    let fields = fields_of c.args.row.now in let columns = seen c.args.places.now.entries in let i = c.loop-column.column in
    ap (λ (h : Pairs). onto_pairs h (picked fields (drop (i + 1) columns))) c.in_ok-push_field.ensures
    ∙ next_column fields columns i c.loop-column.hash ∙ c.loop-column.invariant

pub returns : goal.returns
returns c =
    let fields = fields_of c.args.row.now in let columns = seen c.args.places.now.entries in
    sym (last_column fields columns c.loop-column.column c.loop-column.hash (omega (arith, c.loop-column-test.false, c.len-column-end.ensures.len, length-map c.args.places.now.entries named))) ∙ c.loop-column.invariant
