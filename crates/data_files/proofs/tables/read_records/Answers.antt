use Rattle.std.proofs.Common.{Bor, List, ℕ, ◌∙◌, ap, sym, refl, inl, inr, Some, ◌∷◌, ◌++◌, []}
use Rattle.csv.specs.Reading.{Reached, strip_bom}
use Rattle.csv.specs.Records.{fields_of}
use Rattle.csv.specs.declared.parser.Config.{Config}
use Rattle.csv.specs.declared.parser.State.TheVariants as st
use Rattle.csv.proofs.ReadFacts.{rows-more}
use Rattle.data_files.specs.Columns.{GoesOn}
use Rattle.data_files.specs.Tables.{separated}
use Rattle.data_files.proofs.RecordLaws.{ok_and}
use Rattle.data_files.proofs.tables.read_records.Goals as goal

pub loop-row-init : goal.loop-row-init
unfolding Reached
loop-row-init c =
    let fr = c.from_reader-rdr.ensures in
    let headers = c.has_headers.ensures in
    let lengths = c.flexible.ensures in
    let separator = c.delimiter.ensures in
    let start = c.into_iter-row-iterator.ensures.into_iter_gives ∙ refl in
    let rdr = c.into_records-row-items.ensures.rdr in
    let left = c.into_records-row-items.ensures.left in
    rw (start, rdr) (
      rw (separator, lengths, headers) at fr.trim ∙ c.new.ensures.trim,
      inr (inr (rw (separator, lengths, headers) at fr.has_headers, fr.headers)),
      left,
      rw (separator, lengths, headers) at fr.config ∙ ap (λ (k : Config). record k { delimiter = c.args.separator }) c.new.ensures.config,
      strip_bom c.args.text.now,
      fr.source,
      [],
      (sym fr.state, refl),
      refl,
    )

pub loop-row-preserved : goal.loop-row-preserved
loop-row-preserved c =
    let inv = c.loop-row.invariant in
    let found = ok_and c.in-Some.row (λ found. GoesOn c.loop-row.table (fields_of found) c.in_ok-table.table) c.in_ok-table.ensures in
    let row = fields_of found.0 in
    let s = rw (c.in-Some.is, found.1) at ((c.next.ensures.steps inv.2 inv.0).0 inv.1) in
    let m = rows-more (λ (s : Bor (List ℕ)). Some s.now) c.loop-row.row-iterator.rdr c.next.new.self.rdr row (separated c.args.separator) st.StartRecord (strip_bom c.args.text.now) inv.4 inv.6 inv.3 inv.5 inv.7 s.0 in
    (s.0.3 ∙ inv.0, inl s.1, s.3, s.0.2 ∙ inv.3, m.0, m.1, inv.6 ++ row ∷ [], m.2, found.2 inv.6 inv.8)
