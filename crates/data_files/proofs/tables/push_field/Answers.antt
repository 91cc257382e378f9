use Rattle.std.proofs.Common.{◌≡◌, ℕ, List, Option, Some, option_map, ap, sym, ◌∙◌}
use Rattle.std.specs.Prelude.{string_bytes, slice_get}
use Rattle.std.proofs.lemmas.Option.{slice_get-map}
use Rattle.csv.specs.Records.{fields_of}
use Rattle.site_base.specs.Plain.{Plain, pair, no_pairs, onto_pairs}
use Rattle.site_base.specs.View.{plain}
use Rattle.data_files.specs.Columns.{named, seen, with_field, text_or_nil}
use Rattle.data_files.proofs.tables.push_field.Goals as goal

pub returns-in_ok-push : goal.returns-in_ok-push
returns-in_ok-push c =
    let old = c.args.hash.now in let columns = c.args.places.now.entries in let name = string_bytes c.in-Some.name.now in
    let at : Some (name, c.in-Some.place.now) ≡ slice_get (seen columns) c.args.column = ap (option_map named) c.in-Some.ensures.entry ∙ sym (slice_get-map named columns c.args.column) in
    c.in_ok-push.ensures.ok
    ∙ ap (λ (k : List ℕ). onto_pairs old (pair k (plain c.in_ok-field.field) no_pairs)) (c.in_ok-copy.ensures ∙ c.as_str.ensures.value)
    ∙ ap (λ (v : Plain). onto_pairs old (pair name v no_pairs)) (c.in_ok-field.ensures ∙ ap text_or_nil c.get.ensures.value)
    ∙ ap (λ (column : Option (List ℕ × ℕ)). with_field (fields_of c.args.row.now) column old) at

pub returns-in_default : goal.returns-in_default
returns-in_default c =
    let columns = c.args.places.now.entries in
    let none = ap (option_map named) c.in_default.ensures.entry ∙ sym (slice_get-map named columns c.args.column) in
    ap (λ (column : Option (List ℕ × ℕ)). with_field (fields_of c.args.row.now) column c.args.hash.now) none
