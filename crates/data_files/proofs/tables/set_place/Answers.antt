use Rattle.std.proofs.Common.{ℕ, List, Option, ap, sym, ◌∙◌}
use Rattle.std.specs.Option.{option_copied}
use Rattle.std.specs.Str.{bytes_eq}
use Rattle.indexmap.specs.IndexMap.{insert_entry}
use Rattle.data_files.specs.Columns.{seen, place_set}
use Rattle.data_files.proofs.TableLaws.{seen_insert}
use Rattle.data_files.proofs.tables.set_place.Goals as goal

pub returns-in_ok-insert : goal.returns-in_ok-insert
returns-in_ok-insert c =
    let old = c.args.places.now.entries in let place = c.args.place in
    ap seen c.in_ok-insert.ensures.entries ∙ seen_insert old c.in_ok-from_str.field-0 place
    ∙ ap (λ (name : List ℕ). insert_entry bytes_eq (seen old) name place) c.in_ok-from_str.ensures.ok
    ∙ ap (λ (name : Option (List ℕ)). place_set name place (seen old)) (sym (ap option_copied c.in-Some.is))
