use Rattle.std.proofs.Common.{◌≡◌, None, ap, is_some, ◌∙◌, string_bytes}
use Rattle.std.specs.HashMap.{get_by_text}
use Rattle.std.proofs.lemmas.Map.Text.{hash_map_updates_text}
use Rattle.cm_links.proofs.TableLaws.{first_noted, none_there}
use Rattle.cm_links.proofs.link_table.note_first.Goals as goal
use Rattle.cm_links.proofs.link_table.note_first.Goals.{in-Ok, in-Err}

pub returns-clause-ok : goal.returns-clause-ok
returns-clause-ok c =
    let none : get_by_text c.args.places.now (string_bytes c.args.key) ≡ None =
    none_there (get_by_text c.args.places.now (string_bytes c.args.key)) c.contains_key.result
    (c.contains_key.ensures ∙ ap (λ t. is_some (get_by_text c.args.places.now t)) c.as_str.ensures.value) c.if-contains_key.false in
    elim c.match-insert.branch [
      | in-Ok w ↦ rw w.result-is (first_noted c.args.places.now c.insert.new.self (string_bytes c.args.key) c.args.place none (hash_map_updates_text (string_bytes c.args.key) c.args.places.now c.insert.new.self _ w.in-Ok.ensures.updates))
      | in-Err w ↦ rw w.result-is tt
    ]
