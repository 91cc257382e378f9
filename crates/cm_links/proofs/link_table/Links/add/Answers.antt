use Rattle.std.proofs.Common.{arith, ap, sym, subst, ◌≡◌, ◌∙◌, ℕ, length, string_bytes, encode_utf8_all}
use Rattle.markdown_grammar.specs.Labels.{label_key}
use Rattle.cm_links.specs.Table.{NotesFirst}
use Rattle.std.proofs.lemmas.Str.{IsUtf8-had}
use Rattle.cm_links.proofs.TableLaws.{index_more}
use Rattle.cm_links.proofs.link_table.Links.add.Goals as goal

pub invariant_of-self-in-Ok-note_first : goal.invariant_of-self-in-Ok-note_first
invariant_of-self-in-Ok-note_first c =
    let n : length c.self.inside.definitions.items ≡ c.len-place.result = omega (arith, c.self.inside.definitions.ok.0, c.len-place.ensures) in
    let P : ℕ → Type 0 = λ place. NotesFirst c.self.inside.places c.note_first.new.places (string_bytes c.in_ok-key.key) place in
    rw c.in-Ok.ensures.items
    (index_more c.self.inside.places c.note_first.new.places c.self.inside.definitions.items c.args.definition (string_bytes c.in_ok-key.key) (IsUtf8-had _ c.in_ok-key.key.ok) (c.in_ok-key.ensures ∙ ap (λ t. encode_utf8_all (label_key t)) c.as_str.ensures) c.self.invariant (subst P (sym n) c.in-Ok-note_first.ensures.ok))
