use Rattle.std.proofs.Common.{◌≡◌, ◌++◌, ◌∷◌, [], Some, None, List, cond, sym, ap, ◌∙◌}
use Rattle.std.specs.Map.{lookup}
use Rattle.indexmap.specs.IndexMap.{insert_entry}
use Rattle.read_record.specs.Numbered.{KeptNumbers}
use Rattle.read_record.proofs.StoreLaws.{none_more}
use Rattle.memo_table.specs.declared.name_key.NameKey.{NameKey}
use Rattle.memo_table.specs.declared.name_key.NameKey.TheVariants.{Kept}
use Rattle.memo_table.specs.NameKeys.{same_key}
use Rattle.memo_table.specs.Stored.{Listed}
use Rattle.memo_table.proofs.StoredLaws.{on_err, put-map, sound-added, sound-replaced, sound-same}
use Rattle.memo_table.proofs.keeping.keep.Goals as goal

pub returns-in_err-name-clause-grew : goal.returns-in_err-name-clause-grew
returns-in_err-name-clause-grew g c = ([], none_more c.args.store.now)

pub returns-in_err-reserve-clause-grew : goal.returns-in_err-reserve-clause-grew
returns-in_err-reserve-clause-grew g c = ([], none_more c.args.store.now)

pub returns-in_err-reserve-2-clause-grew : goal.returns-in_err-reserve-2-clause-grew
returns-in_err-reserve-2-clause-grew g c = ([], none_more c.args.store.now)

pub returns-in_err-entry-clause-sound : goal.returns-in_err-entry-clause-sound
returns-in_err-entry-clause-sound g c =
    (sound-same g.M.ItemMeaning.item c.args.store.now c.number.new.store c.args.entries.now.entries c.reserve.new.self.entries c.args.replaced.now.items c.reserve-2.new.self.items c.requires
    c.in_ok-reserve.ensures.entries c.in_ok-reserve-2.ensures.items c.in_err-entry.ensures.err).0

pub returns-in_err-entry-clause-grew : goal.returns-in_err-entry-clause-grew
returns-in_err-entry-clause-grew g c = ([], c.in_err-entry.ensures.err)

pub returns-in_err-entry-clause-err : goal.returns-in_err-entry-clause-err
returns-in_err-entry-clause-err g c =
    on_err c.from_residual-in_err-entry.result
    (sound-same g.M.ItemMeaning.item c.args.store.now c.number.new.store c.args.entries.now.entries c.reserve.new.self.entries c.args.replaced.now.items c.reserve-2.new.self.items c.requires
    c.in_ok-reserve.ensures.entries c.in_ok-reserve-2.ensures.items c.in_err-entry.ensures.err).1

pub returns-in-Some-clause-sound : goal.returns-in-Some-clause-sound
returns-in-Some-clause-sound g c =
    let es = c.args.entries.now.entries in
    let key : NameKey = Kept c.in_ok-name.name in
    let k = c.in_ok-entry.entry in
    let same = c.in_ok-reserve.ensures.entries in
    let put : c.put.new.values.entries ≡ insert_entry same_key es key k = c.in-Some.ensures.entries ∙ ap (λ (l : Listed). insert_entry same_key l key k) same in
    let there : lookup (same_key key) es ≡ Some c.in-Some.old = ap (λ (l : Listed). lookup (same_key key) l) (sym same) ∙ sym c.in-Some.ensures.replaced in
    sound-replaced g.M.ItemMeaning.item c.args.store.now c.number.new.store es c.put.new.values.entries c.args.replaced.now.items c.push_reserved.new.self.items key k c.args.entry.now c.requires c.in_ok-entry.ensures.held
    (c.in_ok-name.ensures ∙ c.name.ensures.name ∙ ap (λ e. e.name) c.as_entry.ensures) c.in_ok-entry.ensures.same c.in_ok-entry.ensures.certified put
    (λ asked. c.in-Some.ensures.finds asked ∙ ap (λ (l : Listed). cond (same_key key asked) (Some k) (lookup (same_key asked) l)) same)
    c.in-Some.old there
    (c.push_reserved.ensures.items ∙ ap (λ (xs : List KeptNumbers). xs ++ c.in-Some.old ∷ []) c.in_ok-reserve-2.ensures.items)

pub returns-in-Some-clause-grew : goal.returns-in-Some-clause-grew
returns-in-Some-clause-grew g c = (c.in_ok-entry.entry.reads, c.in_ok-entry.ensures.held)

pub returns-in-None-clause-grew : goal.returns-in-None-clause-grew
returns-in-None-clause-grew g c = (c.in_ok-entry.entry.reads, c.in_ok-entry.ensures.held)

pub returns-in-None-clause-sound : goal.returns-in-None-clause-sound
returns-in-None-clause-sound g c =
    let es = c.args.entries.now.entries in
    let key : NameKey = Kept c.in_ok-name.name in
    let k = c.in_ok-entry.entry in
    let same = c.in_ok-reserve.ensures.entries in
    let put : c.put.new.values.entries ≡ insert_entry same_key es key k = c.in-None.ensures.entries ∙ ap (λ (l : Listed). insert_entry same_key l key k) same in
    let none : lookup (same_key key) es ≡ None = ap (λ (l : Listed). lookup (same_key key) l) (sym same) ∙ sym c.in-None.ensures.replaced in
    sound-added g.M.ItemMeaning.item c.args.store.now c.number.new.store es c.put.new.values.entries c.args.replaced.now.items c.reserve-2.new.self.items key k c.args.entry.now c.requires c.in_ok-entry.ensures.held
    (c.in_ok-name.ensures ∙ c.name.ensures.name ∙ ap (λ e. e.name) c.as_entry.ensures) c.in_ok-entry.ensures.same c.in_ok-entry.ensures.certified put
    (λ asked. c.in-None.ensures.finds asked ∙ ap (λ (l : Listed). cond (same_key key asked) (Some k) (lookup (same_key asked) l)) same)
    none
    c.in_ok-reserve-2.ensures.items

pub returns-in-Some-clause-ok : goal.returns-in-Some-clause-ok
returns-in-Some-clause-ok g c =
    let es = c.args.entries.now.entries in
    let key : NameKey = Kept c.in_ok-name.name in
    let k = c.in_ok-entry.entry in
    let same = c.in_ok-reserve.ensures.entries in
    let put : c.put.new.values.entries ≡ insert_entry same_key es key k = c.in-Some.ensures.entries ∙ ap (λ (l : Listed). insert_entry same_key l key k) same in
    put-map g.M.ItemMeaning.item c.args.store.now c.number.new.store es c.put.new.values.entries c.args.replaced.now.items c.push_reserved.new.self.items key k c.args.entry.now c.requires c.in_ok-entry.ensures.held
    (c.in_ok-name.ensures ∙ c.name.ensures.name ∙ ap (λ e. e.name) c.as_entry.ensures) c.in_ok-entry.ensures.same c.in_ok-entry.ensures.certified put
    (λ asked. c.in-Some.ensures.finds asked ∙ ap (λ (l : Listed). cond (same_key key asked) (Some k) (lookup (same_key asked) l)) same)

pub returns-in-None-clause-ok : goal.returns-in-None-clause-ok
returns-in-None-clause-ok g c =
    let es = c.args.entries.now.entries in
    let key : NameKey = Kept c.in_ok-name.name in
    let k = c.in_ok-entry.entry in
    let same = c.in_ok-reserve.ensures.entries in
    let put : c.put.new.values.entries ≡ insert_entry same_key es key k = c.in-None.ensures.entries ∙ ap (λ (l : Listed). insert_entry same_key l key k) same in
    put-map g.M.ItemMeaning.item c.args.store.now c.number.new.store es c.put.new.values.entries c.args.replaced.now.items c.reserve-2.new.self.items key k c.args.entry.now c.requires c.in_ok-entry.ensures.held
    (c.in_ok-name.ensures ∙ c.name.ensures.name ∙ ap (λ e. e.name) c.as_entry.ensures) c.in_ok-entry.ensures.same c.in_ok-entry.ensures.certified put
    (λ asked. c.in-None.ensures.finds asked ∙ ap (λ (l : Listed). cond (same_key key asked) (Some k) (lookup (same_key asked) l)) same)
