use Rattle.std.proofs.Common.{◌≡◌, ◌++◌, ◌∷◌, [], None, Some, sym, ap, subst, ◌∙◌, rules}
use Rattle.std.specs.Map.{lookup}
use Rattle.indexmap.proofs.CallerLemmas.{insert_entry-new}
use Rattle.slab.specs.Slab.{Updates}
use Rattle.text_pool.specs.declared.text_key.TextKey.{TextKey}
use Rattle.text_pool.specs.declared.text_key.TextKey.TheVariants.{Kept}
use Rattle.text_pool.specs.Layout.{as_texts, IsSound}
use Rattle.text_pool.specs.TextKeys.{same_key}
use Rattle.text_pool.specs.Texts.{Lacks, count_of, with_id}
use Rattle.text_pool.proofs.TableLaws.{added, finds_no_key}
use Rattle.text_pool.proofs.text_table.TextTable.add.Goals as goal

all : (c : goal.After-insert_reserved) → IsSound c.insert.new.self.entries c.insert_reserved.new.self
    × (as_texts c.insert.new.self.entries c.insert_reserved.new.self ≡ with_id (as_texts c.self.inside.numbers.entries c.self.inside.slots) c.vacant_key-number.result c.args.bytes.now)
    × (count_of (as_texts c.self.inside.numbers.entries c.self.inside.slots) c.vacant_key-number.result ≡ 0)
all c =
    let es = c.self.inside.numbers.entries in
    let slots = c.self.inside.slots in
    let number = c.vacant_key-number.result in
    let key : TextKey = Kept c.in_ok-to_vec.field-0 in
    let text : c.in_ok-to_vec.field-0.items ≡ c.args.bytes.now = search rules in
    let lacks : Lacks (as_texts es slots) c.in_ok-to_vec.field-0.items = subst (λ t. Lacks t c.in_ok-to_vec.field-0.items) (sym c.self.view_is) (subst (Lacks c.args.self.now) (sym text) c.requires) in
    let none : lookup (same_key key) es ≡ None = finds_no_key es slots c.self.invariant c.in_ok-to_vec.field-0.items lacks in
    let pushed : c.insert.new.self.entries ≡ es ++ (key, number) ∷ [] = c.in_ok-insert.ensures.entries ∙ insert_entry-new same_key c.self.inside.numbers key number none in
    let up : Updates c.reserve.new.self c.insert_reserved.new.self number (Some (record { place = c.len-place.result; count = 1 })) =
    subst (λ k. Updates c.reserve.new.self c.insert_reserved.new.self k (Some (record { place = c.len-place.result; count = 1 }))) (c.insert_reserved.ensures.key ∙ sym c.vacant_key-number.ensures.value) c.insert_reserved.ensures.updates
    in
    added es c.insert.new.self.entries slots c.reserve.new.self c.insert_reserved.new.self number c.len-place.result key c.args.bytes.now c.self.invariant c.in_ok-reserve.ensures.rest_kept c.vacant_key-number.ensures.vacant
    c.len-place.ensures.len pushed text up

pub invariant_of-self-2 : goal.invariant_of-self-2
invariant_of-self-2 c = (all c).0

pub returns-clause-ok : goal.returns-clause-ok
returns-clause-ok c = (all c).1 ∙ ap (λ t. with_id t c.vacant_key-number.result c.args.bytes.now) c.self.view_is

pub returns-clause-free : goal.returns-clause-free
returns-clause-free c = ap (λ t. count_of t c.vacant_key-number.result) (sym c.self.view_is) ∙ (all c).2
