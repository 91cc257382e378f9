-- What a store holds once nothing waits: just the reads of the entries that are kept.
use Rattle.std.proofs.Common.{◌≡◌, ℕ, zero, suc, ◌+◌, false, cond, List, [], ◌∷◌, ◌++◌, map, length, slice_get, option_map, Option, Some, None, refl, sym, ap, subst, ◌∙◌, arith}
use Rattle.std.proofs.lemmas.List.{append-nil, length-append}
use Rattle.std.proofs.lemmas.Map.Entries.{lookup_from_place}
use Rattle.std.proofs.lemmas.Map.Keys.{IsDistinct-head, IsDistinct-tail}
use Rattle.std.specs.FinMap.{empty, entries, from_entries, get, get-empty, insert}
use Rattle.std.specs.List.{AllByRecursion, IsDistinct}
use Rattle.std.specs.Map.{keys_of, lookup, values_of}
use Rattle.std.specs.Option.{option_map_or}
use Rattle.text_pool.specs.Texts.{held_ids}
use Rattle.text_pool.proofs.TextLaws.{count-empty}
use Rattle.site_base.specs.declared.item_name.ItemName.{ItemName}
use Rattle.read_record.specs.Entries.{Kept}
use Rattle.read_record.specs.Numbered.{KeptNumbers, entry_in}
use Rattle.read_record.specs.Stores.{Store, Numbers, code_numbers, HasMore}
use Rattle.read_record.proofs.StoreLaws.{length-resolved}
use Rattle.memo_table.specs.declared.name_key.NameKey.{NameKey}
use Rattle.memo_table.specs.Entries.{AreNamed}
use Rattle.memo_table.specs.Names.{name_cmp, same_name}
use Rattle.memo_table.specs.NameKeys.{name_of, same_key}
use Rattle.memo_table.specs.SameNames.{name_cmp_total, same_key-equiv}
use Rattle.memo_table.specs.Stored.{Listed, resolved_all, as_entries, all_reads, no_reads, HoldsJust, HoldsKept, read_count}
use Rattle.memo_table.proofs.CountLaws.{total-insert, total-nothing, ids-listed}
use Rattle.memo_table.proofs.EntryLaws.{same, get-with}
use Rattle.memo_table.proofs.PlaceLaws.{get-as_map}
use Rattle.memo_table.proofs.StoredLaws.{get-resolved}

-- ---- names that differ

all-named : (k : NameKey) (ks : List NameKey) → AllByRecursion (λ y. same_key k y ≡ false) ks → AllByRecursion (λ y. same_name (name_of k) y ≡ false) (map name_of ks)
all-named k [] a = tt
all-named k (l ∷ ks) a = (a.0, all-named k ks a.1)

distinct-names : (ks : List NameKey) → IsDistinct same_key ks → IsDistinct same_name (map name_of ks)
unfolding IsDistinct
distinct-names [] d = tt
distinct-names (k ∷ ks) d = (all-named k ks d.0, distinct-names ks d.1)

absent-in : (k : NameKey) (es : Listed) → AllByRecursion (λ y. same_key k y ≡ false) (keys_of es) → lookup (same_key k) es ≡ None
absent-in k [] a = refl
absent-in k (e ∷ es) a = ap (λ b. cond b (Some e.1) (lookup (same_key k) es)) a.0 ∙ absent-in k es a.1

-- ---- entries under their own names

abbrev Own : Listed → Type 0
Own es = (p : ℕ) (e : NameKey × KeptNumbers) → slice_get es p ≡ Some e → e.1.name ≡ name_of e.0

own-behind : (e : NameKey × KeptNumbers) (es : Listed) → Own (e ∷ es) → Own es
own-behind e es own p f at = own (suc p) f at

names-are : (es : Listed) → Own es → map (λ k. k.name) (values_of es) ≡ map name_of (keys_of es)
names-are [] own = refl
names-are (e ∷ es) own = λ i. own zero e refl i ∷ names-are es (own-behind e es own) i

module _ (store : Store) where
  own-names : (es : Listed) → IsDistinct same_key (keys_of es) → AreNamed (as_entries store es) → Own es
  own-names es distinct named p e at =
      let there : lookup (same_key e.0) es ≡ Some e.1 = lookup_from_place same_key-equiv es p e.0 e.1 distinct at in
      named (name_of e.0) (entry_in store e.1) (get-resolved store es (name_of e.0) ∙ ap (option_map (entry_in store)) (get-as_map es (name_of e.0) ∙ there))

  under-names : (es : Listed) → Own es → map {B = ItemName × Kept} (λ k. (k.name, entry_in store k)) (values_of es) ≡ map {B = ItemName × Kept} (λ e. (name_of e.0, e.1)) (resolved_all store es)
  under-names [] own = refl
  under-names (e ∷ es) own = λ i. (own zero e refl i, entry_in store e.1) ∷ under-names es (own-behind e es own) i

  pub holds-kept : (es : Listed) → IsDistinct same_key (keys_of es) → AreNamed (as_entries store es) → HoldsJust store es [] → HoldsKept store (as_entries store es)
  holds-kept es distinct named just =
      let own = own-names es distinct named in
      record {
        kept = values_of es;
        differ = subst (IsDistinct same_name) (sym (names-are es own)) (distinct-names (keys_of es) distinct);
        are = ap from_entries (under-names es own);
        just = subst (HasMore no_reads store) (ap all_reads (append-nil (values_of es))) just;
      }

  -- ---- how many reads there are

  abbrev many : Kept → ℕ
  many kept = length kept.reads

  one-more : (e : NameKey × KeptNumbers) (es : Listed) → as_entries store (e ∷ es) ≡ insert (as_entries store es) (name_of e.0) (entry_in store e.1)
  one-more e es =
      same (as_entries store (e ∷ es)) (insert (as_entries store es) (name_of e.0) (entry_in store e.1)) (λ q. get-as_map (resolved_all store (e ∷ es)) q
      ∙ ap (λ (o : Option Kept). cond (same_name q (name_of e.0)) (Some (entry_in store e.1)) o) (sym (get-as_map (resolved_all store es) q))
      ∙ sym (get-with (as_entries store es) (name_of e.0) (entry_in store e.1) q))

  reads-counted : (es : Listed) → IsDistinct same_key (keys_of es) → read_count (as_entries store es) ≡ length (all_reads (values_of es))
  reads-counted [] distinct = total-nothing name_cmp name_cmp_total many empty (λ q. ap (λ (o : Option Kept). option_map_or many o 0) (get-empty name_cmp q))
  reads-counted (e ∷ es) distinct =
      let n = name_of e.0 in
      let absent : get (as_entries store es) n ≡ None = get-resolved store es n
      ∙ ap (option_map (entry_in store)) (get-as_map es n ∙ absent-in e.0 es (IsDistinct-head same_key e.0 (keys_of es) distinct)) in
      let none : option_map_or many (get (as_entries store es) n) 0 ≡ 0 = ap (λ (o : Option Kept). option_map_or many o 0) absent in
      let more : read_count (as_entries store (e ∷ es)) ≡ read_count (insert (as_entries store es) n (entry_in store e.1)) = ap read_count (one-more e es) in
      let sum = total-insert name_cmp name_cmp_total many (as_entries store es) n (entry_in store e.1) in
      let rest = reads-counted es (IsDistinct-tail same_key e.0 (keys_of es) distinct) in
      omega (arith, none, more, sum, rest, length-resolved store e.1.reads, length-append e.1.reads (all_reads (values_of es)))

  length-codes : (reads : Numbers) → length (code_numbers reads) ≡ length reads
  length-codes [] = refl
  length-codes (r ∷ reads) = ap suc (length-codes reads)

  pub count-kept : (es : Listed) → IsDistinct same_key (keys_of es) → HoldsJust store es [] → held_ids store.codes ≡ read_count (as_entries store es)
  count-kept es distinct just =
      let reads = all_reads (values_of es ++ []) in
      ids-listed store.codes (code_numbers reads) (λ q. omega (arith, just.codes.counts q, count-empty q))
      ∙ length-codes reads
      ∙ ap (λ (ks : List KeptNumbers). length (all_reads ks)) (append-nil (values_of es))
      ∙ sym (reads-counted es distinct)
