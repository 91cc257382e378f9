-- The members of an object, found one after another, and the hash that they make.
use Rattle.std.proofs.Common.{◌≡◌, ℕ, List, [], ◌∷◌, Option, Some, None, option_map, option_and_then, Ordering, Less, Equal, Greater, Bor, nat_cmp, bytes_eq, false, is_eq, refl, sym, ap, ◌∙◌}
use Rattle.std.specs.Prelude.{⊤}
use Rattle.std.specs.Cmp.Lexicographic.{slice_cmp}
use Rattle.std.specs.List.{AllByRecursion}
use Rattle.std.specs.List.Sorted.{IsStrictlySortedBy}
use Rattle.std.specs.Map.{keys_of}
use Rattle.std.specs.Ordering.{match_ordering, ordering_reverse}
use Rattle.std.specs.BTreeMap.{insert_entry}
use Rattle.std.proofs.lemmas.Cmp.{nat_list_cmp_total}
use Rattle.std.proofs.lemmas.Map.Text.{is_eq-slice_cmp}
use Rattle.json.specs.Token.{Token}
use Rattle.json.specs.Json as json
use Rattle.json.specs.Json.{parse_map}
use Rattle.serde_json.specs.Data.{Data, Members, no_members, member, object, put}
use Rattle.serde_json.specs.Read.{of_json, of_members, converted}
use Rattle.site_base.specs.Plain.{Plain, hash, Pairs, no_pairs, pair, onto_pairs, set}
use Rattle.site_base.specs.View.{plain}
use Rattle.site_base.specs.declared.value.Value.{Value}
use Rattle.data_files.specs.Json.{of_data, set_members}
use Rattle.data_files.specs.Readings.{reading, Found, members_reading, seen, set_all, object_of}

abbrev pub Entry : Type 0
Entry = Bor (List ℕ) × Option Value

abbrev pub key_cmp : Bor (List ℕ) → Bor (List ℕ) → Ordering
key_cmp k l = slice_cmp nat_cmp k.now l.now

-- ---- the members of data

abbrev entries_of : Members → Found
entries_of no_members = []
entries_of (member k d ms) = (k, of_data d) ∷ entries_of ms

entries_match : (o : Ordering) (a b c : Members) → entries_of (match_ordering o a b c) ≡ match_ordering o (entries_of a) (entries_of b) (entries_of c)
entries_match Less a b c = refl
entries_match Equal a b c = refl
entries_match Greater a b c = refl

entries_put : (k : List ℕ) (d : Data) (ms : Members) → entries_of (put k d ms) ≡ insert_entry (slice_cmp nat_cmp) (entries_of ms) k (of_data d)
entries_put k d no_members = refl
entries_put k d (member l e ms) = entries_match (slice_cmp nat_cmp k l) _ _ _ ∙ rw (entries_put k d ms)

found_step : (k : List ℕ) (js : json.Members) (old : Members) (x : Option Data)
    → ((found : Members) → option_map entries_of (of_members js found) ≡ members_reading (entries_of found) js)
    → option_map entries_of (option_and_then (λ d. of_members js (put k d old)) x)
    ≡ option_and_then (λ read. members_reading (insert_entry (slice_cmp nat_cmp) (entries_of old) k read) js) (option_map of_data x)
found_step k js old None later = refl
found_step k js old (Some d) later = later (put k d old) ∙ ap (λ es. members_reading es js) (entries_put k d old)

members_found : (js : json.Members) (old : Members) → option_map entries_of (of_members js old) ≡ members_reading (entries_of old) js
members_found json.no_members old = refl
members_found (json.member k j js) old = found_step k js old (of_json j) (members_found js)

and_then_same : {A B : Type 0} (f g : A → Option B) (x : Option A) → ((a : A) → f a ≡ g a) → option_and_then f x ≡ option_and_then g x
and_then_same f g None e = refl
and_then_same f g (Some a) e = e a

set_members_all : (ms : Members) (ps : Pairs) → set_members ms ps ≡ set_all (entries_of ms) ps
set_members_all no_members ps = refl
set_members_all (member k d ms) ps = and_then_same (λ v. set_members ms (set k v ps)) (λ v. set_all (entries_of ms) (set k v ps)) (of_data d) (λ v. set_members_all ms (set k v ps))

object_twice : (r : List Token) (x : Option Members)
    → option_map (λ b. (b, r)) (option_map of_data (option_map object x)) ≡ parse_map object_of (option_map (λ b. (b, r)) (option_map entries_of x))
object_twice r None = refl
object_twice r (Some ms) = ap (λ ps. Some (option_map hash ps, r)) (set_members_all ms no_pairs)

pub reading-object : (o : Option (json.Members × List Token)) → converted reading (parse_map json.object o) ≡ parse_map object_of (converted (members_reading []) o)
reading-object None = refl
reading-object (Some p) = object_twice p.1 (of_members p.0 no_members) ∙ ap (λ x. parse_map object_of (option_map (λ b. (b, p.1)) x)) (members_found p.0 no_members)

-- ---- the map in the code

seen_match : (o : Ordering) (a b c : List Entry) → seen (match_ordering o a b c) ≡ match_ordering o (seen a) (seen b) (seen c)
seen_match Less a b c = refl
seen_match Equal a b c = refl
seen_match Greater a b c = refl

pub seen-insert_entry : (es : List Entry) (k : Bor (List ℕ)) (v : Option Value) → seen (insert_entry key_cmp es k v) ≡ insert_entry (slice_cmp nat_cmp) (seen es) k.now (option_map plain v)
seen-insert_entry [] k v = refl
seen-insert_entry (e ∷ es) k v = seen_match (key_cmp k e.0) _ _ _ ∙ rw (seen-insert_entry es k v)

-- ---- keys that ascend are set one behind another

-- the pairs behind others, where each member has a value
abbrev pub behind : Pairs → Found → Option Pairs
behind ps [] = Some ps
behind ps (e ∷ es) = option_and_then (λ v. behind (onto_pairs ps (pair e.0 v no_pairs)) es) e.1

-- the keys of the pairs are below these
abbrev Above : Pairs → List (Bor (List ℕ)) → Type 0
Above no_pairs ks = ⊤
Above (pair l w ps) ks = AllByRecursion (λ k. slice_cmp nat_cmp l k.now ≡ Less) ks × Above ps ks

differ : (k l : List ℕ) → slice_cmp nat_cmp l k ≡ Less → bytes_eq k l ≡ false
differ k l e = sym (is_eq-slice_cmp k l) ∙ ap is_eq (nat_list_cmp_total.antisymm k l ∙ ap ordering_reverse e)

set_behind : (k : Bor (List ℕ)) (v : Plain) (ks : List (Bor (List ℕ))) (ps : Pairs) → Above ps (k ∷ ks) → set k.now v ps ≡ onto_pairs ps (pair k.now v no_pairs)
set_behind k v ks no_pairs h = refl
set_behind k v ks (pair l w ps) h = rw (differ k.now l h.0.0) (ap (λ qs. pair l w qs) (set_behind k v ks ps h.1))

above_more : (k : Bor (List ℕ)) (v : Plain) (ks : List (Bor (List ℕ))) (ps : Pairs) → Above ps (k ∷ ks) → AllByRecursion (λ l. key_cmp k l ≡ Less) ks
    → Above (onto_pairs ps (pair k.now v no_pairs)) ks
above_more k v ks no_pairs h above = (above, tt)
above_more k v ks (pair l w ps) h above = (h.0.1, above_more k v ks ps h.1 above)

all_behind : (es : List Entry) (ps : Pairs) → IsStrictlySortedBy key_cmp (keys_of es) → Above ps (keys_of es) → set_all (seen es) ps ≡ behind ps (seen es)
unfolding IsStrictlySortedBy
all_behind [] ps sorted h = refl
all_behind (e ∷ es) ps sorted h =
    let k = e.0.now in
    and_then_same (λ v. set_all (seen es) (set k v ps)) (λ v. behind (onto_pairs ps (pair k v no_pairs)) (seen es)) (option_map plain e.1)
    (λ v. ap (set_all (seen es)) (set_behind e.0 v (keys_of es) ps h) ∙ all_behind es (onto_pairs ps (pair k v no_pairs)) sorted.1 (above_more e.0 v (keys_of es) ps h sorted.0))

pub set_all_behind : (es : List Entry) → IsStrictlySortedBy key_cmp (keys_of es) → set_all (seen es) no_pairs ≡ behind no_pairs (seen es)
set_all_behind es sorted = all_behind es no_pairs sorted tt

-- what the map makes, once all its members were pushed, or at one without a value

pub hash_made : (es left : List Entry) (ps : Pairs) → IsStrictlySortedBy key_cmp (keys_of es) → left ≡ [] → behind ps (seen left) ≡ behind no_pairs (seen es) → Some (hash ps) ≡ object_of (seen es)
hash_made es left ps sorted none e =
    ap (λ (l : List Entry). option_map hash (behind ps (seen l))) (sym none) ∙ ap (option_map hash) (e ∙ sym (set_all_behind es sorted))

pub no_hash : (es rest : List Entry) (e : Entry) (ps : Pairs) → IsStrictlySortedBy key_cmp (keys_of es) → e.1 ≡ None → behind ps (seen (e ∷ rest)) ≡ behind no_pairs (seen es) → None ≡ object_of (seen es)
no_hash es rest e ps sorted none s =
    ap (λ (o : Option Value). option_map hash (option_and_then (λ v. behind (onto_pairs ps (pair (e.0.now) v no_pairs)) (seen rest)) (option_map plain o))) (sym none)
    ∙ ap (option_map hash) (s ∙ sym (set_all_behind es sorted))
