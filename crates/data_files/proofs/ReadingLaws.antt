-- A JSON text read in one pass: the grammar's loops, a turn at a time, under what values say.
use Rattle.std.proofs.Common.{◌≡◌, ℕ, ℤ, zero, suc, ◌-◌, ◌<◌, ◌≤◌, List, [], ◌∷◌, length, Option, Some, None, option_map, option_and_then, refl, sym, ap, ◌∙◌}
use Rattle.std.specs.Ordering.{nat_cmp}
use Rattle.std.specs.Cmp.Lexicographic.{slice_cmp}
use Rattle.std.specs.BTreeMap.{insert_entry}
use Rattle.json.specs.Token.{Token}
use Rattle.json.specs.Json as json
use Rattle.json.specs.Json.{Parse, parse_map, after_end_array, read_key, items_step, items, members, if_last}
use Rattle.json.proofs.Grammar.{items_end, items_more, members_end, members_no_key, members_more}
use Rattle.serde_json.specs.Data.{Num, Data, number, Items as Data_items, item as data_item, array}
use Rattle.serde_json.specs.Find.{as_i64}
use Rattle.serde_json.specs.Read.{of_json, of_items as items_of_json, converted}
use Rattle.site_base.specs.Plain.{Plain, int, list, Items, no_items, item, onto}
use Rattle.data_files.specs.Json.{of_data, of_items}
use Rattle.data_files.specs.Readings.{reading, items_reading, members_reading, Found, with_last}
use Rattle.data_files.proofs.ItemLaws.{onto_item, onto_nothing}

-- an item before others, where all have values
abbrev pub before_item : Option Plain → Option Items → Option Items
before_item read rest = option_and_then (λ v. option_map (item v) rest) read

-- items that were read, before those that follow
abbrev pub joined : Option Items → Option Items → Option Items
joined found rest = option_and_then (λ is. option_map (onto is) rest) found

abbrev pick : {A : Type 0} → A → Option A → A
pick d None = d
pick d (Some a) = a

found : {A B : Type 0} (a : A) (r s : List Token) (x : Option B) (b : B) → option_map {U = B × List Token} (λ y. (y, r)) x ≡ Some (b, s) → (r ≡ s) × (x ≡ Some b)
found a r s None b e = absurd (cc)
found a r s (Some y) b e = let same = ap (pick (y, r)) e in (ap (λ p. p.1) same, ap (λ p. Some p.0) same)

converted_some : {A B : Type 0} (f : A → Option B) (o : Option (A × List Token)) (b : B) (r : List Token) → converted f o ≡ Some (b, r) → (a : A) × (o ≡ Some (a, r)) × (f a ≡ Some b)
converted_some f None b r e = absurd (cc)
converted_some f (Some p) b r e = let both = found p.0 p.1 r (f p.0) b e in (p.0, ap (λ s. Some (p.0, s)) both.0, both.1)

refused : {B : Type 0} (r : List Token) (x : Option B) → option_map {U = B × List Token} (λ y. (y, r)) x ≡ None → x ≡ None
refused r None e = refl
refused r (Some y) e = absurd (cc)

no_data : (x : Option Data) → option_map of_data x ≡ None → x ≡ None
no_data None e = refl
no_data (Some d) e = absurd (cc)

pub number_reads : (x : Option Num) (o : Option ℤ) → Some o ≡ option_map as_i64 x → option_map of_data (option_map number x) ≡ Some (option_map int o)
number_reads None o e = absurd (cc)
number_reads (Some n) o e = ap (λ (w : Option ℤ). Some (option_map int w)) (ap (pick o) (sym e))

pub number_refused : (x : Option Num) → None ≡ option_map as_i64 x → option_map of_data (option_map number x) ≡ None
number_refused None e = refl
number_refused (Some n) e = absurd (cc)

array_twice : (r : List Token) (x : Option Data_items)
    → option_map (λ b. (b, r)) (option_map of_data (option_map array x)) ≡ parse_map (option_map list) (option_map (λ b. (b, r)) (option_map of_items x))
array_twice r None = refl
array_twice r (Some ds) = refl

pub reading-array : (o : Option (json.Items × List Token)) → converted reading (parse_map json.array o) ≡ parse_map (option_map list) (converted items_reading o)
reading-array None = refl
reading-array (Some p) = array_twice p.1 (items_of_json p.0)

item_step : (x : Option Data) (y : Option Data_items) (o : Option Plain) (r : List Token) → option_map of_data x ≡ Some o
    → option_map (λ b. (b, r)) (option_map of_items (option_and_then (λ d. option_map (data_item d) y) x)) ≡ parse_map (before_item o) (option_map (λ b. (b, r)) (option_map of_items y))
item_step None y o r e = absurd (cc)
item_step (Some d) None o r e = refl
item_step (Some d) (Some ds) o r e = ap (λ w. Some (before_item w (of_items ds), r)) (ap (pick o) e)

with_item : (j : json.Json) (o : Option Plain) → reading j ≡ Some o → (q : Option (json.Items × List Token))
    → converted items_reading (parse_map (json.item j) q) ≡ parse_map (before_item o) (converted items_reading q)
with_item j o e None = refl
with_item j o e (Some p) = item_step (of_json j) (items_of_json p.0) o p.1 e

without_item : (j : json.Json) → of_json j ≡ None → (q : Option (json.Items × List Token)) → converted items_reading (parse_map (json.item j) q) ≡ None
without_item j e None = refl
without_item j e (Some p) = rw e

with_member : (k : List ℕ) (j : json.Json) (o : Option Plain) (old : Found) → reading j ≡ Some o → (q : Option (json.Members × List Token))
    → converted (members_reading old) (parse_map (json.member k j) q) ≡ converted (members_reading (insert_entry (slice_cmp nat_cmp) old k o)) q
with_member k j o old e None = refl
with_member k j o old e (Some p) = rw e

without_member : (k : List ℕ) (j : json.Json) (old : Found) → reading j ≡ None → (q : Option (json.Members × List Token)) → converted (members_reading old) (parse_map (json.member k j) q) ≡ None
without_member k j old e None = refl
without_member k j old e (Some p) = rw e

module _ (p : Parse json.Json) where
  pub item_read : (n : ℕ) (ts r : List Token) (o : Option Plain) → 0 < n → after_end_array ts ≡ None → converted reading (p ts) ≡ Some (o, r)
      → converted items_reading (items p n ts) ≡ parse_map (before_item o) (converted items_reading (items p (n - 1) r))
  item_read n ts r o some going e = let j = converted_some reading (p ts) o r e in ap (converted items_reading) (items_more p n ts r j.0 some going j.1) ∙ with_item j.0 o j.2 _

  no_item : (more : Parse json.Items) (o : Option (json.Json × List Token)) → converted reading o ≡ None → converted items_reading (option_and_then (λ q. parse_map (json.item q.0) (more q.1)) o) ≡ None
  no_item more None e = refl
  no_item more (Some q) e = without_item q.0 (no_data (of_json q.0) (refused q.1 (reading q.0) e)) (more q.1)

  pub item_refused : (n : ℕ) (ts : List Token) → after_end_array ts ≡ None → converted reading (p ts) ≡ None → converted items_reading (items p n ts) ≡ None
  unfolding items
  item_refused zero ts going e = refl
  item_refused (suc n) ts going e = ap (λ o. converted items_reading (items_step p (items p n) ts o)) going ∙ no_item (items p n) (p ts) e

  pub items_over : (n : ℕ) (ts r : List Token) → length ts ≤ n → after_end_array ts ≡ Some r → converted items_reading (items p n ts) ≡ Some (Some no_items, r)
  items_over n ts r enough e = ap (converted items_reading) (items_end p n ts r enough e)

  module _ (old : Found) where
    pub member_read : (n : ℕ) (k : List ℕ) (ts s r : List Token) (o : Option Plain) → 0 < n → read_key ts ≡ Some (Some k, s) → converted reading (p s) ≡ Some (o, r)
        → converted (members_reading old) (members p n ts) ≡ converted (members_reading (insert_entry (slice_cmp nat_cmp) old k o)) (members p (n - 1) r)
    member_read n k ts s r o some key e =
        let j = converted_some reading (p s) o r e in
        ap (converted (members_reading old)) (members_more p n k ts s r j.0 some key j.1) ∙ with_member k j.0 o old j.2 _

    no_member : (k : List ℕ) (more : Parse json.Members) (o : Option (json.Json × List Token)) → converted reading o ≡ None
        → converted (members_reading old) (option_and_then (λ q. parse_map (json.member k q.0) (more q.1)) o) ≡ None
    no_member k more None e = refl
    no_member k more (Some q) e = without_member k q.0 old (refused q.1 (reading q.0) e) (more q.1)

    pub member_refused : (n : ℕ) (k : List ℕ) (ts s : List Token) → read_key ts ≡ Some (Some k, s) → converted reading (p s) ≡ None → converted (members_reading old) (members p n ts) ≡ None
    unfolding members
    member_refused zero k ts s key e = refl
    member_refused (suc n) k ts s key e = rw key (no_member k (members p n) (p s) e)

    pub key_refused : (n : ℕ) (ts : List Token) → read_key ts ≡ None → converted (members_reading old) (members p n ts) ≡ None
    key_refused n ts e = ap (converted (members_reading old)) (members_no_key p n ts e)

    pub members_over : (n : ℕ) (ts r : List Token) → length ts ≤ n → read_key ts ≡ Some (None, r) → converted (members_reading old) (members p n ts) ≡ Some (old, r)
    members_over n ts r enough e = ap (converted (members_reading old)) (members_end p n ts r enough e)

-- ---- a list that grows at its end

joined_more : (found : Option Items) (o : Option Plain) (rest : Option Items) → joined found (before_item o rest) ≡ joined (with_last found o) rest
joined_more None o rest = refl
joined_more (Some is) None rest = refl
joined_more (Some is) (Some v) None = refl
joined_more (Some is) (Some v) (Some js) = ap (λ ks. Some ks) (sym (onto_item is js v))

pub one_more_item : (found : Option Items) (o : Option Plain) (r : Option (Option Items × List Token)) → parse_map (joined found) (parse_map (before_item o) r) ≡ parse_map (joined (with_last found o)) r
one_more_item found o None = refl
one_more_item found o (Some p) = ap (λ is. Some (is, p.1)) (joined_more found o p.0)

nothing_joined : (rest : Option Items) → rest ≡ joined (Some no_items) rest
nothing_joined None = refl
nothing_joined (Some is) = refl

pub none_before : (r : Option (Option Items × List Token)) → r ≡ parse_map (joined (Some no_items)) r
none_before None = refl
none_before (Some p) = ap (λ is. Some (is, p.1)) (nothing_joined p.0)

pub joined_nothing : (found : Option Items) → joined found (Some no_items) ≡ found
joined_nothing None = refl
joined_nothing (Some is) = ap (λ ks. Some ks) (onto_nothing is)

-- ---- the whole text

abbrev pub whole : Option (json.Json × List Token) → Option Plain
whole o = option_and_then of_data (option_and_then of_json (option_and_then (λ p. if_last p.0 p.1) o))

value_of_data : (x : Option Data) (w : Option Plain) → option_map of_data x ≡ Some w → option_and_then of_data x ≡ w
value_of_data None w e = absurd (cc)
value_of_data (Some d) w e = ap (pick w) e

pub whole_read : (o : Option (json.Json × List Token)) (w : Option Plain) → converted reading o ≡ Some (w, []) → whole o ≡ w
whole_read o w e = let j = converted_some reading o w [] e in ap whole j.1 ∙ value_of_data (of_json j.0) w j.2

pub whole_and_more : (o : Option (json.Json × List Token)) (w : Option Plain) (t : Token) (r : List Token) → converted reading o ≡ Some (w, t ∷ r) → whole o ≡ None
whole_and_more o w t r e = ap whole (converted_some reading o w (t ∷ r) e).1

pub whole_refused : (o : Option (json.Json × List Token)) → converted reading o ≡ None → whole o ≡ None
whole_refused None e = refl
whole_refused (Some (j, [])) e = ap (option_and_then of_data) (no_data (of_json j) (refused [] (reading j) e))
whole_refused (Some (j, t ∷ r)) e = refl
