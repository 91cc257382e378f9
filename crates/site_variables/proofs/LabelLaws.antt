-- Posts by their names: each list turned round has the newest first, and no name stands twice.
use Rattle.std.proofs.Common.{◌≡◌, ℕ, ◌+◌, ◌<◌, Bool, true, false, cond, List, [], ◌∷◌, ◌++◌, length, drop, take, get_or, reverse, Result, Ok, Err, refl, sym, ap, ◌∙◌, arith, Option, Some, None, if◌then◌else◌}
use Rattle.std.specs.List.{cons_option}
use Rattle.std.specs.Prelude.{fold, IfOk}
use Rattle.std.specs.Str.{bytes_eq}
use Rattle.std.proofs.lemmas.List.{at_drop_more, reverse-append, take_more}
use Rattle.std.proofs.lemmas.Slice.Eq.{bytes_eq-Decides}
use Rattle.data_files.proofs.ItemLaws.{onto_item, onto_nothing}
use Rattle.site_base.specs.Plain.{Plain, list, Items, no_items, item, Pairs, no_pairs, pair, get, set, onto, onto_pairs}
use Rattle.site_base.proofs.ValueLaws.{items_append}
use Rattle.site_base.specs.View.{plain, items_of}
use Rattle.site_base.specs.declared.value.Value.{Value}
use Rattle.site_config.specs.Config.{optional_text, texts_in}
use Rattle.site_items.specs.Defaults.{set_all}
use Rattle.site_reader.specs.declared.site_item.SiteItem.{SiteItem}
use Rattle.site_variables.specs.Gathering.{backwards, behind_others, newest_first, oldest_first, with_newer}
use Rattle.site_variables.specs.Labels.{before_others, by_labels, labels, values_in, with_post}
use Rattle.site_variables.specs.Lists.{each, is_in, named, names, posts}

-- ---- lists turned round

pub backwards_more : (is : Items) (v : Plain) → backwards (onto is (item v no_items)) ≡ item v (backwards is)
backwards_more no_items v = refl
backwards_more (item w is) v = ap (λ (js : Items). onto js (item w no_items)) (backwards_more is v)

-- a list from its end to its beginning
pub turned_more : (is : Items) (vs : List Value) (i n : ℕ) (v : Value) (w : Plain) → i < length vs → i + 1 ≡ n → v ≡ get_or vs i v → w ≡ plain v
    → onto (onto is (item w no_items)) (backwards (items_of (take i vs))) ≡ onto is (backwards (items_of (take n vs)))
turned_more is vs i n v w lt next e is_v =
    let front = items_of (take i vs) in
    let longer : take n vs ≡ take i vs ++ v ∷ [] = ap (λ k. take k vs) (sym next) ∙ take_more vs i v lt ∙ ap (λ (u : Value). take i vs ++ u ∷ []) (sym e) in
    onto_item is (backwards front) w
    ∙ ap (λ (u : Plain). onto is (item u (backwards front))) is_v
    ∙ ap (onto is) (sym (ap (λ (us : List Value). backwards (items_of us)) longer ∙ ap backwards (items_append (take i vs) v) ∙ backwards_more front (plain v)))

pub turned_end : (is : Items) (vs : List Value) (n : ℕ) → n ≡ 0 → is ≡ onto is (backwards (items_of (take n vs)))
turned_end is vs n none = sym (ap (λ k. onto is (backwards (items_of (take k vs)))) none ∙ onto_nothing is)

each_append : (xs : List SiteItem) (x : SiteItem) → each named (xs ++ x ∷ []) ≡ onto (each named xs) (item (named x) no_items)
each_append [] x = refl
each_append (y ∷ ys) x = ap (item (named y)) (each_append ys x)

pub named_turned : (xs : List SiteItem) → backwards (each named xs) ≡ each named (reverse xs)
named_turned [] = refl
named_turned (x ∷ xs) = ap (λ (is : Items). onto is (item (named x) no_items)) (named_turned xs) ∙ sym (each_append (reverse xs) x) ∙ ap (each named) (sym (reverse-append (x ∷ []) xs))

pub newest_in : {E : Type 0} (items : List SiteItem) (found : Items) (r : Result Items E) → found ≡ each named (posts items) → IfOk r (λ made. made ≡ backwards found)
    → IfOk r (λ made. list made ≡ names (reverse (posts items)))
newest_in items found (Ok made) e is = ap list (is ∙ ap backwards e ∙ named_turned (posts items))
newest_in items found (Err fault) e is = is

turned_if : (b : Bool) (is : Items) (other : List ℕ) (posts : Plain) (groups more kept : Pairs) → newest_first more ≡ kept
    → newest_first (if b then pair other (list is) groups else pair other posts more)
    ≡ (if b then pair other (list (backwards is)) (newest_first groups) else pair other (list (backwards (values_in (Some posts)))) kept)
turned_if true is other posts groups more kept e = refl
turned_if false is other posts groups more kept e = ap (λ (gs : Pairs). pair other (list (backwards (values_in (Some posts)))) gs) e

turned_set : (name : List ℕ) (is : Items) (groups : Pairs) → newest_first (set name (list is) groups) ≡ set name (list (backwards is)) (newest_first groups)
turned_set name is no_pairs = refl
turned_set name is (pair other posts groups) =
    turned_if (bytes_eq name other) is other posts groups (set name (list is) groups) (set name (list (backwards is)) (newest_first groups)) (turned_set name is groups)

found_if : (b : Bool) (posts : Plain) (found turned : Option Plain) → values_in turned ≡ backwards (values_in found)
    → values_in (if b then Some (list (backwards (values_in (Some posts)))) else turned) ≡ backwards (values_in (if b then Some posts else found))
found_if true posts found turned e = refl
found_if false posts found turned e = e

found_turned : (name : List ℕ) (groups : Pairs) → values_in (get name (newest_first groups)) ≡ backwards (values_in (get name groups))
found_turned name no_pairs = refl
found_turned name (pair other posts groups) = found_if (bytes_eq name other) posts (get name groups) (get name (newest_first groups)) (found_turned name groups)

turned_post : (post : Plain) (groups : Pairs) (name : List ℕ) → newest_first (behind_others post groups name) ≡ before_others post (newest_first groups) name
turned_post post groups name =
    turned_set name (onto (values_in (get name groups)) (item post no_items)) groups
    ∙ ap (λ (is : Items). set name (list is) (newest_first groups)) (backwards_more (values_in (get name groups)) post ∙ ap (item post) (sym (found_turned name groups)))

turned_names : (post : Plain) (names : List (List ℕ)) (groups : Pairs) → newest_first (fold (behind_others post) groups names) ≡ fold (before_others post) (newest_first groups) names
turned_names post [] groups = refl
turned_names post (name ∷ names) groups = turned_names post names (behind_others post groups name) ∙ ap (λ (gs : Pairs). fold (before_others post) gs names) (turned_post post groups name)

turned_posts : (key : List ℕ) (posts : List SiteItem) (groups : Pairs) → newest_first (fold (with_newer key) groups posts) ≡ fold (with_post key) (newest_first groups) posts
turned_posts key [] groups = refl
turned_posts key (post ∷ posts) groups =
    turned_posts key posts (with_newer key groups post) ∙ ap (λ (gs : Pairs). fold (with_post key) gs posts) (turned_names (named post) (labels key post) groups)

-- ---- no name stands twice

abbrev Differ : Pairs → Type 0
Differ no_pairs = Unit {0}
Differ (pair k v ps) = (get k ps ≡ None) × Differ ps

other_way : (k l : List ℕ) (b : Bool) → bytes_eq l k ≡ b → bytes_eq k l ≡ false → bytes_eq l k ≡ false
other_way k l true e apart = let same : bytes_eq k l ≡ true = (bytes_eq-Decides k l).1 (sym ((bytes_eq-Decides l k).0 e)) in cc
other_way k l false e apart = e

-- what another key has not is not found behind a set either
still_absent : (k l : List ℕ) (v : Plain) (ps : Pairs) → bytes_eq l k ≡ false → get l ps ≡ None → get l (set k v ps) ≡ None
still_absent k l v no_pairs apart none = grind arith
still_absent k l v (pair m w ps) apart none = grind (arith, still_absent k l v ps apart)

differ_if : (k : List ℕ) (v : Plain) (m : List ℕ) (w : Plain) (ps more : Pairs) (b : Bool) → bytes_eq k m ≡ b → get m ps ≡ None → Differ ps → (bytes_eq k m ≡ false → (get m more ≡ None) × Differ more)
    → Differ (if b then pair m v ps else pair m w more)
differ_if k v m w ps more true e none differ other = (none, differ)
differ_if k v m w ps more false e none differ other = other e

differ_set : (k : List ℕ) (v : Plain) (ps : Pairs) → Differ ps → Differ (set k v ps)
differ_set k v no_pairs differ = (refl, tt)
differ_set k v (pair m w ps) differ =
    differ_if k v m w ps (set k v ps) (bytes_eq k m) refl differ.0 differ.1 (λ apart. (still_absent k m v ps (other_way k m (bytes_eq m k) refl apart) differ.0, differ_set k v ps differ.1))

differ_names : (post : Plain) (names : List (List ℕ)) (groups : Pairs) → Differ groups → Differ (fold (before_others post) groups names)
differ_names post [] groups differ = differ
differ_names post (name ∷ names) groups differ =
    differ_names post names (before_others post groups name) (differ_set name (list (item post (values_in (get name groups)))) groups differ)

differ_posts : (key : List ℕ) (posts : List SiteItem) (groups : Pairs) → Differ groups → Differ (fold (with_post key) groups posts)
differ_posts key [] groups differ = differ
differ_posts key (post ∷ posts) groups differ = differ_posts key posts (with_post key groups post) (differ_names (named post) (labels key post) groups differ)

-- ---- pairs that are set one after another, none of whose keys is there

abbrev Apart : Pairs → Pairs → Type 0
Apart made no_pairs = Unit {0}
Apart made (pair k v ps) = (get k made ≡ None) × Apart made ps

set_new : (k : List ℕ) (v : Plain) (made : Pairs) → get k made ≡ None → set k v made ≡ onto_pairs made (pair k v no_pairs)
set_new k v no_pairs none = refl
set_new k v (pair l w made) none = grind (arith, set_new k v made)

absent_behind : (k l : List ℕ) (v : Plain) (made : Pairs) → bytes_eq l k ≡ false → get l made ≡ None → get l (onto_pairs made (pair k v no_pairs)) ≡ None
absent_behind k l v no_pairs apart none = grind arith
absent_behind k l v (pair m w made) apart none = grind (arith, absent_behind k l v made apart)

first_differs : (b : Bool) (w : Plain) (found : Option Plain) → (if b then Some w else found) ≡ None → (b ≡ false) × (found ≡ None)
first_differs true w found e = cc
first_differs false w found e = (refl, e)

apart_more : (k : List ℕ) (v : Plain) (made ps : Pairs) → get k ps ≡ None → Apart made ps → Apart (onto_pairs made (pair k v no_pairs)) ps
apart_more k v made no_pairs none apart = tt
apart_more k v made (pair l w ps) none apart =
    let first = first_differs (bytes_eq k l) w (get k ps) none in
    (absent_behind k l v made (other_way k l (bytes_eq l k) refl first.0) apart.0, apart_more k v made ps first.1 apart.1)

onto_pair : (made ps : Pairs) (k : List ℕ) (v : Plain) → onto_pairs (onto_pairs made (pair k v no_pairs)) ps ≡ onto_pairs made (pair k v ps)
onto_pair no_pairs ps k v = refl
onto_pair (pair l w made) ps k v = ap (λ (qs : Pairs). pair l w qs) (onto_pair made ps k v)

all_set : (ps made : Pairs) → Differ ps → Apart made ps → set_all ps made ≡ onto_pairs made ps
all_set no_pairs made differ apart = sym (onto_none made)
  where
    onto_none : (qs : Pairs) → onto_pairs qs no_pairs ≡ qs
    onto_none no_pairs = refl
    onto_none (pair k v qs) = ap (λ (rs : Pairs). pair k v rs) (onto_none qs)
all_set (pair k v ps) made differ apart =
    ap (set_all ps) (set_new k v made apart.0)
    ∙ all_set ps (onto_pairs made (pair k v no_pairs)) differ.1 (apart_more k v made ps differ.0 apart.1)
    ∙ onto_pair made ps k v

apart_from_none : (ps : Pairs) → Apart no_pairs ps
apart_from_none no_pairs = tt
apart_from_none (pair k v ps) = (refl, apart_from_none ps)

-- the posts by their names, each list turned round and set
pub gathered : (key : List ℕ) (posts : List SiteItem) → set_all (newest_first (oldest_first key posts)) no_pairs ≡ by_labels key posts
gathered key posts =
    ap (λ (gs : Pairs). set_all gs no_pairs) (turned_posts key posts no_pairs)
    ∙ all_set (by_labels key posts) no_pairs (differ_posts key posts no_pairs tt) (apart_from_none (by_labels key posts))

pub gathered_in : {E : Type 0} (key : List ℕ) (posts : List SiteItem) (groups : Pairs) (r : Result Pairs E) → groups ≡ oldest_first key posts
    → IfOk r (λ made. made ≡ set_all (newest_first groups) no_pairs) → IfOk r (λ made. made ≡ by_labels key posts)
gathered_in key posts groups (Ok made) e is = is ∙ ap (λ (gs : Pairs). set_all (newest_first gs) no_pairs) e ∙ gathered key posts
gathered_in key posts groups (Err fault) e is = is

-- ---- the loop over items

item_more : (key : List ℕ) (b : Bool) (groups : Pairs) (x : SiteItem) (rest : List SiteItem)
    → fold (with_newer key) groups (cond b (x ∷ rest) rest) ≡ fold (with_newer key) (fold (with_newer key) groups (cond b (x ∷ []) [])) rest
item_more key true groups x rest = refl
item_more key false groups x rest = refl

pub next_item : (key : List ℕ) (groups more : Pairs) (items : List SiteItem) (i : ℕ) (x : SiteItem) → i < length items → x ≡ get_or items i x → more ≡ fold (with_newer key) groups (posts (x ∷ []))
    → fold (with_newer key) groups (posts (drop i items)) ≡ fold (with_newer key) more (posts (drop (i + 1) items))
next_item key groups more items i x lt is made =
    at_drop_more (λ xs. fold (with_newer key) groups (posts xs)) items i x lt
    ∙ ap (λ (y : SiteItem). fold (with_newer key) groups (posts (y ∷ drop (i + 1) items))) (sym is)
    ∙ item_more key (is_in 0 x) groups x (posts (drop (i + 1) items))
    ∙ ap (λ (gs : Pairs). fold (with_newer key) gs (posts (drop (i + 1) items))) (sym made)

-- ---- the loop over the names of a post

name_more : (post : Plain) (groups : Pairs) (o : Option (List ℕ)) (names : List (List ℕ))
    → fold (behind_others post) groups (cons_option o names) ≡ fold (behind_others post) (fold (behind_others post) groups (cons_option o [])) names
name_more post groups None names = refl
name_more post groups (Some name) names = refl

pub next_name : (post : Plain) (groups more : Pairs) (values : List Value) (i : ℕ) (v : Value) → i < length values → v ≡ get_or values i v
    → more ≡ fold (behind_others post) groups (texts_in (item (plain v) no_items))
    → fold (behind_others post) groups (texts_in (items_of (drop i values))) ≡ fold (behind_others post) more (texts_in (items_of (drop (i + 1) values)))
next_name post groups more values i v lt is made =
    at_drop_more (λ vs. fold (behind_others post) groups (texts_in (items_of vs))) values i v lt
    ∙ ap (λ (w : Value). fold (behind_others post) groups (texts_in (items_of (w ∷ drop (i + 1) values)))) (sym is)
    ∙ name_more post groups (optional_text (plain v)) (texts_in (items_of (drop (i + 1) values)))
    ∙ ap (λ (gs : Pairs). fold (behind_others post) gs (texts_in (items_of (drop (i + 1) values)))) (sym made)
