-- Lists and hashes of values, as their plain trees see them.
use Rattle.std.proofs.Common.{◌≡◌, ℕ, zero, suc, ◌<◌, ◌≤◌, cond, List, [], ◌∷◌, ◌++◌, length, get_or, refl, ap, arith, Some, None, slice_get, nat_lt, sym, ◌∙◌, is_some, if◌then◌else◌, true, rules}
use Rattle.std.specs.List.{position, position_or_len}
use Rattle.std.specs.Str.{bytes_eq}
use Rattle.std.proofs.lemmas.Slice.Eq.{bytes_eq-Decides}
use Rattle.std.proofs.Math.ListN.{set as set_at}
use Rattle.site_base.specs.Plain.{Plain, nil, no_items, item, onto, Pairs, no_pairs, pair, onto_pairs, count, count_pairs, item_list, get, set, taken}
use Rattle.site_base.specs.View.{plain, items_of, pairs_of}
use Rattle.site_base.specs.declared.value.Value.{Value}
use Rattle.site_base.specs.declared.value.Pair.{Pair}
use Rattle.site_base.specs.declared.value.Value.TheVariants as the

pub count_length : (vs : List Value) → count (items_of vs) ≡ length vs
count_length [] = refl
count_length (v ∷ vs) = ap suc (count_length vs)

pub count_pairs_length : (ps : List Pair) → count_pairs (pairs_of ps) ≡ length ps
count_pairs_length [] = refl
count_pairs_length (p ∷ ps) = ap suc (count_pairs_length ps)

pub item_at : (vs : List Value) (i : ℕ) (d : Value) → i < length vs → slice_get (item_list (items_of vs)) i ≡ Some (plain (get_or vs i d))
item_at [] i d lt = absurd (omega arith)
item_at (v ∷ vs) zero d lt = refl
item_at (v ∷ vs) (suc i) d lt = item_at vs i d (omega arith)

pub items_append : (vs : List Value) (v : Value) → items_of (vs ++ v ∷ []) ≡ onto (items_of vs) (item (plain v) no_items)
items_append [] v = refl
items_append (w ∷ vs) v = ap (λ is. item (plain w) is) (items_append vs v)

pub pairs_append : (ps : List Pair) (p : Pair) → pairs_of (ps ++ p ∷ []) ≡ onto_pairs (pairs_of ps) (pair p.key (plain p.value) no_pairs)
pairs_append [] p = refl
pairs_append (q ∷ ps) p = ap (λ qs. pair q.key (plain q.value) qs) (pairs_append ps p)

-- how many pairs stand before the first with the key
abbrev pub place : List ℕ → List Pair → ℕ
place k ps = position_or_len (λ p. bytes_eq k p.key) ps

abbrev pub pair_of : List ℕ → Value → Pair
pair_of k v = record { key = k; value = v }

pub get_there : (k : List ℕ) (ps : List Pair) (d : Pair) → place k ps < length ps → get k (pairs_of ps) ≡ Some (plain (get_or ps (place k ps) d).value)
get_there k [] d lt = absurd (omega arith)
get_there k (p ∷ ps) d lt = grind (arith, get_there k ps d)

pub get_absent : (k : List ℕ) (ps : List Pair) → length ps ≤ place k ps → get k (pairs_of ps) ≡ None
get_absent k [] le = refl
get_absent k (p ∷ ps) le = grind (arith, get_absent k ps)

pub set_there : (k : List ℕ) (v : Value) (ps : List Pair) (d : Pair) → place k ps < length ps → pairs_of (set_at ps (place k ps) (pair_of (get_or ps (place k ps) d).key v)) ≡ set k (plain v) (pairs_of ps)
set_there k v [] d lt = absurd (omega arith)
set_there k v (p ∷ ps) d lt = grind (arith, set_there k v ps d)

pub set_absent : (k : List ℕ) (v : Value) (ps : List Pair) → length ps ≤ place k ps → pairs_of (ps ++ pair_of k v ∷ []) ≡ set k (plain v) (pairs_of ps)
set_absent k v [] le = refl
set_absent k v (p ∷ ps) le = grind (arith, set_absent k v ps)

found : (n l i : ℕ) → Some i ≡ cond (nat_lt n l) (Some n) None → (n ≡ i) × (n < l)
found n l i e = grind arith

not_found : (n l : ℕ) → None ≡ cond (nat_lt n l) (Some n) None → l ≤ n
not_found n l e = grind arith

-- the answers of `position`

pub get_found : (k : List ℕ) (ps : List Pair) (i : ℕ) (d : Pair) → Some i ≡ position (λ p. bytes_eq k p.key) ps → Some (plain (get_or ps i d).value) ≡ get k (pairs_of ps)
get_found k ps i d e =
    let f = found (place k ps) (length ps) i e in
    ap (λ j. Some (plain (get_or ps j d).value)) (sym f.0) ∙ sym (get_there k ps d f.1)

pub get_missing : (k : List ℕ) (ps : List Pair) → None ≡ position (λ p. bytes_eq k p.key) ps → None ≡ get k (pairs_of ps)
get_missing k ps e = sym (get_absent k ps (not_found (place k ps) (length ps) e))

pub set_found : (k : List ℕ) (v : Value) (ps : List Pair) (i : ℕ) (d : Pair) → Some i ≡ position (λ p. bytes_eq k p.key) ps
    → pairs_of (set_at ps i (pair_of (get_or ps i d).key v)) ≡ set k (plain v) (pairs_of ps)
set_found k v ps i d e =
    let f = found (place k ps) (length ps) i e in
    ap (λ j. pairs_of (set_at ps j (pair_of (get_or ps j d).key v))) (sym f.0) ∙ set_there k v ps d f.1

pub set_missing : (k : List ℕ) (v : Value) (ps : List Pair) → None ≡ position (λ p. bytes_eq k p.key) ps
    → pairs_of (ps ++ pair_of k v ∷ []) ≡ set k (plain v) (pairs_of ps)
set_missing k v ps e = set_absent k v ps (not_found (place k ps) (length ps) e)

-- equal trees have as many parts

pub items_length : (l r : List Value) → items_of l ≡ items_of r → length l ≡ length r
items_length l r e = sym (count_length l) ∙ ap count e ∙ count_length r

pub pairs_length : (l r : List Pair) → pairs_of l ≡ pairs_of r → length l ≡ length r
pairs_length l r e = sym (count_pairs_length l) ∙ ap count_pairs e ∙ count_pairs_length r

-- what is taken out may be put back

pub taken_found : (k : List ℕ) (ps : List Pair) (i : ℕ) (d : Pair) → Some i ≡ position (λ p. bytes_eq k p.key) ps
    → pairs_of (set_at ps i (pair_of (get_or ps i d).key the.Nil)) ≡ taken k (pairs_of ps)
taken_found k ps i d e =
    set_found k the.Nil ps i d e
    ∙ ap (λ found. if is_some found then set k nil (pairs_of ps) else pairs_of ps) (get_found k ps i d e)

pub taken_missing : (k : List ℕ) (ps : List Pair) → None ≡ position (λ p. bytes_eq k p.key) ps → pairs_of ps ≡ taken k (pairs_of ps)
taken_missing k ps e = ap (λ found. if is_some found then set k nil (pairs_of ps) else pairs_of ps) (get_missing k ps e)

key_same : (k : List ℕ) → bytes_eq k k ≡ true
key_same k = search (rules, bytes_eq-Decides)

pub set_set : (k : List ℕ) (v w : Plain) (ps : Pairs) → set k v (set k w ps) ≡ set k v ps
set_set k v w no_pairs = grind (arith, key_same k)
set_set k v w (pair l u ps) = grind (arith, key_same k, set_set k v w ps)

pub set_taken : (k : List ℕ) (v : Plain) (ps : Pairs) → set k v (taken k ps) ≡ set k v ps
set_taken k v ps = grind (arith, set_set k v nil ps)
