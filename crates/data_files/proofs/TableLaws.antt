-- Records, one after another, and their fields.
use Rattle.std.proofs.Common.{◌≡◌, ℕ, zero, suc, ◌+◌, ◌<◌, ◌≤◌, ◌==◌, cond, Bool, true, false, List, [], ◌∷◌, ◌++◌, drop, length, add-one, Option, Some, None, option_map, refl, sym, ap, ◌∙◌, arith}
use Rattle.std.specs.Prelude.{String, string_bytes, string_eq, slice_get}
use Rattle.std.specs.declared.alloc.Global.{Global}
use Rattle.std.proofs.lemmas.List.{drop_all}
use Rattle.csv.specs.Records.{field_at}
use Rattle.indexmap.specs.IndexMap.{insert_entry}
use Rattle.std.specs.Str.{bytes_eq}
use Rattle.site_base.specs.Plain.{Plain, hash, Items, no_items, item, Pairs, no_pairs, pair, onto_pairs, set}
use Rattle.data_files.specs.Columns.{Places, named, seen, place_set, placed, picked, with_field, text_or_nil, row_of, AreColumns}
use Rattle.data_files.specs.Readings.{with_last}
use Rattle.data_files.specs.Tables.{fill, hashes}
use Rattle.data_files.specs.declared.tables.Columns.{Columns}

-- ---- the fields of a row, by columns

picked_cond : (b : Bool) (fields : List (List ℕ)) (k l : List ℕ) (n m : ℕ) (columns : Places)
    → picked fields (insert_entry bytes_eq columns k n) ≡ set k (text_or_nil (field_at fields n)) (picked fields columns)
    → picked fields (cond b ((l, n) ∷ columns) ((l, m) ∷ insert_entry bytes_eq columns k n))
    ≡ cond b (pair l (text_or_nil (field_at fields n)) (picked fields columns)) (pair l (text_or_nil (field_at fields m)) (set k (text_or_nil (field_at fields n)) (picked fields columns)))
picked_cond true fields k l n m columns e = refl
picked_cond false fields k l n m columns e = ap (λ qs. pair l (text_or_nil (field_at fields m)) qs) e

picked_set : (fields : List (List ℕ)) (k : List ℕ) (n : ℕ) (columns : Places) → picked fields (insert_entry bytes_eq columns k n) ≡ set k (text_or_nil (field_at fields n)) (picked fields columns)
picked_set fields k n [] = refl
picked_set fields k n ((l, m) ∷ columns) = picked_cond (bytes_eq k l) fields k l n m columns (picked_set fields k n columns)

fill_at : (name : List ℕ) (names fields : List (List ℕ)) (n : ℕ) (ps : Pairs) → n < length fields
    → fill names (drop (suc n) fields) (set name (text_or_nil (field_at fields n)) ps) ≡ fill (name ∷ names) (drop n fields) ps
unfolding field_at
fill_at name names [] n ps lt = absurd (omega arith)
fill_at name names (f ∷ fields) zero ps lt = refl
fill_at name names (f ∷ fields) (suc n) ps lt = fill_at name names fields n ps (omega arith)

fill_placed : (names : List (List ℕ)) (n : ℕ) (fields : List (List ℕ)) (columns : Places) → n + length names ≡ length fields
    → picked fields (placed names n columns) ≡ fill names (drop n fields) (picked fields columns)
fill_placed [] n fields columns e = refl
fill_placed (name ∷ names) n fields columns e =
    fill_placed names (suc n) fields (insert_entry bytes_eq columns name n) (omega arith)
    ∙ ap (fill names (drop (suc n) fields)) (picked_set fields name n columns)
    ∙ fill_at name names fields n (picked fields columns) (omega arith)

row_cond : (b : Bool) (ps qs : Pairs) → (b ≡ true → ps ≡ qs) → cond b (Some (hash ps)) None ≡ cond b (Some (hash qs)) None
row_cond true ps qs e = ap (λ rs. Some (hash rs)) (e refl)
row_cond false ps qs e = refl

same_number : (m n : ℕ) → (m == n) ≡ true → m ≡ n
same_number m n e = grind arith

-- a row, by its definition
abbrev row_by : List (List ℕ) → List (List ℕ) → Option Plain
row_by names row = cond (length row == length names) (Some (hash (fill names row no_pairs))) None

row_of_is : (count : ℕ) (columns : Places) (names row : List (List ℕ)) → count ≡ length names → columns ≡ placed names 0 [] → row_of count columns row ≡ row_by names row
row_of_is count columns names row e f =
    rw (e, f) (row_cond (length row == length names) (picked row (placed names 0 [])) (fill names row no_pairs)
    (λ same. fill_placed names 0 row [] (omega (arith, same_number (length row) (length names) same))))

-- ---- one more row

first_cond : (b : Bool) (v : Plain) → cond b (Some (item v no_items)) None ≡ with_last (Some no_items) (cond b (Some v) None)
first_cond true v = refl
first_cond false v = refl

item_with_last : (v : Plain) (is : Option Items) (o : Option Plain) → option_map (item v) (with_last is o) ≡ with_last (option_map (item v) is) o
item_with_last v None o = refl
item_with_last v (Some is) None = refl
item_with_last v (Some is) (Some w) = refl

later_cond : (b : Bool) (v : Plain) (is more : Option Items) (o : Option Plain) → more ≡ with_last is o → cond b (option_map (item v) more) None ≡ with_last (cond b (option_map (item v) is) None) o
later_cond true v is more o e = ap (option_map (item v)) e ∙ item_with_last v is o
later_cond false v is more o e = refl

hashes_more : (names : List (List ℕ)) (rows : List (List (List ℕ))) (row : List (List ℕ)) → hashes names (rows ++ row ∷ []) ≡ with_last (hashes names rows) (row_by names row)
hashes_more names [] row = first_cond (length row == length names) (hash (fill names row no_pairs))
hashes_more names (r ∷ rows) row = later_cond (length r == length names) (hash (fill names r no_pairs)) (hashes names rows) (hashes names (rows ++ row ∷ [])) (row_by names row) (hashes_more names rows row)

pub one_more_row : (columns : Columns) (names : List (List ℕ)) (rows : List (List (List ℕ))) (row : List (List ℕ)) (made : Option Items) → AreColumns columns names → made ≡ hashes names rows
    → with_last made (row_of columns.count (seen columns.places.entries) row) ≡ hashes names (rows ++ row ∷ [])
one_more_row columns names rows row made are e = rw (e, row_of_is columns.count (seen columns.places.entries) names row are.0 are.1) (sym (hashes_more names rows row))

-- ---- the places of names, one after another

pub placed_step : (names : List (List ℕ)) (n m : ℕ) (columns : Places) → n < length names
    → placed (drop (suc n) names) (suc m) (place_set (field_at names n) m columns) ≡ placed (drop n names) m columns
unfolding field_at
placed_step [] n m columns lt = absurd (omega arith)
placed_step (name ∷ names) zero m columns lt = refl
placed_step (name ∷ names) (suc n) m columns lt = placed_step names n m columns (omega arith)

seen_cond : (b : Bool) (column : String Global × ℕ) (columns : List (String Global × ℕ)) (k : String Global) (n : ℕ)
    → seen (insert_entry string_eq columns k n) ≡ insert_entry bytes_eq (seen columns) (string_bytes k) n
    → seen (cond b ((column.0, n) ∷ columns) (column ∷ insert_entry string_eq columns k n))
    ≡ cond b ((string_bytes column.0, n) ∷ seen columns) (named column ∷ insert_entry bytes_eq (seen columns) (string_bytes k) n)
seen_cond true column columns k n e = refl
seen_cond false column columns k n e = ap (λ cs. named column ∷ cs) e

-- a name more, as the map of texts has it
pub seen_insert : (columns : List (String Global × ℕ)) (k : String Global) (n : ℕ) → seen (insert_entry string_eq columns k n) ≡ insert_entry bytes_eq (seen columns) (string_bytes k) n
seen_insert [] k n = refl
seen_insert (column ∷ columns) k n = seen_cond (string_eq k column.0) column columns k n (seen_insert columns k n)

-- ---- the fields of a row, one after another

onto_pair : (ps qs : Pairs) (k : List ℕ) (v : Plain) → onto_pairs (onto_pairs ps (pair k v no_pairs)) qs ≡ onto_pairs ps (pair k v qs)
onto_pair no_pairs qs k v = refl
onto_pair (pair l w ps) qs k v = ap (λ rs. pair l w rs) (onto_pair ps qs k v)

onto_none : (ps : Pairs) → onto_pairs ps no_pairs ≡ ps
onto_none no_pairs = refl
onto_none (pair l w ps) = ap (λ rs. pair l w rs) (onto_none ps)

next_at : (fields : List (List ℕ)) (columns : Places) (i : ℕ) (h : Pairs)
    → onto_pairs (with_field fields (slice_get columns i) h) (picked fields (drop (suc i) columns)) ≡ onto_pairs h (picked fields (drop i columns))
next_at fields [] zero h = refl
next_at fields [] (suc i) h = refl
next_at fields (column ∷ columns) zero h = onto_pair h (picked fields columns) column.0 (text_or_nil (field_at fields column.1))
next_at fields (column ∷ columns) (suc i) h = next_at fields columns i h

pub next_column : (fields : List (List ℕ)) (columns : Places) (i : ℕ) (h : Pairs)
    → onto_pairs (with_field fields (slice_get columns i) h) (picked fields (drop (i + 1) columns)) ≡ onto_pairs h (picked fields (drop i columns))
next_column fields columns i h = rw add-one (next_at fields columns i h)

pub last_column : (fields : List (List ℕ)) (columns : Places) (i : ℕ) (h : Pairs) → length columns ≤ i → onto_pairs h (picked fields (drop i columns)) ≡ h
last_column fields columns i h le = rw (drop_all i columns le) (onto_none h)
