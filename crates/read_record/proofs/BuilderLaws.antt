-- Reads that are noted one by one, with an index of their keys.
use Rattle.std.proofs.Common.{◌≡◌, ℕ, Bool, true, false, cond, List, [], ◌∷◌, ◌++◌, Option, Some, None, is_some, refl, ap, sym, subst, ◌∙◌}
use Rattle.std.proofs.lemmas.Map.Keys.{IsDistinct-push}
use Rattle.std.proofs.lemmas.Map.Made.{is_some-lookup}
use Rattle.std.specs.List.{IsDistinct}
use Rattle.std.specs.Map.{lookup, keys_of}
use Rattle.read_record.specs.declared.key.Key.{Key}
use Rattle.read_record.specs.declared.shared_key.TableKey.{TableKey}
use Rattle.read_record.specs.Keys.{same_key}
use Rattle.read_record.specs.KeyLayout.{Indexes, HoldsItsKeys}
use Rattle.read_record.specs.Queries.{Reads}
use Rattle.read_record.specs.SameKeys.{same_key-eq, same_key-equiv}
use Rattle.read_record.specs.TableKeys.{key_in, same_table_key}

keys-append : (reads : Reads) (r : Key × List ℕ) → keys_of (reads ++ r ∷ []) ≡ keys_of reads ++ r.0 ∷ []
keys-append [] r = refl
keys-append (s ∷ reads) r = ap (λ ks. s.0 ∷ ks) (keys-append reads r)

distinct-none : IsDistinct same_key []
unfolding IsDistinct
distinct-none = tt

-- no two reads have one key, where a new one is noted
distinct-noted : (reads : Reads) (r : Key × List ℕ) → IsDistinct same_key (keys_of reads) → lookup (same_key r.0) reads ≡ None → IsDistinct same_key (keys_of (reads ++ r ∷ []))
distinct-noted reads r distinct none =
    subst (IsDistinct same_key) (sym (keys-append reads r)) (IsDistinct-push same_key-equiv (keys_of reads) r.0 distinct (sym (is_some-lookup (same_key r.0) reads) ∙ ap is_some none))

-- ---- the index

either : {X Y : Type 0} (x : X) (y : Y) (o : Option X) (p : Option Y) (b : Bool) → is_some o ≡ is_some p → is_some (cond b (Some x) o) ≡ is_some (cond b (Some y) p)
either x y o p true same = refl
either x y o p false same = same

found-anyway : {X : Type 0} (x : X) (o : Option X) (b : Bool) → is_some o ≡ true → is_some (cond b (Some x) o) ≡ true
found-anyway x o true there = refl
found-anyway x o false there = there

-- a key is there once it is noted, and any other where it was there
noted-there : {X : Type 0} (x : X) (o : Option X) (k : Key) (reads : Reads) (r : Key × List ℕ) → is_some o ≡ is_some (lookup (same_key k) reads)
    → is_some (cond (same_key r.0 k) (Some x) o) ≡ is_some (lookup (same_key k) (reads ++ r ∷ []))
noted-there x o k [] r same = either x r.1 o None (same_key r.0 k) same ∙ ap (λ b. is_some (cond b (Some r.1) None)) (same_key-equiv.symm r.0 k)
noted-there x o k (s ∷ reads) r same = go (same_key k s.0) same (λ e. noted-there x o k reads r e)
  where
    go : (b : Bool) → is_some o ≡ is_some (cond b (Some s.1) (lookup (same_key k) reads))
        → (is_some o ≡ is_some (lookup (same_key k) reads) → is_some (cond (same_key r.0 k) (Some x) o) ≡ is_some (lookup (same_key k) (reads ++ r ∷ [])))
        → is_some (cond (same_key r.0 k) (Some x) o) ≡ is_some (cond b (Some s.1) (lookup (same_key k) (reads ++ r ∷ [])))
    go true e ih = found-anyway x o (same_key r.0 k) e
    go false e ih = ih e

module _ {X : Type 0} where
  indexes-one : (es fs : List (TableKey × X)) (reads : Reads) (key : TableKey) (x : X) (r : Key × List ℕ) → Indexes es reads → key_in key ≡ r.0
      → ((q : TableKey) → lookup (same_table_key q) fs ≡ cond (same_table_key key q) (Some x) (lookup (same_table_key q) es)) → Indexes fs (reads ++ r ∷ [])
  indexes-one es fs reads key x r has is new asked =
      ap is_some (new asked)
      ∙ ap (λ k. is_some (cond (same_key k (key_in asked)) (Some x) (lookup (same_table_key asked) es))) is
      ∙ noted-there x (lookup (same_table_key asked) es) (key_in asked) reads r (has asked)

  -- ---- what a builder keeps

  pub built-none : (es : List (TableKey × X)) (reads : Reads) → es ≡ [] → reads ≡ [] → IsDistinct same_key (keys_of reads) × Indexes es reads
  built-none es reads none empty = (
    subst (λ (rs : Reads). IsDistinct same_key (keys_of rs)) (sym empty) distinct-none,
    λ asked. ap (λ (xs : List (TableKey × X)). is_some (lookup (same_table_key asked) xs)) none ∙ sym (ap (λ (rs : Reads). is_some (lookup (same_key (key_in asked)) rs)) empty),
  )

  pub built-one : (es fs : List (TableKey × X)) (old kept new : Reads) (key : TableKey) (x : X) (r : Key × List ℕ) → IsDistinct same_key (keys_of old) × Indexes es old → kept ≡ old → new ≡ kept ++ r ∷ []
      → lookup (same_key r.0) old ≡ None → key_in key ≡ r.0 → ((q : TableKey) → lookup (same_table_key q) fs ≡ cond (same_table_key key q) (Some x) (lookup (same_table_key q) es))
      → IsDistinct same_key (keys_of new) × Indexes fs new
  built-one es fs old kept new key x r had same is none keyed updates =
      subst (λ (rs : Reads). IsDistinct same_key (keys_of rs) × Indexes fs rs) (sym (is ∙ ap (λ rs. rs ++ r ∷ []) same)) (distinct-noted old r had.0 none, indexes-one es fs old key x r had.1 keyed updates)

-- ---- keys that lead to reads of theirs

pub holds-none : HoldsItsKeys []
holds-none asked read found = cc

pub holds-one : (es fs : List (TableKey × (Key × List ℕ))) (key : TableKey) (r : Key × List ℕ) → HoldsItsKeys es → r.0 ≡ key_in key
    → ((q : TableKey) → lookup (same_table_key q) fs ≡ cond (same_table_key key q) (Some r) (lookup (same_table_key q) es)) → HoldsItsKeys fs
holds-one es fs key r holds is new asked read found = by (same_table_key key asked) refl (sym (new asked) ∙ found)
  where
    by : (b : Bool) → same_table_key key asked ≡ b → cond b (Some r) (lookup (same_table_key asked) es) ≡ Some read → read.0 ≡ key_in asked
    by true e f = let here : r ≡ read = cc in ap (λ (x : Key × List ℕ). x.0) (sym here) ∙ is ∙ same_key-eq (key_in key) (key_in asked) e
    by false e f = holds asked read f
