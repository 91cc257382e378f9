-- What may be held stays so.
use Rattle.std.proofs.Common.{◌≡◌, ℕ, ◌+◌, ◌-◌, ◌≤◌, Bool, true, false, cond, List, [], ◌∷◌, length, refl, subst, sym, ap, ◌∙◌, arith, Option, Some, None}
use Rattle.std.specs.Prelude.{nat_lt, ◌||◌}
use Rattle.std.specs.Option.{is_some, option_or}
use Rattle.std.specs.FinMap.{contains_key, empty, entries, get, get-empty, get-insert, get-remove, insert, len, len-empty, len-entries, len-insert, len-remove, remove, keys}
use Rattle.site_base.specs.Clash.{has_below, has_folder}
use Rattle.site_base.specs.Places.{path_cmp, Files, same_path}
use Rattle.site_base.specs.Limits.{most_bytes}
use Rattle.source_tree.specs.Limits.{CanBeHeld, bytes_of, most_files, most_site_bytes, site_bytes}
use Rattle.source_tree.specs.Put.{clash_refusal, passed_limit, put_refusal}
use Rattle.source_tree.specs.declared.put_error.PutError.{PutError}
use Rattle.source_tree.specs.declared.put_error.PutError.TheVariants.{FileTooLong, TooManyFiles, SiteTooLong, Clash}
use Rattle.source_tree.proofs.Clashing.{Within, no_clash-empty, no_clash-insert, no_clash-within}
use Rattle.source_tree.proofs.Sums.{at_removed, get_removed, o, site_bytes-insert, site_bytes-remove}
use borrow.Author.Tests.{ltb-false}

nothing : {A : Type 0} (xs : List A) → length xs ≡ 0 → xs ≡ []
nothing [] e = refl
nothing (x ∷ xs) e = absurd (omega arith)

pub no_entries : {V : Type 0} → entries (empty {X = V} {R = path_cmp}) ≡ []
no_entries {V} = nothing _ (sym (len-entries (empty {X = V} {R = path_cmp})) ∙ len-empty path_cmp V)

pub site_bytes-empty : site_bytes (empty {X = List ℕ} {R = path_cmp}) ≡ 0
site_bytes-empty = ap bytes_of (no_entries {V = List ℕ})

pub site_bytes-put : (m : Files) (k v : List ℕ) → site_bytes (insert m k v) ≡ site_bytes (remove m k) + length v
site_bytes-put m k v = omega (arith, site_bytes-insert m k v, site_bytes-remove m k)

pub len-there : (m : Files) (k v : List ℕ) → get m k ≡ Some v → len m ≡ len (remove m k) + 1
len-there m k v is =
    ap len (sym (at_removed m k v is)) ∙ len-insert o (remove m k) k v
    ∙ ap (λ (there : Option (List ℕ)). cond (is_some there) (len (remove m k)) (len (remove m k) + 1)) (get_removed m k)

pub len-absent : (m : Files) (k : List ℕ) → get m k ≡ None → len (remove m k) ≡ len m
len-absent m k is = len-remove o m k ∙ ap (λ (there : Option (List ℕ)). cond (is_some there) (len m - 1) (len m)) is

pub len-put : (m : Files) (k v : List ℕ) → len (insert m k v) ≡ len (remove m k) + 1
len-put m k v = len-insert o m k v ∙ by (get m k) refl
  where
    by : (there : Option (List ℕ)) → get m k ≡ there → cond (is_some (get m k)) (len m) (len m + 1) ≡ len (remove m k) + 1
    by None is = ap (λ (there : Option (List ℕ)). cond (is_some there) (len m) (len m + 1)) is ∙ ap (λ (n : ℕ). n + 1) (sym (len-absent m k is))
    by (Some w) is = ap (λ (there : Option (List ℕ)). cond (is_some there) (len m) (len m + 1)) is ∙ len-there m k w is

-- no limit is passed
pub record Passes (file_bytes files bytes : ℕ) : Type 0 where
  pub short : file_bytes ≤ most_bytes
  pub few : files ≤ most_files
  pub within : bytes ≤ most_site_bytes

pub passed_limit-None : (a b c : ℕ) → passed_limit a b c ≡ None → Passes a b c
passed_limit-None a b c none = by (nat_lt most_bytes a) (nat_lt most_files b) (nat_lt most_site_bytes c) refl refl refl none
  where
    by : (x y z : Bool) → nat_lt most_bytes a ≡ x → nat_lt most_files b ≡ y → nat_lt most_site_bytes c ≡ z → cond x (Some FileTooLong) (cond y (Some TooManyFiles) (cond z (Some SiteTooLong) None)) ≡ None → Passes a b c
    by true y z e f g is = absurd (cc (is))
    by false true z e f g is = absurd (cc (is))
    by false false true e f g is = absurd (cc (is))
    by false false false e f g is = record { short = ltb-false _ _ e; few = ltb-false _ _ f; within = ltb-false _ _ g }

pub clash_refusal-None : (m : Files) (k : List ℕ) → clash_refusal m k ≡ None → (has_folder k (keys m) ≡ false) × (has_below k (keys m) ≡ false)
clash_refusal-None m k none = by (has_folder k (keys m)) (has_below k (keys m)) none
  where
    by : (x y : Bool) → cond (x || y) (Some Clash) None ≡ None → (x ≡ false) × (y ≡ false)
    by true y is = absurd (cc (is))
    by false true is = absurd (cc (is))
    by false false is = (refl, refl)

pub neither : {A : Type 0} (one other : Option A) → option_or one other ≡ None → (one ≡ None) × (other ≡ None)
neither None other is = (refl, is)
neither (Some x) other is = absurd (cc (is))

-- what the refusal is, counted from the other files
pub put_refusal-besides : (m : Files) (k v : List ℕ) → put_refusal m k v ≡ option_or (passed_limit (length v) (len (remove m k) + 1) (site_bytes (remove m k) + length v)) (clash_refusal m k)
put_refusal-besides m k v =
    ap (λ (n : ℕ). option_or (passed_limit (length v) n (site_bytes (insert m k v))) (clash_refusal m k)) (len-put m k v)
    ∙ ap (λ (n : ℕ). option_or (passed_limit (length v) (len (remove m k) + 1) n) (clash_refusal m k)) (site_bytes-put m k v)

some_same : (v w : List ℕ) → Some v ≡ Some w → v ≡ w
some_same v w e = cc (e)

pub can_hold-insert : (m : Files) (k v : List ℕ) → CanBeHeld m → put_refusal m k v ≡ None → CanBeHeld (insert m k v)
can_hold-insert m k v held none =
    let both = neither (passed_limit (length v) (len (insert m k v)) (site_bytes (insert m k v))) (clash_refusal m k) none in
    let passes = passed_limit-None _ _ _ both.0 in
    let apart = clash_refusal-None m k both.1 in
    record {
      few = passes.few;
      short = λ path bytes is. short_by path bytes (same_path path k) passes.short (sym (get-insert o m k v path) ∙ is);
      within = passes.within;
      apart = no_clash-insert m k v held.apart apart.0 apart.1;
    }
  where
    short_by : (path bytes : List ℕ) (b : Bool) → length v ≤ most_bytes → cond b (Some v) (get m path) ≡ Some bytes → length bytes ≤ most_bytes
    short_by path bytes true short is = subst (λ (w : List ℕ). length w ≤ most_bytes) (some_same v bytes is) short
    short_by path bytes false short is = held.short path bytes is

pub can_hold-remove : (m : Files) (k : List ℕ) → CanBeHeld m → CanBeHeld (remove m k)
can_hold-remove m k held = record {
  few = omega (arith, fewer, held.few);
  short = λ path bytes is. held.short path bytes (kept path bytes (same_path path k) (sym (get-remove o m k path) ∙ is));
  within = omega (arith, site_bytes-remove m k, held.within);
  apart = no_clash-within (remove m k) m within held.apart;
}
  where
    fewer : len (remove m k) ≤ len m
    fewer = subst (λ (n : ℕ). n ≤ len m) (sym (len-remove o m k)) (by (contains_key m k))
      where
        by : (b : Bool) → cond b (len m - 1) (len m) ≤ len m
        by true = omega arith
        by false = omega arith

    kept : (path bytes : List ℕ) (b : Bool) → cond b None (get m path) ≡ Some bytes → get m path ≡ Some bytes
    kept path bytes true is = absurd (cc (is))
    kept path bytes false is = is

    within : Within (remove m k) m
    within path there = by (same_path path k) (sym (ap is_some (get-remove o m k path)) ∙ there)
      where
        by : (b : Bool) → is_some (cond b None (get m path)) ≡ true → contains_key m path ≡ true
        by true e = absurd (cc (e))
        by false e = e

pub can_hold-empty : CanBeHeld (empty {X = List ℕ} {R = path_cmp})
can_hold-empty = record {
  few = omega (arith, len-empty path_cmp (List ℕ));
  short = λ path bytes is. absurd (cc (get-empty {X = List ℕ} path_cmp path, is));
  within = omega (arith, site_bytes-empty);
  apart = no_clash-empty (List ℕ);
}

-- the facts of `Held`: its count of bytes and its files
abbrev pub Keeps : ℕ → Files → Type 0
Keeps total m = (total ≡ site_bytes m) × CanBeHeld m

pub keeps-empty : (m : Files) → m ≡ empty → Keeps 0 m
keeps-empty m is = subst (λ (n : Files). Keeps 0 n) (sym is) (sym site_bytes-empty, can_hold-empty)

pub keeps-insert : (total : ℕ) (m seen n : Files) (k v : List ℕ) → m ≡ seen → CanBeHeld m → put_refusal seen k v ≡ None → total ≡ site_bytes (remove seen k) + length v → n ≡ insert m k v → Keeps total n
keeps-insert total m seen n k v view held none sum is =
    let none_there : put_refusal m k v ≡ None = subst (λ (s : Files). put_refusal s k v ≡ None) (sym view) none in
    let sum_there : total ≡ site_bytes (remove m k) + length v = subst (λ (s : Files). total ≡ site_bytes (remove s k) + length v) (sym view) sum in
    subst (λ (n : Files). Keeps total n) (sym is) (sum_there ∙ sym (site_bytes-put m k v), can_hold-insert m k v held none_there)

pub keeps-remove : (total : ℕ) (m seen n : Files) (k : List ℕ) → m ≡ seen → CanBeHeld m → total ≡ site_bytes (remove seen k) → n ≡ remove m k → Keeps total n
keeps-remove total m seen n k view held sum is =
    let sum_there : total ≡ site_bytes (remove m k) = subst (λ (s : Files). total ≡ site_bytes (remove s k)) (sym view) sum in
    subst (λ (n : Files). Keeps total n) (sym is) (sum_there, can_hold-remove m k held)

-- the refusal from the counts of the other files
passed-besides : (m : Files) (k v : List ℕ) (files total : ℕ) → files ≡ len (remove m k) → total ≡ site_bytes (remove m k) → passed_limit (length v) (len (remove m k) + 1) (site_bytes (remove m k) + length v) ≡ passed_limit (length v) (files + 1) (total + length v)
passed-besides m k v files total few sum =
    ap (λ (n : ℕ). passed_limit (length v) (n + 1) (site_bytes (remove m k) + length v)) (sym few)
    ∙ ap (λ (n : ℕ). passed_limit (length v) (files + 1) (n + length v)) (sym sum)

-- where a limit is passed, that is the refusal
pub put_refusal-limit : (m : Files) (k v : List ℕ) (files total : ℕ) (limit : PutError) → files ≡ len (remove m k) → total ≡ site_bytes (remove m k) → passed_limit (length v) (files + 1) (total + length v) ≡ Some limit → put_refusal m k v ≡ Some limit
put_refusal-limit m k v files total limit few sum is =
    put_refusal-besides m k v ∙ ap (λ (found : Option PutError). option_or found (clash_refusal m k)) (passed-besides m k v files total few sum ∙ is)

-- and where none is, a clash
pub put_refusal-clash : (m : Files) (k v : List ℕ) (files total : ℕ) → files ≡ len (remove m k) → total ≡ site_bytes (remove m k) → passed_limit (length v) (files + 1) (total + length v) ≡ None → put_refusal m k v ≡ clash_refusal m k
put_refusal-clash m k v files total few sum is =
    put_refusal-besides m k v ∙ ap (λ (found : Option PutError). option_or found (clash_refusal m k)) (passed-besides m k v files total few sum ∙ is)

pub only_none : {A : Type 0} (found : Option A) → ((x : A) → found ≡ Some x → ⊥) → found ≡ None
only_none None none = refl
only_none (Some x) none = absurd (none x refl)
