-- A list of files that are put one after another, against the limits of the whole list and its clashes.
use Rattle.std.proofs.Common.{◌≡◌, ℕ, zero, suc, ◌+◌, ◌≤◌, ◌<◌, Bool, true, false, cond, List, [], ◌∷◌, ◌++◌, drop, get_or, length, take, refl, subst, sym, ap, ◌∙◌, arith, Option, Some, None, Vec, Global, IsNone, IsSome, MatchOption, Bor}
use Rattle.std.specs.Prelude.{◌||◌}
use Rattle.std.specs.List.{AllByRecursion, IsDistinct}
use Rattle.std.specs.Option.{is_some, option_copied, option_or}
use Rattle.std.specs.FinMap.{contains_key, empty, find, from_entries, get, get-empty, get-from_entries, insert, keys, len, len-empty, len-insert}
use Rattle.std.proofs.lemmas.List.{drop_all, drop_more, get_or-map, take-map, take_all, take_more}
use Rattle.std.proofs.lemmas.List.Sums.{sum_by_push}
use Rattle.std.specs.Cmp.{tied_itself}
use Rattle.std.specs.Ordering.{is_eq}
use Rattle.site_base.specs.Clash.{HasNoClash, first_folder, has_below, has_folder}
use Rattle.site_base.specs.Places.{AllDiffer, Files, is_listed, path_cmp, paths_of, same_path}
use Rattle.source_tree.specs.Fitting.{count_fitting, first_limit}
use Rattle.site_base.specs.Limits.{most_bytes}
use Rattle.source_tree.specs.Limits.{bytes_of, length_or_zero, most_files, most_site_bytes, site_bytes}
use Rattle.source_tree.specs.Put.{clash_refusal, first_refusal, passed_limit, plain, put_refusal}
use Rattle.source_tree.specs.declared.put_error.PutError.{PutError}
use Rattle.source_tree.specs.declared.put_error.PutError.TheVariants.{Clash}
use Rattle.source_tree.proofs.Clashing.{Within, below_clashes, clash_free-keys, contains-insert, first_folder_clashes, folder_clashes, no_clash-empty, no_clash-insert, no_clash-within, same}
use Rattle.source_tree.proofs.Holding.{Keeps, neither, passed_limit-None, site_bytes-empty}
use Rattle.source_tree.proofs.Plain.{absent_later, contains-from_entries, differ_later, paths_of-plain}
use Rattle.source_tree.proofs.Sums.{bytes_of-cons, o, site_bytes-insert}

abbrev pub File : Type 0
File = List ℕ × List ℕ

abbrev limit_at : ℕ → ℕ → File → Option PutError
limit_at number total e = passed_limit (length e.1) (number + 1) (total + length e.1)

-- the count of a walk over the files that has come so far
pub record Fits (es : List File) (number total : ℕ) : Type 0 where
  pub total_is : total ≡ bytes_of (take number es)
  pub within : total ≤ most_site_bytes
  pub count : count_fitting 0 0 es ≡ number + count_fitting number total (drop number es)
  pub limit : first_limit 0 0 es ≡ first_limit number total (drop number es)

pub fits-start : (es : List File) → Fits es 0 0
fits-start es = record { total_is = refl; within = omega arith; count = omega arith; limit = refl }

count_fitting-cons : (number total : ℕ) (e : File) (es : List File) (found : Option PutError) → limit_at number total e ≡ found → count_fitting number total (e ∷ es) ≡ cond (is_some found) 0 (suc (count_fitting (number + 1) (total + length e.1) es))
count_fitting-cons number total e es found is = ap (λ (f : Option PutError). cond (is_some f) 0 (suc (count_fitting (number + 1) (total + length e.1) es))) is

first_limit-cons : (number total : ℕ) (e : File) (es : List File) (found : Option PutError) → limit_at number total e ≡ found → first_limit number total (e ∷ es) ≡ option_or found (first_limit (number + 1) (total + length e.1) es)
first_limit-cons number total e es found is = ap (λ (f : Option PutError). option_or f (first_limit (number + 1) (total + length e.1) es)) is

pub fits-step : (es : List File) (number total : ℕ) (e : File) → number < length es → get_or es number e ≡ e → limit_at number total e ≡ None → Fits es number total → Fits es (number + 1) (total + length e.1)
fits-step es number total e lt at none fits =
    let left : drop number es ≡ e ∷ drop (number + 1) es = drop_more es number e lt ∙ ap (λ (x : File). x ∷ drop (number + 1) es) at in
    let front : take (number + 1) es ≡ take number es ++ e ∷ [] = take_more es number e lt ∙ ap (λ (x : File). take number es ++ x ∷ []) at in
    let passes = passed_limit-None (length e.1) (number + 1) (total + length e.1) none in
    let more = count_fitting-cons number total e (drop (number + 1) es) None none in
    let whole = ap (count_fitting number total) left in
    record {
      total_is = ap (λ n. n + length e.1) fits.total_is ∙ sym (sum_by_push (λ (f : File). length f.1) (take number es) e) ∙ ap bytes_of (sym front);
      within = passes.within;
      count = omega (arith, fits.count, more, whole);
      limit = fits.limit ∙ ap (first_limit number total) left ∙ first_limit-cons number total e (drop (number + 1) es) None none;
    }

pub record Found (es : List File) (number : ℕ) (limit : Option PutError) : Type 0 where
  pub number_is : number ≡ count_fitting 0 0 es
  pub limit_is : limit ≡ first_limit 0 0 es

pub fits-found : (es : List File) (number total : ℕ) (e : File) (limit : PutError) → number < length es → get_or es number e ≡ e → limit_at number total e ≡ Some limit → Fits es number total → Found es number (Some limit)
fits-found es number total e limit lt at is fits =
    let left : drop number es ≡ e ∷ drop (number + 1) es = drop_more es number e lt ∙ ap (λ (x : File). x ∷ drop (number + 1) es) at in
    let none = count_fitting-cons number total e (drop (number + 1) es) (Some limit) is in
    let whole = ap (count_fitting number total) left in
    record {
      number_is = omega (arith, fits.count, none, whole);
      limit_is = sym (fits.limit ∙ ap (first_limit number total) left ∙ first_limit-cons number total e (drop (number + 1) es) (Some limit) is);
    }

pub fits-end : (es : List File) (number total : ℕ) → length es ≤ number → Fits es number total → Found es number None
fits-end es number total le fits =
    let left : drop number es ≡ [] = drop_all number es le in
    let whole = ap (count_fitting number total) left in
    record {
      number_is = omega (arith, fits.count, whole);
      limit_is = sym (fits.limit ∙ ap (first_limit number total) left);
    }

-- the files once these were put one after another
abbrev pub after : Files → List File → Files
after m [] = m
after m (e ∷ es) = after (insert m e.0 e.1) es

-- none of the paths is held
abbrev pub Fresh : Files → List File → Type 0
Fresh m es = (q : List ℕ) → is_listed q (paths_of es) ≡ true → contains_key m q ≡ false

pub within-insert : (m : Files) (k v : List ℕ) → Within m (insert m k v)
within-insert m k v q there = contains-insert m k v q ∙ by (same_path q k)
  where
    by : (b : Bool) → cond b true (contains_key m q) ≡ true
    by true = refl
    by false = there

pub within-after : (m : Files) (es : List File) → Within m (after m es)
within-after m [] q there = there
within-after m (e ∷ es) q there = within-after (insert m e.0 e.1) es q (within-insert m e.0 e.1 q there)

same_itself : (p : List ℕ) → same_path p p ≡ true
same_itself p = ap is_eq (tied_itself o p)

holds-insert : (m : Files) (k v : List ℕ) → contains_key (insert m k v) k ≡ true
holds-insert m k v = contains-insert m k v k ∙ ap (λ b. cond b true (contains_key m k)) (same_itself k)

fresh-first : (m : Files) (e : File) (es : List File) → Fresh m (e ∷ es) → contains_key m e.0 ≡ false
fresh-first m e es fresh = fresh e.0 (ap (λ b. b || is_listed e.0 (paths_of es)) (same_itself e.0))

fresh-later : (m : Files) (e : File) (es : List File) → AllDiffer (paths_of (e ∷ es)) → Fresh m (e ∷ es) → Fresh (insert m e.0 e.1) es
fresh-later m e es differ fresh q there = contains-insert m e.0 e.1 q ∙ by (same_path q e.0) refl
  where
    absent : is_listed e.0 (paths_of es) ≡ false
    absent = absent_later e.0 (paths_of es) differ

    or_true : (a : Bool) → (a || true) ≡ true
    or_true true = refl
    or_true false = refl

    later : is_listed q (paths_of (e ∷ es)) ≡ true
    later = ap (λ b. same_path q e.0 || b) there ∙ or_true (same_path q e.0)

    by : (b : Bool) → same_path q e.0 ≡ b → cond b true (contains_key m q) ≡ false
    by true is = absurd (cc (ap (λ p. is_listed p (paths_of es)) (same q e.0 is), there, absent))
    by false is = fresh q later

len-fresh : (m : Files) (e : File) → contains_key m e.0 ≡ false → len (insert m e.0 e.1) ≡ len m + 1
len-fresh m e absent = len-insert o m e.0 e.1 ∙ ap (λ b. cond b (len m) (len m + 1)) absent

site_bytes-fresh : (m : Files) (e : File) → contains_key m e.0 ≡ false → site_bytes (insert m e.0 e.1) ≡ site_bytes m + length e.1
site_bytes-fresh m e absent = by (get m e.0) refl absent
  where
    by : (there : Option (List ℕ)) → get m e.0 ≡ there → is_some there ≡ false → site_bytes (insert m e.0 e.1) ≡ site_bytes m + length e.1
    by None is lacks = let none = ap length_or_zero is in omega (arith, none, site_bytes-insert m e.0 e.1)
    by (Some v) is lacks = absurd (cc (lacks))

-- what a put is refused for, where its path is new
put_refusal-fresh : (m : Files) (e : File) (number total : ℕ) → number ≡ len m → total ≡ site_bytes m → contains_key m e.0 ≡ false → put_refusal m e.0 e.1 ≡ option_or (limit_at number total e) (clash_refusal m e.0)
put_refusal-fresh m e number total few sum absent =
    ap (λ (n : ℕ). option_or (passed_limit (length e.1) n (site_bytes (insert m e.0 e.1))) (clash_refusal m e.0)) (len-fresh m e absent ∙ ap (λ (n : ℕ). n + 1) (sym few))
    ∙ ap (λ (n : ℕ). option_or (passed_limit (length e.1) (number + 1) n) (clash_refusal m e.0)) (site_bytes-fresh m e absent ∙ ap (λ (n : ℕ). n + length e.1) (sym sum))

-- one of the files that are put clashes with those before it
first_clash : (m : Files) (e : File) → HasNoClash (insert m e.0 e.1) → clash_refusal m e.0 ≡ None
first_clash m e free = by (has_folder e.0 (keys m)) (has_below e.0 (keys m)) refl refl
  where
    by : (x y : Bool) → has_folder e.0 (keys m) ≡ x → has_below e.0 (keys m) ≡ y → cond (x || y) (Some Clash) None ≡ None
    by true y f b = absurd (folder_clashes m (insert m e.0 e.1) e.0 (within-insert m e.0 e.1) (holds-insert m e.0 e.1) f free)
    by false true f b = absurd (below_clashes m (insert m e.0 e.1) e.0 (within-insert m e.0 e.1) (holds-insert m e.0 e.1) b free)
    by false false f b = refl

-- the files before the first that passes a limit
abbrev pub fitting : ℕ → ℕ → List File → List File
fitting number total es = take (count_fitting number total es) es

fitting-cons : (number total : ℕ) (e : File) (es : List File) → limit_at number total e ≡ None → fitting number total (e ∷ es) ≡ e ∷ fitting (number + 1) (total + length e.1) es
fitting-cons number total e es is = ap (λ (n : ℕ). take n (e ∷ es)) (count_fitting-cons number total e es None is)

fitting-stop : (number total : ℕ) (e : File) (es : List File) (limit : PutError) → limit_at number total e ≡ Some limit → fitting number total (e ∷ es) ≡ []
fitting-stop number total e es limit is = ap (λ (n : ℕ). take n (e ∷ es)) (count_fitting-cons number total e es (Some limit) is)

-- where the files before the first that passes a limit have no clash, the first refusal is that limit
pub refusal-limit : (es : List File) (m : Files) (number total : ℕ) → number ≡ len m → total ≡ site_bytes m → AllDiffer (paths_of es) → Fresh m es → HasNoClash (after m (fitting number total es)) → first_refusal m es ≡ first_limit number total es
refusal-limit [] m number total few sum differ fresh free = refl
refusal-limit (e ∷ es) m number total few sum differ fresh free =
    by (limit_at number total e) refl
    (λ none. refusal-limit es (insert m e.0 e.1) (number + 1) (total + length e.1)
    (ap (λ n. n + 1) few ∙ sym (len-fresh m e absent)) (ap (λ n. n + length e.1) sum ∙ sym (site_bytes-fresh m e absent))
    (differ_later e.0 (paths_of es) differ) (fresh-later m e es differ fresh)
    (subst (λ (l : List File). HasNoClash (after m l)) (fitting-cons number total e es none) free))
  where
    absent : contains_key m e.0 ≡ false
    absent = fresh-first m e es fresh

    refused : put_refusal m e.0 e.1 ≡ option_or (limit_at number total e) (clash_refusal m e.0)
    refused = put_refusal-fresh m e number total few sum absent

    by : (found : Option PutError) → limit_at number total e ≡ found → (limit_at number total e ≡ None → first_refusal (insert m e.0 e.1) es ≡ first_limit (number + 1) (total + length e.1) es) → first_refusal m (e ∷ es) ≡ first_limit number total (e ∷ es)
    by (Some limit) is rest =
        ap (λ (r : Option PutError). option_or r (first_refusal (insert m e.0 e.1) es)) (refused ∙ ap (λ (f : Option PutError). option_or f (clash_refusal m e.0)) is)
        ∙ sym (first_limit-cons number total e es (Some limit) is)
    by None is rest =
        let apart : HasNoClash (insert m e.0 e.1) =
        no_clash-within (insert m e.0 e.1) (after (insert m e.0 e.1) (fitting (number + 1) (total + length e.1) es))
        (within-after (insert m e.0 e.1) (fitting (number + 1) (total + length e.1) es))
        (subst (λ (l : List File). HasNoClash (after m l)) (fitting-cons number total e es is) free) in
        ap (λ (r : Option PutError). option_or r (first_refusal (insert m e.0 e.1) es)) (refused ∙ ap (λ (f : Option PutError). option_or f (clash_refusal m e.0)) is ∙ first_clash m e apart)
        ∙ rest is ∙ sym (first_limit-cons number total e es None is)

-- and where they have one, it is a clash
pub refusal-clash : (es : List File) (m : Files) (number total : ℕ) → number ≡ len m → total ≡ site_bytes m → AllDiffer (paths_of es) → Fresh m es → HasNoClash m → (HasNoClash (after m (fitting number total es)) → ⊥) → first_refusal m es ≡ Some Clash
refusal-clash [] m number total few sum differ fresh apart clashes = absurd (clashes apart)
refusal-clash (e ∷ es) m number total few sum differ fresh apart clashes =
    by (limit_at number total e) refl (has_folder e.0 (keys m)) (has_below e.0 (keys m)) refl refl
    (λ none free. refusal-clash es (insert m e.0 e.1) (number + 1) (total + length e.1)
    (ap (λ n. n + 1) few ∙ sym (len-fresh m e absent)) (ap (λ n. n + length e.1) sum ∙ sym (site_bytes-fresh m e absent))
    (differ_later e.0 (paths_of es) differ) (fresh-later m e es differ fresh) free
    (λ (h : HasNoClash (after (insert m e.0 e.1) (fitting (number + 1) (total + length e.1) es))). clashes (subst (λ (l : List File). HasNoClash (after m l)) (sym (fitting-cons number total e es none)) h)))
  where
    absent : contains_key m e.0 ≡ false
    absent = fresh-first m e es fresh

    refused : put_refusal m e.0 e.1 ≡ option_or (limit_at number total e) (clash_refusal m e.0)
    refused = put_refusal-fresh m e number total few sum absent

    first : (r : Option PutError) → put_refusal m e.0 e.1 ≡ r → first_refusal m (e ∷ es) ≡ option_or r (first_refusal (insert m e.0 e.1) es)
    first r is = ap (λ (r : Option PutError). option_or r (first_refusal (insert m e.0 e.1) es)) is

    by : (found : Option PutError) → limit_at number total e ≡ found → (x y : Bool) → has_folder e.0 (keys m) ≡ x → has_below e.0 (keys m) ≡ y → (limit_at number total e ≡ None → HasNoClash (insert m e.0 e.1) → first_refusal (insert m e.0 e.1) es ≡ Some Clash) → first_refusal m (e ∷ es) ≡ Some Clash
    by (Some limit) is x y f b rest = absurd (clashes (subst (λ (l : List File). HasNoClash (after m l)) (sym (fitting-stop number total e es limit is)) apart))
    by None is true y f b rest = first (Some Clash) (refused ∙ ap (λ (l : Option PutError). option_or l (clash_refusal m e.0)) is ∙ ap (λ (x : Bool). cond (x || has_below e.0 (keys m)) (Some Clash) None) f)
    by None is false true f b rest = first (Some Clash) (refused ∙ ap (λ (l : Option PutError). option_or l (clash_refusal m e.0)) is ∙ ap (λ (x : Bool). cond (x || has_below e.0 (keys m)) (Some Clash) None) f ∙ ap (λ (y : Bool). cond y (Some Clash) None) b)
    by None is false false f b rest =
        first None (refused ∙ ap (λ (l : Option PutError). option_or l (clash_refusal m e.0)) is ∙ ap (λ (x : Bool). cond (x || has_below e.0 (keys m)) (Some Clash) None) f ∙ ap (λ (y : Bool). cond y (Some Clash) None) b)
        ∙ rest is (no_clash-insert m e.0 e.1 apart f b)

either_listed : (a b c : Bool) → (b || cond a true c) ≡ ((a || b) || c)
either_listed true true c = refl
either_listed true false c = refl
either_listed false b c = refl

contains-after : (es : List File) (m : Files) (q : List ℕ) → contains_key (after m es) q ≡ (is_listed q (paths_of es) || contains_key m q)
contains-after [] m q = refl
contains-after (e ∷ es) m q =
    contains-after es (insert m e.0 e.1) q ∙ ap (λ b. is_listed q (paths_of es) || b) (contains-insert m e.0 e.1 q)
    ∙ either_listed (same_path q e.0) (is_listed q (paths_of es)) (contains_key m q)

-- the paths of files that were put are those of the map of their list
same_paths : (es : List File) (q : List ℕ) → contains_key (after empty es) q ≡ contains_key (from_entries {R = path_cmp} es) q
same_paths es q =
    contains-after es empty q ∙ ap (λ (there : Option (List ℕ)). is_listed q (paths_of es) || is_some there) (get-empty {X = List ℕ} path_cmp q)
    ∙ or_false (is_listed q (paths_of es)) ∙ sym (contains-from_entries es q)
  where
    or_false : (b : Bool) → (b || false) ≡ b
    or_false true = refl
    or_false false = refl

no_clash-after : (es : List File) (m : Files) → m ≡ from_entries es → HasNoClash m → HasNoClash (after empty es)
no_clash-after es m is free = no_clash-within (after empty es) m (λ q there. ap (λ (n : Files). contains_key n q) is ∙ sym (same_paths es q) ∙ there) free

no_clash-made : (es : List File) (m : Files) → m ≡ from_entries es → HasNoClash (after empty es) → HasNoClash m
no_clash-made es m is free = no_clash-within m (after empty es) (λ q there. same_paths es q ∙ sym (ap (λ (n : Files). contains_key n q) is) ∙ there) free

none_held : (es : List File) → Fresh empty es
none_held es q there = ap is_some (get-empty {X = List ℕ} path_cmp q)

-- the first that is refused is so for a clash
pub refused-clash : (es : List File) (m : Files) (number : ℕ) (folder : List ℕ) → AllDiffer (paths_of es) → number ≡ count_fitting 0 0 es → m ≡ from_entries (take number es) → first_folder (keys m) ≡ Some folder → first_refusal empty es ≡ Some Clash
refused-clash es m number folder differ is made found =
    let made_too : m ≡ from_entries (fitting 0 0 es) = made ∙ ap (λ (n : ℕ). from_entries (take n es)) is in
    refusal-clash es empty 0 0 (sym (len-empty path_cmp (List ℕ))) (sym site_bytes-empty) differ (none_held es) (no_clash-empty (List ℕ))
    (λ (free : HasNoClash (after empty (fitting 0 0 es))). first_folder_clashes (keys m) folder found (clash_free-keys m (no_clash-made (fitting 0 0 es) m made_too free)))

-- or for a limit
pub refused-limit : (es : List File) (m : Files) (number : ℕ) → AllDiffer (paths_of es) → number ≡ count_fitting 0 0 es → m ≡ from_entries (take number es) → HasNoClash m → first_refusal empty es ≡ first_limit 0 0 es
refused-limit es m number differ is made free =
    let made_too : m ≡ from_entries (fitting 0 0 es) = made ∙ ap (λ (n : ℕ). from_entries (take n es)) is in
    refusal-limit es empty 0 0 (sym (len-empty path_cmp (List ℕ))) (sym site_bytes-empty) differ (none_held es) (no_clash-after (fitting 0 0 es) m made_too free)

len-from_entries-le : (es : List File) → len (from_entries {R = path_cmp} es) ≤ length es
len-from_entries-le [] = omega (arith, len-empty path_cmp (List ℕ))
len-from_entries-le (e ∷ es) =
    let more : len (insert (from_entries {R = path_cmp} es) e.0 e.1) ≤ len (from_entries {R = path_cmp} es) + 1 =
    subst (λ (n : ℕ). n ≤ len (from_entries {R = path_cmp} es) + 1) (sym (len-insert o (from_entries es) e.0 e.1)) (by (contains_key (from_entries {R = path_cmp} es) e.0) (len (from_entries {R = path_cmp} es))) in
    omega (arith, more, len-from_entries-le es)
  where
    by : (b : Bool) (n : ℕ) → cond b n (n + 1) ≤ n + 1
    by true n = omega arith
    by false n = omega arith

pub site_bytes-from_entries : (es : List File) → AllDiffer (paths_of es) → site_bytes (from_entries es) ≡ bytes_of es
site_bytes-from_entries [] differ = site_bytes-empty
site_bytes-from_entries (e ∷ es) differ =
    let absent : contains_key (from_entries {R = path_cmp} es) e.0 ≡ false = contains-from_entries es e.0 ∙ absent_later e.0 (paths_of es) differ in
    let fresh = site_bytes-fresh (from_entries es) e absent in
    omega (arith, fresh, bytes_of-cons e es, site_bytes-from_entries es (differ_later e.0 (paths_of es) differ))

-- none of the files passes a limit
pub record AllFit (number total : ℕ) (es : List File) : Type 0 where
  pub whole : count_fitting number total es ≡ length es
  pub few : number ≤ most_files → number + length es ≤ most_files
  pub within : total ≤ most_site_bytes → total + bytes_of es ≤ most_site_bytes
  pub short : (path bytes : List ℕ) → find path_cmp path es ≡ Some bytes → length bytes ≤ most_bytes

pub fit-all : (es : List File) (number total : ℕ) → first_limit number total es ≡ None → AllFit number total es
fit-all [] number total none = record { whole = refl; few = λ h. omega (arith, h); within = λ h. omega (arith, h); short = λ path bytes is. absurd (cc (is)) }
fit-all (e ∷ es) number total none =
    let parts = neither (limit_at number total e) (first_limit (number + 1) (total + length e.1) es) none in
    let passes = passed_limit-None (length e.1) (number + 1) (total + length e.1) parts.0 in
    let rest = fit-all es (number + 1) (total + length e.1) parts.1 in
    let few_rest = rest.few passes.few in
    let within_rest = rest.within passes.within in
    record {
      whole = count_fitting-cons number total e es None parts.0 ∙ ap suc rest.whole;
      few = λ h. omega (arith, few_rest);
      within = λ h. omega (arith, within_rest, bytes_of-cons e es);
      short = λ path bytes is. by path bytes (same_path path e.0) passes.short rest.short is;
    }
  where
    by : (path bytes : List ℕ) (b : Bool) → length e.1 ≤ most_bytes → ((path bytes : List ℕ) → find path_cmp path es ≡ Some bytes → length bytes ≤ most_bytes) → cond b (Some e.1) (find path_cmp path es) ≡ Some bytes → length bytes ≤ most_bytes
    by path bytes true short rest is = subst (λ (w : List ℕ). length w ≤ most_bytes) (same_bytes is) short
      where
        same_bytes : Some e.1 ≡ Some bytes → e.1 ≡ bytes
        same_bytes is = cc (is)
    by path bytes false short rest is = rest path bytes is

-- where no limit is passed, the files are held
pub held-from_entries : (es : List File) (m : Files) (number total : ℕ) → AllDiffer (paths_of es) → number ≡ count_fitting 0 0 es → total ≡ bytes_of (take number es) → m ≡ from_entries (take number es) → HasNoClash m → first_limit 0 0 es ≡ None → (m ≡ from_entries es) × Keeps total m
held-from_entries es m number total differ is sum made free none =
    let fit = fit-all es 0 0 none in
    let all : take number es ≡ es = take_all number es (omega (arith, is, fit.whole)) in
    let whole : m ≡ from_entries es = made ∙ ap from_entries all in
    let few = fit.few (omega arith) in
    let within = fit.within (omega arith) in
    let bytes = site_bytes-from_entries es differ in
    let total_is : total ≡ bytes_of es = sum ∙ ap bytes_of all in (
      whole,
      (
        total_is ∙ sym bytes ∙ ap site_bytes (sym whole),
        record {
          few = omega (arith, ap len whole, len-from_entries-le es, few);
          short = λ path b there. fit.short path b (sym (get-from_entries o es path) ∙ sym (ap (λ (n : Files). get n path) whole) ∙ there);
          within = omega (arith, ap site_bytes whole, bytes, within);
          apart = free;
        },
      ),
    )

-- a file of a list, with its bytes as a list
pub plain_at : (files : List (List ℕ × Vec ℕ Global)) (number : ℕ) (file : List ℕ × Vec ℕ Global) → number < length files → file ≡ get_or files number file → get_or (plain files) number (file.0, file.1.items) ≡ (file.0, file.1.items)
plain_at files number file lt is =
    get_or-map (λ (f : List ℕ × Vec ℕ Global). (f.0, f.1.items)) files number file (file.0, file.1.items) lt
    ∙ ap (λ (f : List ℕ × Vec ℕ Global). (f.0, f.1.items)) (sym is)

pub plain_length : (files : List (List ℕ × Vec ℕ Global)) → length (plain files) ≡ length files
plain_length [] = refl
plain_length (f ∷ files) = ap suc (plain_length files)

abbrev pub VecFile : Type 0
VecFile = List ℕ × Vec ℕ Global

abbrev pub as_plain : VecFile → File
as_plain file = (file.0, file.1.items)

limit_here : (number total bytes : ℕ) (file : VecFile) (found : Option PutError) → bytes ≡ length file.1.items → found ≡ passed_limit bytes (number + 1) (total + bytes) → limit_at number total (as_plain file) ≡ found
limit_here number total bytes file found len is = sym (is ∙ ap (λ (n : ℕ). passed_limit n (number + 1) (total + n)) len)

-- the walk meets a limit
pub counted-found : (files : List VecFile) (number total bytes : ℕ) (file : VecFile) (found : Option PutError) → number < length files → file ≡ get_or files number file → bytes ≡ length file.1.items → found ≡ passed_limit bytes (number + 1) (total + bytes) → is_some found ≡ true → Fits (plain files) number total → Found (plain files) number found
counted-found files number total bytes file None lt at len is there fits = absurd (cc (there))
counted-found files number total bytes file (Some limit) lt at len is there fits =
    fits-found (plain files) number total (as_plain file) limit (omega (arith, plain_length files, lt)) (plain_at files number file lt at) (limit_here number total bytes file (Some limit) len is) fits

-- or goes on
pub counted-step : (files : List VecFile) (number total bytes : ℕ) (file : VecFile) (found : Option PutError) → number < length files → file ≡ get_or files number file → bytes ≡ length file.1.items → found ≡ passed_limit bytes (number + 1) (total + bytes) → is_some found ≡ false → Fits (plain files) number total → Fits (plain files) (number + 1) (total + bytes)
counted-step files number total bytes file (Some limit) lt at len is there fits = absurd (cc (there))
counted-step files number total bytes file None lt at len is there fits =
    subst (λ (n : ℕ). Fits (plain files) (number + 1) (total + n)) (sym len)
    (fits-step (plain files) number total (as_plain file) (omega (arith, plain_length files, lt)) (plain_at files number file lt at) (limit_here number total bytes file None len is) fits)

all-front : (p : List ℕ) (n : ℕ) (ps : List (List ℕ)) → AllByRecursion (λ q. same_path p q ≡ false) ps → AllByRecursion (λ q. same_path p q ≡ false) (take n ps)
all-front p zero [] d = tt
all-front p zero (q ∷ ps) d = tt
all-front p (suc n) [] d = tt
all-front p (suc n) (q ∷ ps) d = (d.0, all-front p n ps d.1)

differ-front : (n : ℕ) (ps : List (List ℕ)) → AllDiffer ps → AllDiffer (take n ps)
unfolding IsDistinct
differ-front zero [] d = tt
differ-front zero (p ∷ ps) d = tt
differ-front (suc n) [] d = tt
differ-front (suc n) (p ∷ ps) d = (all-front p n ps d.0, differ-front n ps d.1)

-- the front of a list of files still has differing paths
pub differ-kept : (files kept : List VecFile) (es : List File) (number : ℕ) → AllDiffer (paths_of files) → kept ≡ take number files → es ≡ plain kept → AllDiffer (paths_of es)
differ-kept files kept es number differ front is =
    subst AllDiffer (sym (ap paths_of is ∙ paths_of-plain kept ∙ ap paths_of front ∙ sym (take-map (λ (f : VecFile). f.0) number files))) (differ-front number (paths_of files) differ)

-- what an option holds, where it is there
pub made_of : {X : Type 0} (P : Type 0) (Q : X → Type 0) (o : Option X) (x : X) → o ≡ Some x → MatchOption o P Q → Q x
made_of P Q o x is h = subst (λ o. MatchOption o P Q) is h

pub is_made : {X : Type 0} (P : Type 0) (Q : X → Type 0) (o : Option X) → P → MatchOption o (P → ⊥) Q → IsSome o
is_made P Q None p h = absurd (h p)
is_made P Q (Some x) p h = refl

pub none_of : {X : Type 0} (o : Option X) → is_some o ≡ false → IsNone o
none_of None e = refl
none_of (Some x) e = absurd (cc (e))

pub some_folder : (o : Option (Bor (List ℕ))) → is_some o ≡ true → (folder : List ℕ) × (option_copied o ≡ Some folder)
some_folder None e = absurd (cc (e))
some_folder (Some x) e = (x.now, refl)

-- files of which the front that passes no limit has no clash
pub record Fitted (files : List VecFile) (total : ℕ) (limit : Option PutError) (m : Files) : Type 0 where
  pub refused : first_refusal empty (plain files) ≡ limit
  pub held : limit ≡ None → (m ≡ from_entries (plain files)) × Keeps total m

pub fitted : (files given : List VecFile) (number total : ℕ) (limit : Option PutError) (m : Files) → given ≡ files → AllDiffer (paths_of files) → number ≡ count_fitting 0 0 (plain given) → total ≡ bytes_of (take number (plain given)) → limit ≡ first_limit 0 0 (plain given) → m ≡ from_entries (take number (plain files)) → HasNoClash m → Fitted files total limit m
fitted files given number total limit m same_files differ number_given total_given limit_given made free =
    let differ_plain : AllDiffer (paths_of (plain files)) = subst AllDiffer (sym (paths_of-plain files)) differ in
    let number_is : number ≡ count_fitting 0 0 (plain files) = number_given ∙ ap (λ (l : List VecFile). count_fitting 0 0 (plain l)) same_files in
    let total_is : total ≡ bytes_of (take number (plain files)) = total_given ∙ ap (λ (l : List VecFile). bytes_of (take number (plain l))) same_files in
    let limit_is : limit ≡ first_limit 0 0 (plain files) = limit_given ∙ ap (λ (l : List VecFile). first_limit 0 0 (plain l)) same_files in
    record {
      refused = refused-limit (plain files) m number differ_plain number_is made free ∙ sym limit_is;
      held = λ none. held-from_entries (plain files) m number total differ_plain number_is total_is made free (sym limit_is ∙ none);
    }

pub clashed : (files given : List VecFile) (number : ℕ) (m : Files) (found : Option (Bor (List ℕ))) → given ≡ files → AllDiffer (paths_of files) → number ≡ count_fitting 0 0 (plain given) → m ≡ from_entries (take number (plain files)) → option_copied found ≡ first_folder (keys m) → is_some found ≡ true → first_refusal empty (plain files) ≡ Some Clash
clashed files given number m found same_files differ number_given made first there =
    let folder = some_folder found there in
    refused-clash (plain files) m number folder.0 (subst AllDiffer (sym (paths_of-plain files)) differ)
    (number_given ∙ ap (λ (l : List VecFile). count_fitting 0 0 (plain l)) same_files) made (sym first ∙ folder.1)
