-- Maps and lists of files, with their bytes as lists.
use Rattle.std.proofs.Common.{◌≡◌, ℕ, Bool, true, false, cond, List, [], ◌∷◌, refl, subst, sym, ap, ◌∙◌, Option, Some, None, Vec, Global}
use Rattle.std.specs.Prelude.{T, ◌&&◌, ◌||◌}
use Rattle.std.specs.List.{IsDistinct, AllByRecursion}
use Rattle.std.specs.Option.{is_some, option_map}
use Rattle.std.specs.Ordering.{is_lt}
use Rattle.std.specs.FinMap.{FinMap, contains_key, entries, entries-from_sorted, entries_sorted, find, from_entries, get, get-entries, get-from_entries, is_sorted, keys, same_map}
use Rattle.std.specs.FinMap.Entries.{below_all, is_some-find}
use Rattle.site_base.specs.Clash.{ClashFree, HasNoClash}
use Rattle.site_base.specs.Places.{AllDiffer, is_listed, path_cmp, paths_of, same_path}
use Rattle.source_tree.specs.Memory.{plain_files}
use Rattle.source_tree.specs.Put.{plain}
use Rattle.source_tree.proofs.Sums.{o, path_cmp-IsAntisymmetric}

abbrev File : Type 0
File = List ℕ × Vec ℕ Global

abbrev pub bytes : Vec ℕ Global → List ℕ
bytes v = v.items

below_all-plain : (p : List ℕ) (es : List File) → below_all path_cmp p (plain es) ≡ below_all path_cmp p es
below_all-plain p [] = refl
below_all-plain p (e ∷ es) = ap (λ b. is_lt (path_cmp p e.0) && b) (below_all-plain p es)

is_sorted-plain : (es : List File) → is_sorted path_cmp (plain es) ≡ is_sorted path_cmp es
is_sorted-plain [] = refl
is_sorted-plain (e ∷ es) = ap (λ b. b && is_sorted path_cmp (plain es)) (below_all-plain e.0 es) ∙ ap (λ b. below_all path_cmp e.0 es && b) (is_sorted-plain es)

pub find-plain : (q : List ℕ) (es : List File) → find path_cmp q (plain es) ≡ option_map bytes (find path_cmp q es)
find-plain q [] = refl
find-plain q (e ∷ es) = by (same_path q e.0) (find-plain q es)
  where
    by : (b : Bool) → find path_cmp q (plain es) ≡ option_map bytes (find path_cmp q es) → cond b (Some e.1.items) (find path_cmp q (plain es)) ≡ option_map bytes (cond b (Some e.1) (find path_cmp q es))
    by true rest = refl
    by false rest = rest

pub paths_of-plain : (es : List File) → paths_of (plain es) ≡ paths_of es
paths_of-plain [] = refl
paths_of-plain (e ∷ es) = ap (λ (l : List (List ℕ)). e.0 ∷ l) (paths_of-plain es)

pub entries-plain_files : (m : FinMap path_cmp (Vec ℕ Global)) → entries (plain_files m) ≡ plain (entries m)
entries-plain_files m = entries-from_sorted path_cmp (plain (entries m)) (subst T (sym (is_sorted-plain (entries m))) (entries_sorted m))

pub get-plain_files : (m : FinMap path_cmp (Vec ℕ Global)) (q : List ℕ) → get (plain_files m) q ≡ option_map bytes (get m q)
get-plain_files m q =
    get-entries (plain_files m) q ∙ ap (find path_cmp q) (entries-plain_files m) ∙ find-plain q (entries m) ∙ ap (option_map bytes) (sym (get-entries m q))

pub contains-plain_files : (m : FinMap path_cmp (Vec ℕ Global)) (q : List ℕ) → contains_key (plain_files m) q ≡ contains_key m q
contains-plain_files m q = ap is_some (get-plain_files m q) ∙ by (get m q)
  where
    by : (there : Option (Vec ℕ Global)) → is_some (option_map bytes there) ≡ is_some there
    by None = refl
    by (Some v) = refl

pub keys-plain_files : (m : FinMap path_cmp (Vec ℕ Global)) → keys (plain_files m) ≡ keys m
keys-plain_files m = ap paths_of (entries-plain_files m) ∙ paths_of-plain (entries m)

pub plain_files-from_entries : (es : List File) → plain_files (from_entries {R = path_cmp} es) ≡ from_entries (plain es)
plain_files-from_entries es = same_map o path_cmp-IsAntisymmetric _ _ (λ q.
    get-plain_files (from_entries es) q ∙ ap (option_map bytes) (get-from_entries o es q)
    ∙ sym (find-plain q es) ∙ sym (get-from_entries o (plain es) q))

module _ {V : Type 0} where
  pub contains-from_entries : (es : List (List ℕ × V)) (q : List ℕ) → contains_key (from_entries {R = path_cmp} es) q ≡ is_listed q (paths_of es)
  contains-from_entries es q = ap is_some (get-from_entries o es q) ∙ is_some-find path_cmp q es

  pub no_clash-from_entries : (es : List (List ℕ × V)) → ClashFree (paths_of es) → HasNoClash (from_entries {R = path_cmp} es)
  no_clash-from_entries es free path folder p f = free path folder (sym (contains-from_entries es path) ∙ p) (sym (contains-from_entries es folder) ∙ f)

apart_any : (p : List ℕ) (ps : List (List ℕ)) → AllByRecursion (λ q. same_path p q ≡ false) ps → is_listed p ps ≡ false
apart_any p [] d = refl
apart_any p (q ∷ ps) d = ap (λ b. b || is_listed p ps) d.0 ∙ apart_any p ps d.1

pub absent_later : (p : List ℕ) (ps : List (List ℕ)) → AllDiffer (p ∷ ps) → is_listed p ps ≡ false
unfolding IsDistinct
absent_later p ps d = apart_any p ps d.0

pub differ_later : (p : List ℕ) (ps : List (List ℕ)) → AllDiffer (p ∷ ps) → AllDiffer ps
unfolding IsDistinct
differ_later p ps d = d.1
