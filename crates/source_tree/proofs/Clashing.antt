-- Clashes among paths, and after an edit.
use Rattle.std.proofs.Common.{◌≡◌, ℕ, Bool, true, false, cond, List, [], ◌∷◌, refl, subst, sym, ap, ◌∙◌, Some}
use Rattle.std.specs.Prelude.{◌||◌, ◌&&◌, ◌==◌}
use Rattle.std.specs.List.{list_any}
use Rattle.std.specs.List as list
use Rattle.std.specs.Option.{is_some}
use Rattle.std.specs.Ordering.{is_eq}
use Rattle.std.specs.Cmp.{tied_itself}
use Rattle.std.specs.FinMap.{FinMap, contains_key, contains_key-keys, empty, get, get-empty, get-insert, insert, keys}
use Rattle.site_base.specs.Clash.{ClashFree, HasNoClash, first_folder, has_below, has_folder, is_below}
use Rattle.site_base.specs.Places.{path_cmp, same_path, is_listed}
use Rattle.source_tree.proofs.Sums.{equal, o, path_cmp-IsAntisymmetric}

pub same : (p q : List ℕ) → same_path p q ≡ true → p ≡ q
same p q e = path_cmp-IsAntisymmetric p q (equal _ e)

pub below_itself : (path : List ℕ) → is_below path path ≡ false
below_itself [] = refl
below_itself (b ∷ path) = by (b == b) (below_itself path)
  where
    by : (c : Bool) → is_below path path ≡ false → (c && is_below path path) ≡ false
    by true e = e
    by false e = refl

either_false : (a b : Bool) → (a || b) ≡ false → (a ≡ false) × (b ≡ false)
either_false true b e = absurd (cc (e))
either_false false b e = (refl, e)

-- a test that no element passes fails at each that is listed
pub none_any : (p : List ℕ → Bool) (xs : List (List ℕ)) (q : List ℕ) → list_any p xs ≡ false → is_listed q xs ≡ true → p q ≡ false
none_any p [] q none there = absurd (cc (there))
none_any p (x ∷ xs) q none there = by (same_path q x) refl there (none_any p xs q parts.1)
  where
    parts : (p x ≡ false) × (list_any p xs ≡ false)
    parts = either_false (p x) (list_any p xs) none

    by : (b : Bool) → same_path q x ≡ b → (b || is_listed q xs) ≡ true → (is_listed q xs ≡ true → p q ≡ false) → p q ≡ false
    by true e t rest = ap p (same q x e) ∙ parts.0
    by false e t rest = rest t

same_itself : (p : List ℕ) → same_path p p ≡ true
same_itself p = ap is_eq (tied_itself o p)

later_listed : (q x : List ℕ) (xs : List (List ℕ)) → is_listed q xs ≡ true → is_listed q (x ∷ xs) ≡ true
later_listed q x xs e = by (same_path q x) e
  where
    by : (b : Bool) → is_listed q xs ≡ true → (b || is_listed q xs) ≡ true
    by true e = refl
    by false e = e

pub record Passing (p : List ℕ → Bool) (xs : List (List ℕ)) : Type 0 where
  pub path : List ℕ
  pub there : is_listed path xs ≡ true
  pub passes : p path ≡ true

-- where some element passes, one that is listed does
pub some_any : (p : List ℕ → Bool) (xs : List (List ℕ)) → list_any p xs ≡ true → Passing p xs
some_any p [] e = absurd (cc (e))
some_any p (x ∷ xs) e = by (p x) refl e (some_any p xs)
  where
    later : Passing p xs → Passing p (x ∷ xs)
    later f = record { path = f.path; there = later_listed f.path x xs f.there; passes = f.passes }

    by : (b : Bool) → p x ≡ b → (b || list_any p xs) ≡ true → (list_any p xs ≡ true → Passing p xs) → Passing p (x ∷ xs)
    by true h t rest = record { path = x; there = ap (λ b. b || is_listed x xs) (same_itself x); passes = h }
    by false h t rest = later (rest t)

-- the paths of one are all among those of the other
abbrev pub Within : {V W : Type 0} → FinMap path_cmp V → FinMap path_cmp W → Type 0
Within few many = (q : List ℕ) → contains_key few q ≡ true → contains_key many q ≡ true

pub no_clash-empty : (V : Type 0) → HasNoClash (empty {X = V} {R = path_cmp})
no_clash-empty V path folder there _ = absurd (cc (ap is_some (get-empty {X = V} path_cmp path), there))

module _ {V : Type 0} where
  pub no_clash-within : {W : Type 0} (few : FinMap path_cmp V) (many : FinMap path_cmp W) → Within few many → HasNoClash many → HasNoClash few
  no_clash-within few many within free path folder p f = free path folder (within path p) (within folder f)

  pub contains-insert : (m : FinMap path_cmp V) (k : List ℕ) (v : V) (q : List ℕ) → contains_key (insert m k v) q ≡ cond (same_path q k) true (contains_key m q)
  contains-insert m k v q = ap is_some (get-insert o m k v q) ∙ by (same_path q k)
    where
      by : (b : Bool) → is_some (cond b (Some v) (get m q)) ≡ cond b true (contains_key m q)
      by true = refl
      by false = refl

  listed-keys : (m : FinMap path_cmp V) (q : List ℕ) → contains_key m q ≡ true → is_listed q (keys m) ≡ true
  listed-keys m q there = sym (contains_key-keys m q) ∙ there

  pub no_folder : (m : FinMap path_cmp V) (path folder : List ℕ) → has_folder path (keys m) ≡ false → contains_key m folder ≡ true → is_below path folder ≡ false
  no_folder m path folder none there = none_any (λ f. is_below path f) (keys m) folder none (listed-keys m folder there)

  pub none_below : (m : FinMap path_cmp V) (folder path : List ℕ) → has_below folder (keys m) ≡ false → contains_key m path ≡ true → is_below path folder ≡ false
  none_below m folder path none there = none_any (λ p. is_below p folder) (keys m) path none (listed-keys m path there)

  pub no_clash-insert : (m : FinMap path_cmp V) (k : List ℕ) (v : V) → HasNoClash m → has_folder k (keys m) ≡ false → has_below k (keys m) ≡ false → HasNoClash (insert m k v)
  no_clash-insert m k v free folder_none below_none path folder p f =
      by (same_path path k) (same_path folder k) refl refl (sym (contains-insert m k v path) ∙ p) (sym (contains-insert m k v folder) ∙ f)
    where
      by : (a b : Bool) → same_path path k ≡ a → same_path folder k ≡ b → cond a true (contains_key m path) ≡ true → cond b true (contains_key m folder) ≡ true → is_below path folder ≡ false
      by true true e g _ _ = ap (λ q. is_below q folder) (same path k e) ∙ ap (is_below k) (same folder k g) ∙ below_itself k
      by true false e g _ there = ap (λ q. is_below q folder) (same path k e) ∙ no_folder m k folder folder_none there
      by false true e g there _ = ap (is_below path) (same folder k g) ∙ none_below m k path below_none there
      by false false e g a b = free path folder a b

  -- a folder of a path, both held, is a clash
  pub folder_clashes : {W : Type 0} (m : FinMap path_cmp V) (many : FinMap path_cmp W) (k : List ℕ) → Within m many → contains_key many k ≡ true → has_folder k (keys m) ≡ true → HasNoClash many → ⊥
  folder_clashes m many k within there e free =
      let found = some_any (λ f. is_below k f) (keys m) e in
      let held : contains_key m found.path ≡ true = contains_key-keys m found.path ∙ found.there in
      absurd (cc (found.passes, free k found.path there (within found.path held)))

  pub below_clashes : {W : Type 0} (m : FinMap path_cmp V) (many : FinMap path_cmp W) (k : List ℕ) → Within m many → contains_key many k ≡ true → has_below k (keys m) ≡ true → HasNoClash many → ⊥
  below_clashes m many k within there e free =
      let found = some_any (λ p. is_below p k) (keys m) e in
      let held : contains_key m found.path ≡ true = contains_key-keys m found.path ∙ found.there in
      absurd (cc (found.passes, free found.path k (within found.path held) there))

  -- paths without a clash are those of a map without one
  pub clash_free-keys : (m : FinMap path_cmp V) → HasNoClash m → ClashFree (keys m)
  clash_free-keys m free path folder p f = free path folder (contains_key-keys m path ∙ p) (contains_key-keys m folder ∙ f)

  pub no_clash-keys : (m : FinMap path_cmp V) → ClashFree (keys m) → HasNoClash m
  no_clash-keys m free path folder p f = free path folder (listed-keys m path p) (listed-keys m folder f)

-- the first folder that is found is one of a listed path
pub found_folder : (all paths : List (List ℕ)) (folder : List ℕ) → list.find (λ f. has_below f all) paths ≡ Some folder → (is_listed folder paths ≡ true) × (has_below folder all ≡ true)
found_folder all [] folder e = absurd (cc (e))
found_folder all (x ∷ xs) folder e = by (has_below x all) refl e (found_folder all xs folder)
  where
    by : (b : Bool) → has_below x all ≡ b → cond b (Some x) (list.find (λ f. has_below f all) xs) ≡ Some folder → (list.find (λ f. has_below f all) xs ≡ Some folder → (is_listed folder xs ≡ true) × (has_below folder all ≡ true)) → (is_listed folder (x ∷ xs) ≡ true) × (has_below folder all ≡ true)
    by true h t rest =
        let is : x ≡ folder = cc (t) in
        (subst (λ f. is_listed f (x ∷ xs) ≡ true) is (ap (λ b. b || is_listed x xs) (same_itself x)), subst (λ f. has_below f all ≡ true) is h)
    by false h t rest = let found = rest t in (later_listed folder x xs found.0, found.1)

pub first_folder_clashes : (paths : List (List ℕ)) (folder : List ℕ) → first_folder paths ≡ Some folder → ClashFree paths → ⊥
first_folder_clashes paths folder e free =
    let found = found_folder paths paths folder e in
    let below = some_any (λ p. is_below p folder) paths found.1 in
    absurd (cc (below.passes, free below.path folder below.there found.0))
