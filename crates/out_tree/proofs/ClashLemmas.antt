-- Maps of paths without a clash, after an edit.
use Rattle.std.proofs.Common.{◌≡◌, ℕ, Bool, true, false, cond, List, [], ◌∷◌, refl, sym, ap, ◌∙◌, Some, None, Option}
use Rattle.std.specs.Prelude.{◌||◌, ◌&&◌, ◌==◌, OnOk, OnErr, Result, Ok, Err, is_some, MatchOption}
use Rattle.std.specs.List.{list_any, IsDistinct}
use Rattle.std.specs.FinMap.{FinMap, contains_key, contains_key-keys, from_entries, get, get-from_entries, get-insert, get-remove, insert, remove, find, keys}
use Rattle.site_base.specs.Clash.{ClashFree, HasNoClash, has_below, has_folder, is_below}
use Rattle.site_base.specs.Places.{AllDiffer, path_cmp, paths_of, same_path, is_listed}
use Rattle.site_base.specs.PathMap.{as_map}
use Rattle.site_base.specs.declared.path_map.PathMap.{PathMap}
use Rattle.out_tree.proofs.Paths.{path_order, the_same, left_no, right_no}

below_itself : (path : List ℕ) → is_below path path ≡ false
below_itself [] = refl
below_itself (b ∷ path) = by (b == b) (below_itself path)
  where
    by : (c : Bool) → is_below path path ≡ false → (c && is_below path path) ≡ false
    by true e = e
    by false e = refl

-- a test that no path passes fails at each that is listed
none_any : (p : List ℕ → Bool) (xs : List (List ℕ)) (q : List ℕ) → list_any p xs ≡ false → is_listed q xs ≡ true → p q ≡ false
none_any p [] q none there = absurd (cc (there))
none_any p (x ∷ xs) q none there = by (same_path q x) refl there (none_any p xs q (right_no _ _ none))
  where
    by : (b : Bool) → same_path q x ≡ b → (b || is_listed q xs) ≡ true → (is_listed q xs ≡ true → p q ≡ false) → p q ≡ false
    by true e t rest = ap p (the_same q x e) ∙ left_no _ _ none
    by false e t rest = rest t

module _ {V : Type 0} where
  contains-insert : (m : FinMap path_cmp V) (k : List ℕ) (v : V) (q : List ℕ) → contains_key (insert m k v) q ≡ cond (same_path q k) true (contains_key m q)
  contains-insert m k v q = ap is_some (get-insert path_order m k v q) ∙ by (same_path q k)
    where
      by : (b : Bool) → is_some (cond b (Some v) (get m q)) ≡ cond b true (contains_key m q)
      by true = refl
      by false = refl

  no_folder : (m : FinMap path_cmp V) (path folder : List ℕ) → has_folder path (keys m) ≡ false → contains_key m folder ≡ true → is_below path folder ≡ false
  no_folder m path folder none there = none_any (λ f. is_below path f) (keys m) folder none (sym (contains_key-keys m folder) ∙ there)

  none_below : (m : FinMap path_cmp V) (folder path : List ℕ) → has_below folder (keys m) ≡ false → contains_key m path ≡ true → is_below path folder ≡ false
  none_below m folder path none there = none_any (λ p. is_below p folder) (keys m) path none (sym (contains_key-keys m path) ∙ there)

  no_clash-insert : (m : FinMap path_cmp V) (k : List ℕ) (v : V) → HasNoClash m → has_folder k (keys m) ≡ false → has_below k (keys m) ≡ false → HasNoClash (insert m k v)
  no_clash-insert m k v free folder_none below_none path folder p f =
      by (same_path path k) (same_path folder k) refl refl (sym (contains-insert m k v path) ∙ p) (sym (contains-insert m k v folder) ∙ f)
    where
      by : (a b : Bool) → same_path path k ≡ a → same_path folder k ≡ b → cond a true (contains_key m path) ≡ true → cond b true (contains_key m folder) ≡ true → is_below path folder ≡ false
      by true true e g _ _ = ap (λ q. is_below q folder) (the_same path k e) ∙ ap (is_below k) (the_same folder k g) ∙ below_itself k
      by true false e g _ there = ap (λ q. is_below q folder) (the_same path k e) ∙ no_folder m k folder folder_none there
      by false true e g there _ = ap (is_below path) (the_same folder k g) ∙ none_below m k path below_none there
      by false false e g a b = free path folder a b

  -- a file was put that does not stand in the way, or it was not
  pub no_clash-put : {E : Type 0} (r : Result (Unit {0}) E) (old new : FinMap path_cmp V) (k : List ℕ) (v : V) → OnOk r (new ≡ insert old k v) → OnErr r (new ≡ old) → HasNoClash old → (has_below k (keys old) || has_folder k (keys old)) ≡ false → HasNoClash new
  no_clash-put (Ok x) old new k v put kept free fits = λ path folder p f.
      no_clash-insert old k v free (right_no _ _ fits) (left_no _ _ fits) path folder (ap (λ (m : FinMap path_cmp V). contains_key m path) (sym put) ∙ p) (ap (λ (m : FinMap path_cmp V). contains_key m folder) (sym put) ∙ f)
  no_clash-put (Err x) old new k v put kept free fits = λ path folder p f.
      free path folder (ap (λ (m : FinMap path_cmp V). contains_key m path) (sym kept) ∙ p) (ap (λ (m : FinMap path_cmp V). contains_key m folder) (sym kept) ∙ f)

  pub no_clash-remove : (old new : FinMap path_cmp V) (k : List ℕ) → new ≡ remove old k → HasNoClash old → HasNoClash new
  no_clash-remove old new k is free = λ path folder p f. free path folder (was path p) (was folder f)
    where
      by : (q : List ℕ) (b : Bool) → is_some (cond b None (get old q)) ≡ true → contains_key old q ≡ true
      by q true e = absurd (cc (e))
      by q false e = e

      was : (q : List ℕ) → contains_key new q ≡ true → contains_key old q ≡ true
      was q there = by q (same_path q k) (ap is_some (sym (get-remove path_order old k q)) ∙ ap (λ (m : FinMap path_cmp V). contains_key m q) (sym is) ∙ there)

  is_some-find : (q : List ℕ) (es : List (List ℕ × V)) → is_some (find path_cmp q es) ≡ is_listed q (paths_of es)
  is_some-find q [] = refl
  is_some-find q (e ∷ es) = by (same_path q e.0) (is_some-find q es)
    where
      by : (b : Bool) → is_some (find path_cmp q es) ≡ is_listed q (paths_of es) → is_some (cond b (Some e.1) (find path_cmp q es)) ≡ (b || is_listed q (paths_of es))
      by true rest = refl
      by false rest = rest

  -- entries that were made a map
  pub made_of : (r : Option (PathMap V)) (P : Type 0) (made : PathMap V) (es : List (List ℕ × V)) → r ≡ Some made → MatchOption r P (λ m. AllDiffer (paths_of es) × (as_map m ≡ from_entries es)) → as_map made ≡ from_entries es
  made_of None P made es is given = absurd (cc (is))
  made_of (Some m) P made es is given = let e : m ≡ made = cc (is) in ap (λ (x : PathMap V). as_map x) (sym e) ∙ given.1

  -- the map of entries whose paths do not clash
  pub no_clash-from_entries : (m : FinMap path_cmp V) (es : List (List ℕ × V)) → m ≡ from_entries es → ClashFree (paths_of es) → HasNoClash m
  no_clash-from_entries m es is free = λ path folder p f. free path folder (listed path p) (listed folder f)
    where
      listed : (q : List ℕ) → contains_key m q ≡ true → is_listed q (paths_of es) ≡ true
      listed q there = sym (is_some-find q es) ∙ ap is_some (sym (get-from_entries path_order es q)) ∙ ap (λ (x : FinMap path_cmp V). contains_key x q) (sym is) ∙ there

-- no entries have no two alike paths
pub none_differ : {V : Type 0} (es : List (List ℕ × V)) → es ≡ [] → AllDiffer (paths_of es)
unfolding IsDistinct
none_differ [] e = tt
none_differ (e ∷ es) is = absurd (cc (is))
