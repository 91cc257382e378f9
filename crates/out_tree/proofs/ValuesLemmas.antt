-- Maps of paths with other values.
use Rattle.std.proofs.Common.{◌≡◌, ℕ, Bool, true, false, cond, List, [], ◌∷◌, map, length, refl, sym, ◌∙◌, ap, subst, Option, Some, None}
use Rattle.std.proofs.lemmas.List.{length-map}
use Rattle.std.specs.Prelude.{◌&&◌, T}
use Rattle.std.specs.Ordering.{is_lt}
use Rattle.std.specs.FinMap.{FinMap, get, entries, entries_sorted, contains_key, find, get-entries, get-from_sorted, get-insert, get-remove, insert, remove, is_sorted, same_map, entries-from_sorted, len, len-entries, keys}
use Rattle.std.specs.FinMap.Entries.{below_all}
use Rattle.std.specs.Option.{is_some, option_map}
use Rattle.site_base.specs.Places.{path_cmp, same_path}
use Rattle.out_tree.specs.Values.{map_values}
use Rattle.out_tree.proofs.Paths.{path_order, same_if_tied}

module _ {V W : Type 0} (f : V → W) where
  with_values : List (List ℕ × V) → List (List ℕ × W)
  with_values es = map (λ e. (e.0, f e.1)) es

  below_all-map : (q : List ℕ) (es : List (List ℕ × V)) → below_all path_cmp q es ≡ below_all path_cmp q (map (λ e. (e.0, f e.1)) es)
  below_all-map q [] = refl
  below_all-map q (e ∷ es) = ap (λ b. is_lt (path_cmp q e.0) && b) (below_all-map q es)

  pub is_sorted-map : (es : List (List ℕ × V)) → is_sorted path_cmp es ≡ is_sorted path_cmp (map (λ e. (e.0, f e.1)) es)
  is_sorted-map [] = refl
  is_sorted-map (e ∷ es) = λ i. below_all-map e.0 es i && is_sorted-map es i

  pub find-map : (q : List ℕ) (es : List (List ℕ × V)) → find path_cmp q (map (λ e. (e.0, f e.1)) es) ≡ option_map f (find path_cmp q es)
  find-map q [] = refl
  find-map q (e ∷ es) = elim (same_path q e.0) as (λ b. cond b (Some (f e.1)) (find path_cmp q (map (λ (d : List ℕ × V). (d.0, f d.1)) es)) ≡ option_map f (cond b (Some e.1) (find path_cmp q es))) [
    | true ↦ refl
    | false ↦ find-map q es
  ]

  pub get-map_values : (m : FinMap path_cmp V) (q : List ℕ) → get (map_values f m) q ≡ option_map f (get m q)
  get-map_values m q =
      get-from_sorted path_cmp (map (λ e. (e.0, f e.1)) (entries m)) q (subst T (is_sorted-map (entries m)) (entries_sorted m))
      ∙ find-map q (entries m) ∙ ap (option_map f) (sym (get-entries m q))

  pub entries-map_values : (m : FinMap path_cmp V) → entries (map_values f m) ≡ map (λ e. (e.0, f e.1)) (entries m)
  entries-map_values m = entries-from_sorted path_cmp (map (λ e. (e.0, f e.1)) (entries m)) (subst T (is_sorted-map (entries m)) (entries_sorted m))

  pub len-map_values : (m : FinMap path_cmp V) → len (map_values f m) ≡ len m
  len-map_values m = len-entries (map_values f m) ∙ ap length (entries-map_values m) ∙ length-map (entries m) (λ e. (e.0, f e.1)) ∙ sym (len-entries m)

  paths-map : (es : List (List ℕ × V)) → map (λ (d : List ℕ × W). d.0) (map (λ e. (e.0, f e.1)) es) ≡ map (λ e. e.0) es
  paths-map [] = refl
  paths-map (e ∷ es) = ap (λ l. e.0 ∷ l) (paths-map es)

  pub keys-map_values : (m : FinMap path_cmp V) → keys (map_values f m) ≡ keys m
  keys-map_values m = ap (map (λ (d : List ℕ × W). d.0)) (entries-map_values m) ∙ paths-map (entries m)

  same_there : (x : Option V) → is_some (option_map f x) ≡ is_some x
  same_there None = refl
  same_there (Some v) = refl

  pub contains_key-map_values : (m : FinMap path_cmp V) (q : List ℕ) → contains_key (map_values f m) q ≡ contains_key m q
  contains_key-map_values m q = ap is_some (get-map_values m q) ∙ same_there (get m q)

  pub map_values-insert : (m : FinMap path_cmp V) (k : List ℕ) (v : V) → map_values f (insert m k v) ≡ insert (map_values f m) k (f v)
  map_values-insert m k v = same_map path_order same_if_tied _ _ (λ q.
      get-map_values (insert m k v) q ∙ ap (option_map f) (get-insert path_order m k v q)
      ∙ at q (same_path q k) ∙ sym (get-insert path_order (map_values f m) k (f v) q))
    where
      at : (q : List ℕ) (b : Bool) → option_map f (cond b (Some v) (get m q)) ≡ cond b (Some (f v)) (get (map_values f m) q)
      at q true = refl
      at q false = sym (get-map_values m q)

  pub map_values-remove : (m : FinMap path_cmp V) (k : List ℕ) → map_values f (remove m k) ≡ remove (map_values f m) k
  map_values-remove m k = same_map path_order same_if_tied _ _ (λ q.
      get-map_values (remove m k) q ∙ ap (option_map f) (get-remove path_order m k q)
      ∙ at q (same_path q k) ∙ sym (get-remove path_order (map_values f m) k q))
    where
      at : (q : List ℕ) (b : Bool) → option_map f (cond b None (get m q)) ≡ cond b None (get (map_values f m) q)
      at q true = refl
      at q false = sym (get-map_values m q)
