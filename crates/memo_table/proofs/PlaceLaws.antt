-- Lists under names as maps: where a value stands, and the walk that gathers those of given names.
use Rattle.std.proofs.Common.{◌≡◌, ℕ, zero, suc, ◌+◌, ◌<◌, ◌≤◌, Bool, true, false, cond, ◌||◌, is_some, List, [], ◌∷◌, ◌++◌, map, length, take, get_or, slice_get, slice_set, swap, position, option_map, Option, Some, None, IfSome, MatchOption, refl, sym, ap, ◌∙◌, arith}
use Rattle.std.proofs.lemmas.List.{map-append}
use Rattle.std.proofs.lemmas.List.Folds.{list_any_more}
use Rattle.std.proofs.lemmas.List.Quantifiers.{position-Some}
use Rattle.std.proofs.lemmas.Option.{slice_get_within, get_or_from_slice_get, slice_get-map}
use Rattle.std.specs.Cmp.{eq_by_cmp_equiv}
use Rattle.std.specs.Map.{lookup, keys_of, values_of}
use Rattle.std.specs.FinMap.{FinMap, get, insert, find, from_entries, get-empty, get-from_entries, from_entries_push}
use Rattle.site_base.specs.declared.item_name.ItemName.{ItemName}
use Rattle.memo_table.specs.declared.name_key.NameKey.{NameKey}
use Rattle.memo_table.specs.declared.name_key.NameKey.TheVariants.{Kept}
use Rattle.memo_table.specs.Names.{name_cmp, same_name, is_among}
use Rattle.memo_table.specs.SameNames.{name_cmp_total, name_cmp-IsAntisymmetric, same_name-eq, same_name-refl}
use Rattle.memo_table.specs.Entries.{of_names}
use Rattle.memo_table.specs.NameKeys.{name_of, same_key, as_map, StandsAt}
use Rattle.memo_table.proofs.EntryLaws.{same, get-with, get-of_names}

element : {X : Type 0} (xs : List X) (i : ℕ) → i < length xs → (x : X) × (slice_get xs i ≡ Some x)
element [] i l = absurd (omega arith)
element (x ∷ xs) zero l = (x, refl)
element (x ∷ xs) (suc i) l = element xs i (omega arith)

fresh : (names : List ItemName) (i : ℕ) (n : ItemName) → ((j : ℕ) → j < i → slice_get names j ≡ Some n → ⊥) → is_among (take i names) n ≡ false
fresh [] zero n h = refl
fresh [] (suc i) n h = refl
fresh (m ∷ names) zero n h = refl
fresh (m ∷ names) (suc i) n h = at (same_name n m) refl (fresh names i n (λ j l. h (suc j) (omega arith)))
  where
    at : (b : Bool) → same_name n m ≡ b → is_among (take i names) n ≡ false → (b || is_among (take i names) n) ≡ false
    at true e rest = absurd (h 0 (omega arith) (ap Some (sym (same_name-eq n m e))))
    at false e rest = rest

-- where names differ, the one at a place is none of those before it
pub is_new : (names : List ItemName) → ((a b : ℕ) → a < length names → slice_get names a ≡ slice_get names b → a ≡ b) → (i : ℕ) (n : ItemName) → slice_get names i ≡ Some n → is_among (take i names) n ≡ false
is_new names differ i n at = fresh names i n (λ j l e. let one : j ≡ i = differ j i (slice_get_within names j n e) (e ∙ sym at) in absurd (omega arith))

one_more : (names : List ItemName) (i : ℕ) (n q : ItemName) → slice_get names i ≡ Some n → is_among (take (i + 1) names) q ≡ (is_among (take i names) q || same_name q n)
one_more names i n q at =
    list_any_more (same_name q) names i n (slice_get_within names i n at) ∙ ap (λ (x : ItemName). is_among (take i names) q || same_name q x) (get_or_from_slice_get names i n n at)

set-taken : {X : Type 0} (xs : List X) (f p : ℕ) (x y : X) → f ≤ p → p < length xs → (p ≡ f → y ≡ x) → take (suc f) (slice_set (slice_set xs f x) p y) ≡ take f xs ++ x ∷ []
set-taken [] f p x y le l one = absurd (omega arith)
set-taken (e ∷ xs) zero zero x y le l one = ap (λ z. z ∷ []) (one refl)
set-taken (e ∷ xs) zero (suc p) x y le l one = refl
set-taken (e ∷ xs) (suc f) zero x y le l one = absurd (omega arith)
set-taken (e ∷ xs) (suc f) (suc p) x y le l one = ap (λ zs. e ∷ zs) (set-taken xs f p x y (omega arith) (omega arith) (λ q. one (ap suc q)))

-- what is swapped to a place stands behind what stood before it
swap-taken : {X : Type 0} (xs : List X) (f p : ℕ) (x : X) → f ≤ p → slice_get xs p ≡ Some x → take (f + 1) (swap xs f p) ≡ take f xs ++ x ∷ []
swap-taken [] f p x le at = cc
swap-taken (d ∷ xs) f p x le at =
    let here : get_or (d ∷ xs) p d ≡ x = get_or_from_slice_get (d ∷ xs) p x d at in
    let next : f + 1 ≡ suc f = omega arith in
    ap (λ n. take n (swap (d ∷ xs) f p)) next ∙ ap (λ z. take (suc f) (slice_set (slice_set (d ∷ xs) f z) p (get_or (d ∷ xs) f d))) here
    ∙ set-taken (d ∷ xs) f p x (get_or (d ∷ xs) f d) le (slice_get_within (d ∷ xs) p x at) (λ e. ap (λ j. get_or (d ∷ xs) j d) (sym e) ∙ here)

not_below : (f p : ℕ) → (p < f → ⊥) → f ≤ p
not_below zero p h = omega arith
not_below (suc f) zero h = absurd (h (omega arith))
not_below (suc f) (suc p) h = let rest : f ≤ p = not_below f p (λ l. h (omega arith)) in omega arith

module _ {V : Type 0} where
  -- the entries of a list under their names
  abbrev named : List (NameKey × V) → List (ItemName × V)
  named es = map (λ e. (name_of e.0, e.1)) es

  find-lookup : (es : List (NameKey × V)) (q : ItemName) → find name_cmp q (named es) ≡ lookup (λ k. same_name q (name_of k)) es
  find-lookup [] q = refl
  find-lookup (e ∷ es) q = ap (λ (o : Option V). cond (same_name q (name_of e.0)) (Some e.1) o) (find-lookup es q)

  pub get-as_map : (es : List (NameKey × V)) (q : ItemName) → get (as_map es) q ≡ lookup (λ k. same_name q (name_of k)) es
  get-as_map es q = get-from_entries name_cmp_total (named es) q ∙ find-lookup es q

  -- lists that answer each key alike are one map
  pub same-as_map : (es fs : List (NameKey × V)) → ((k : NameKey) → lookup (same_key k) fs ≡ lookup (same_key k) es) → as_map fs ≡ as_map es
  same-as_map es fs h = same (as_map fs) (as_map es) (λ q. get-as_map fs q ∙ h (Kept q) ∙ sym (get-as_map es q))

  -- a value that is put at the key of a name
  pub merged : (es fs : List (NameKey × V)) (key : NameKey) (name : ItemName) (value : V) → name_of key ≡ name
      → ((k : NameKey) → lookup (same_key k) fs ≡ cond (same_key key k) (Some value) (lookup (same_key k) es)) → as_map fs ≡ insert (as_map es) name value
  merged es fs key name value n h = same (as_map fs) (insert (as_map es) name value) (λ q. get-as_map fs q ∙ h (Kept q) ∙ turned q ∙ sym (get-with (as_map es) name value q))
    where
      turned : (q : ItemName) → cond (same_key key (Kept q)) (Some value) (lookup (same_key (Kept q)) es) ≡ cond (same_name q name) (Some value) (get (as_map es) q)
      turned q = λ i. cond (test q i) (Some value) (sym (get-as_map es q) i)
        where
          test : (q : ItemName) → same_key key (Kept q) ≡ same_name q name
          test q = ap (λ n. same_name n q) n ∙ (eq_by_cmp_equiv name_cmp_total).symm name q

  -- ---- where a value stands

  none : (o : Option V) → false ≡ is_some o → o ≡ None
  none (Some value) h = cc
  none None h = refl

  pub stands : (es : List (NameKey × V)) (name : ItemName) (r : Option ℕ) → r ≡ position (λ k. same_name name (name_of k)) (keys_of es)
      → is_some r ≡ is_some (lookup (λ k. same_name name (name_of k)) es) → IfSome r (λ i. i < length es)
      → IfSome r (λ i. slice_get (values_of es) i ≡ lookup (λ k. same_name name (name_of k)) es)
      → MatchOption r (get (as_map es) name ≡ None) (StandsAt name es)
  stands es name None p s w v = get-as_map es name ∙ none (lookup (λ k. same_name name (name_of k)) es) s
  stands es name (Some i) p s w v =
      let e = element es i w in
      let key : slice_get (keys_of es) i ≡ Some e.0.0 = slice_get-map (λ (e : NameKey × V). e.0) es i ∙ ap (option_map (λ (e : NameKey × V). e.0)) e.1 in
      let there : slice_get (values_of es) i ≡ Some e.0.1 = slice_get-map (λ (e : NameKey × V). e.1) es i ∙ ap (option_map (λ (e : NameKey × V). e.1)) e.1 in
      let first = position-Some (λ k. same_name name (name_of k)) (keys_of es) i e.0.0 (sym p) in
      let passes : same_name name (name_of e.0.0) ≡ true = ap (λ k. same_name name (name_of k)) (sym (get_or_from_slice_get (keys_of es) i e.0.0 e.0.0 key)) ∙ first.1 in
      record { key = e.0.0; value = e.0.1; there = e.1; named = sym (same_name-eq name (name_of e.0.0) passes); found = get-as_map es name ∙ sym v ∙ there }

  pub stands-within : (es : List (NameKey × V)) (name : ItemName) (place : ℕ) → StandsAt name es place → place < length es
  stands-within es name place s = slice_get_within es place (s.key, s.value) s.there

  -- ---- gathering

  pub gathers-none : (m : FinMap name_cmp V) → as_map [] ≡ of_names [] m
  gathers-none m = same (as_map []) (of_names [] m) (λ q. get-empty name_cmp q ∙ sym (get-of_names [] m q))

  -- a name without a value adds none
  pub passes_over : (names : List ItemName) (i : ℕ) (n : ItemName) (m : FinMap name_cmp V) → slice_get names i ≡ Some n → get m n ≡ None → of_names (take i names) m ≡ of_names (take (i + 1) names) m
  passes_over names i n m at h =
      same (of_names (take i names) m) (of_names (take (i + 1) names) m) (λ q. get-of_names (take i names) m q ∙ by q (same_name q n) (is_among (take i names) q) refl
      ∙ ap (λ b. cond b (get m q) None) (sym (one_more names i n q at)) ∙ sym (get-of_names (take (i + 1) names) m q))
    where
      by : (q : ItemName) (s a : Bool) → same_name q n ≡ s → cond a (get m q) None ≡ cond (a || s) (get m q) None
      by q s true e = refl
      by q true false e = sym (ap (get m) (same_name-eq q n e) ∙ h)
      by q false false e = refl

  -- a name with a value adds that
  adds : (names : List ItemName) (i : ℕ) (n : ItemName) (m : FinMap name_cmp V) (value : V) → slice_get names i ≡ Some n → get m n ≡ Some value → insert (of_names (take i names) m) n value ≡ of_names (take (i + 1) names) m
  adds names i n m value at h =
      same (insert (of_names (take i names) m) n value) (of_names (take (i + 1) names) m) (λ q. get-with (of_names (take i names) m) n value q
      ∙ ap (λ (o : Option V). cond (same_name q n) (Some value) o) (get-of_names (take i names) m q) ∙ by q (same_name q n) (is_among (take i names) q) refl
      ∙ ap (λ b. cond b (get m q) None) (sym (one_more names i n q at)) ∙ sym (get-of_names (take (i + 1) names) m q))
    where
      is : (q : ItemName) → same_name q n ≡ true → Some value ≡ get m q
      is q e = sym (ap (get m) (same_name-eq q n e) ∙ h)

      by : (q : ItemName) (s a : Bool) → same_name q n ≡ s → cond s (Some value) (cond a (get m q) None) ≡ cond (a || s) (get m q) None
      by q true true e = is q e
      by q true false e = is q e
      by q false true e = refl
      by q false false e = refl

  pushed : (es : List (NameKey × V)) (key : NameKey) (value : V) → get (as_map es) (name_of key) ≡ None → as_map (es ++ (key, value) ∷ []) ≡ insert (as_map es) (name_of key) value
  pushed es key value h =
      ap from_entries (map-append (λ (e : NameKey × V). (name_of e.0, e.1)) es ((key, value) ∷ []))
      ∙ from_entries_push name_cmp_total name_cmp-IsAntisymmetric (named es) (name_of key) value (sym (get-from_entries name_cmp_total (named es) (name_of key)) ∙ h)

  is-found : (test : NameKey → Bool) (es : List (NameKey × V)) (p f : ℕ) (e : NameKey × V) → p < f → slice_get es p ≡ Some e → test e.0 ≡ true → is_some (lookup test (take f es)) ≡ true
  is-found test [] p f e l at t = cc
  is-found test (d ∷ es) p zero e l at t = absurd (omega arith)
  is-found test (d ∷ es) zero (suc f) e l at t =
      let one : d ≡ e = cc in
      ap (λ b. is_some (cond b (Some d.1) (lookup test (take f es)))) (ap (λ (z : NameKey × V). test z.0) one ∙ t)
  is-found test (d ∷ es) (suc p) (suc f) e l at t = by (test d.0) (is-found test es p f e (omega arith) at t)
    where
      by : (b : Bool) → is_some (lookup test (take f es)) ≡ true → is_some (cond b (Some d.1) (lookup test (take f es))) ≡ true
      by true h = refl
      by false h = h

  module _ (es : List (NameKey × V)) (f : ℕ) (names : List ItemName) (i : ℕ) (n : ItemName) (m : FinMap name_cmp V)
      (gathered : as_map (take f es) ≡ of_names (take i names) m) (new : is_among (take i names) n ≡ false) where
    absent : get (as_map (take f es)) n ≡ None
    absent = ap (λ (k : FinMap name_cmp V). get k n) gathered ∙ get-of_names (take i names) m n ∙ ap (λ b. cond b (get m n) None) new

    -- the value of a name that is not gathered yet stands behind those that are
    behind : (p : ℕ) → StandsAt n es p → f ≤ p
    behind p s = not_below f p (λ l. let here : is_some (lookup (λ k. same_name n (name_of k)) (take f es)) ≡ true = is-found (λ k. same_name n (name_of k)) es p f (s.key, s.value) l s.there passes in
        let there : lookup (λ k. same_name n (name_of k)) (take f es) ≡ None = sym (get-as_map (take f es) n) ∙ absent in
        cc)
      where
        passes : same_name n (name_of s.key) ≡ true
        passes = ap (same_name n) s.named ∙ same_name-refl n

    pub fits : (p : ℕ) → StandsAt n es p → f < length es
    fits p s = let after = behind p s in let within = stands-within es n p s in omega arith

    -- and joins them where it is swapped with what stands behind them
    pub joins : (fs : List (NameKey × V)) (p : ℕ) → fs ≡ swap es f p → as_map es ≡ m → slice_get names i ≡ Some n → StandsAt n es p → as_map (take (f + 1) fs) ≡ of_names (take (i + 1) names) m
    joins fs p swapped are at s =
        let none : get (as_map (take f es)) (name_of s.key) ≡ None = ap (get (as_map (take f es))) s.named ∙ absent in
        let before : get m n ≡ Some s.value = ap (λ (k : FinMap name_cmp V). get k n) (sym are) ∙ s.found in
        let front : take (f + 1) fs ≡ take f es ++ (s.key, s.value) ∷ [] = ap (take (f + 1)) swapped ∙ swap-taken es f p (s.key, s.value) (behind p s) s.there in
        ap as_map front ∙ pushed (take f es) s.key s.value none ∙ (λ j. insert (gathered j) (s.named j) s.value) ∙ adds names i n m s.value at before
