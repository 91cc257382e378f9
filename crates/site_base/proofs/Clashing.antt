-- Where the paths below a folder stand among paths that rise, and how a clash is found.
use Rattle.std.proofs.Common.{◌≡◌, ℕ, zero, suc, ◌+◌, ◌<◌, ◌≤◌, Bool, true, false, cond, List, [], ◌∷◌, ◌++◌, length, take, drop, get_or, refl, sym, ◌∙◌, ap, arith, Some, None}
use Rattle.std.specs.Prelude.{◌&&◌, ◌||◌, nat_eq, ◌==◌}
use Rattle.std.specs.declared.cmp.Ordering.{Ordering}
use Rattle.std.specs.declared.cmp.Ordering.TheVariants.{Less, Equal, Greater}
use Rattle.std.specs.Ordering.{is_gt, is_eq, nat_cmp, ordering_then}
use Rattle.std.specs.Cmp.{IsTotalOrder, tied_itself, nat_cmp_is, ranked}
use Rattle.std.proofs.Common.{inl, inr}
use Rattle.std.proofs.lemmas.List.{take_all, length-drop, drop_all}
use Rattle.std.proofs.Common.{◌-◌}
use Rattle.std.proofs.lemmas.Bool.{cases_lt, lt-ltb, le-ltb}
use Rattle.std.proofs.lemmas.Bool.Decides.{nat_tests}
use Rattle.std.specs.FinMap.{nat_cmp-IsAntisymmetric}
use Rattle.site_base.proofs.Sorting.{less, any_default, same_key}
use Rattle.site_base.proofs.Entries.{get_mapped, entries_mapped, found, missing, same_text, other_text}
use Rattle.std.specs.Str.{bytes_eq}
use Rattle.std.specs.Option.{is_some}
use Rattle.std.specs.FinMap.{FinMap, from_sorted, contains_key, contains_key-keys, keys}
use Rattle.std.proofs.Common.{drop-cons}
use Rattle.std.specs.Cmp.Lexicographic.{nat_list_cmp_total, pointwise}
use Rattle.std.specs.List.{list_any, starts_with, find}
use Rattle.std.specs.FinMap.Entries.{below_all}
use Rattle.site_base.specs.Places.{path_cmp, paths_of, count_below, PathsRise, is_listed, same_path}
use Rattle.site_base.specs.Clash.{HasNoClash, is_below, has_below, has_folder, begins_before_slash}

o : IsTotalOrder path_cmp
o = nat_list_cmp_total

front_of : (a b : Bool) → (a && b) ≡ true → a ≡ true
front_of true b p = refl
front_of false b p = p

back_of : (a b : Bool) → (a && b) ≡ true → b ≡ true
back_of true b p = p
back_of false b p = absurd (cc (p))

rest_whole : (xs : List ℕ) (n : ℕ) → take (length xs - n) (drop n xs) ≡ drop n xs
rest_whole xs n = take_all (length xs - n) (drop n xs) (omega (arith, length-drop n xs))

-- what the code tests of a path that may lie below a folder
pub below_after : (path folder : List ℕ) → starts_with nat_eq path folder ≡ true → is_below path folder ≡ is_below (drop (length folder) path) []
below_after [] [] s = refl
below_after (b ∷ bs) [] s = refl
below_after [] (c ∷ cs) s = absurd (cc (s))
below_after (b ∷ bs) (c ∷ cs) s = ap (λ t. t && is_below bs cs) (front_of _ _ s) ∙ below_after bs cs (back_of _ _ s)

pub not_below : (path folder : List ℕ) → starts_with nat_eq path folder ≡ false → is_below path folder ≡ false
not_below [] [] s = refl
not_below (b ∷ bs) [] s = absurd (cc (s))
not_below [] (c ∷ cs) s = refl
not_below (b ∷ bs) (c ∷ cs) s =
    elim (c == b) as (λ t. (t && pointwise nat_eq cs (take (length cs) bs)) ≡ false → (t && is_below bs cs) ≡ false) [
      | true ↦ λ p. not_below bs cs p
      | false ↦ λ p. refl
    ] s

-- the same as the code's slices give them
pub below_sliced : (path folder as_path as_folder : List ℕ) (t : Bool) → as_path ≡ path → as_folder ≡ folder → starts_with nat_eq as_path as_folder ≡ true
    → t ≡ is_below (take (length as_path - length as_folder) (drop (length as_folder) as_path)) [] → t ≡ is_below path folder
below_sliced path folder as_path as_folder t p q starts is =
    is ∙ ap (λ (x : List ℕ). is_below x []) (rest_whole as_path (length as_folder)) ∙ sym (below_after as_path as_folder starts)
    ∙ ap (λ (x : List ℕ). is_below x as_folder) p ∙ ap (λ (x : List ℕ). is_below path x) q

pub not_below_sliced : (path folder as_path as_folder : List ℕ) (t : Bool) → as_path ≡ path → as_folder ≡ folder → starts_with nat_eq as_path as_folder ≡ false → t ≡ false → t ≡ is_below path folder
not_below_sliced path folder as_path as_folder t p q starts is =
    is ∙ sym (not_below as_path as_folder starts) ∙ ap (λ (x : List ℕ). is_below x as_folder) p ∙ ap (λ (x : List ℕ). is_below path x) q

same_number : (x y : ℕ) → (x == y) ≡ true → nat_cmp x y ≡ Equal
same_number x y t = sym (nat_cmp_is x y Equal (grind (arith, nat_tests)))

slash_before : (rest : List ℕ) → is_gt (path_cmp (47 ∷ []) rest) ≡ begins_before_slash rest
slash_before [] = refl
slash_before (b ∷ bs) =
    elim (cases_lt b 47) [
      | inl low ↦
          ap (λ r. is_gt (ordering_then r (path_cmp [] bs))) (sym (nat_cmp_is 47 b Greater low)) ∙ sym (lt-ltb b 47 low)
      | inr high ↦ elim (cases_lt 47 b) [
        | inl above ↦
            ap (λ r. is_gt (ordering_then r (path_cmp [] bs))) (sym (nat_cmp_is 47 b Less above)) ∙ sym (le-ltb b 47 high)
        | inr below ↦
            ap (λ r. is_gt (ordering_then r (path_cmp [] bs))) (sym (nat_cmp_is 47 b Equal (omega arith))) ∙ none_above bs ∙ sym (le-ltb b 47 high)
      ]
    ]
  where
    none_above : (bs : List ℕ) → is_gt (path_cmp [] bs) ≡ false
    none_above [] = refl
    none_above (b ∷ bs) = refl

pub before_inside : (path folder : List ℕ) → starts_with nat_eq path folder ≡ true → is_gt (path_cmp (folder ++ 47 ∷ []) path) ≡ begins_before_slash (drop (length folder) path)
before_inside path [] s = slash_before path
before_inside [] (c ∷ cs) s = absurd (cc (s))
before_inside (b ∷ bs) (c ∷ cs) s = ap (λ r. is_gt (ordering_then r (path_cmp (cs ++ 47 ∷ []) bs))) (same_number c b (front_of _ _ s)) ∙ before_inside bs cs (back_of _ _ s)

pub before_outside : (path folder : List ℕ) → starts_with nat_eq path folder ≡ false → is_gt (path_cmp (folder ++ 47 ∷ []) path) ≡ is_gt (path_cmp folder path)
before_outside path [] s = absurd (cc (s))
before_outside [] (c ∷ cs) s = refl
before_outside (b ∷ bs) (c ∷ cs) s =
    elim (nat_cmp c b) as (λ r. nat_cmp c b ≡ r → is_gt (ordering_then r (path_cmp (cs ++ 47 ∷ []) bs)) ≡ is_gt (ordering_then r (path_cmp cs bs))) [
      | Less ↦ λ p. refl
      | Equal ↦ λ p. before_outside bs cs (unequal c b p s)
      | Greater ↦ λ p. refl
    ] refl
  where
    unequal : (c b : ℕ) → nat_cmp c b ≡ Equal → ((c == b) && pointwise nat_eq cs (take (length cs) bs)) ≡ false → pointwise nat_eq cs (take (length cs) bs) ≡ false
    unequal c b p s =
        let same : (c == b) ≡ true = let e : c ≡ b = nat_cmp-IsAntisymmetric c b p in grind (arith, nat_tests) in
        ap (λ t. t && pointwise nat_eq cs (take (length cs) bs)) (sym same) ∙ s

pub before_sliced : (path folder as_path : List ℕ) (t : Bool) → as_path ≡ path → starts_with nat_eq as_path folder ≡ true
    → t ≡ begins_before_slash (take (length as_path - length folder) (drop (length folder) as_path)) → t ≡ is_gt (path_cmp (folder ++ 47 ∷ []) path)
before_sliced path folder as_path t p starts is =
    is ∙ ap begins_before_slash (rest_whole as_path (length folder)) ∙ sym (before_inside as_path folder starts) ∙ ap (λ (x : List ℕ). is_gt (path_cmp (folder ++ 47 ∷ []) x)) p

pub outside_compared : (path folder as_path : List ℕ) (t : Bool) (r : Ordering) → as_path ≡ path → starts_with nat_eq as_path folder ≡ false → t ≡ is_gt r → r ≡ path_cmp folder as_path → t ≡ is_gt (path_cmp (folder ++ 47 ∷ []) path)
outside_compared path folder as_path t r p starts is cmp =
    is ∙ ap is_gt cmp ∙ sym (before_outside as_path folder starts) ∙ ap (λ (x : List ℕ). is_gt (path_cmp (folder ++ 47 ∷ []) x)) p

-- what begins with the folder and `/` is not below it in order
not_above : (path folder : List ℕ) → is_below path folder ≡ true → is_gt (path_cmp (folder ++ 47 ∷ []) path) ≡ false
not_above [] folder t = absurd (cc (t))
not_above (b ∷ bs) [] t = ap (λ r. is_gt (ordering_then r (path_cmp [] bs))) (sym (nat_cmp_is 47 b Equal (grind (arith, nat_tests)))) ∙ none bs
  where
    none : (bs : List ℕ) → is_gt (path_cmp [] bs) ≡ false
    none [] = refl
    none (b ∷ bs) = refl
not_above (b ∷ bs) (c ∷ cs) t = ap (λ r. is_gt (ordering_then r (path_cmp (cs ++ 47 ∷ []) bs))) (same_number c b (front_of _ _ t)) ∙ not_above bs cs (back_of _ _ t)

eq_from_test : (x y : ℕ) → (x == y) ≡ true → x ≡ y
eq_from_test x y t = grind (arith, nat_tests)

test_from_eq : (x y : ℕ) → x ≡ y → (x == y) ≡ true
test_from_eq x y e = grind (arith, nat_tests)

both : (a b : Bool) → a ≡ true → b ≡ true → (a && b) ≡ true
both true b p q = q
both false b p q = p

not_gt : (x y : ℕ) (r : Ordering) → is_gt (ordering_then (nat_cmp x y) r) ≡ false → x ≤ y
not_gt x y r h =
    elim (nat_cmp x y) as (λ q. nat_cmp x y ≡ q → is_gt (ordering_then q r) ≡ false → x ≤ y) [
      | Less ↦ λ p t. let lt : x < y = ranked x y Less (sym p) in omega arith
      | Equal ↦ λ p t. let eq : x ≡ y = ranked x y Equal (sym p) in omega arith
      | Greater ↦ λ p t. absurd (cc (t))
    ] refl h

not_lt : (x y : ℕ) (r : Ordering) → ordering_then (nat_cmp x y) r ≡ Less → x ≤ y
not_lt x y r h =
    elim (nat_cmp x y) as (λ q. nat_cmp x y ≡ q → ordering_then q r ≡ Less → x ≤ y) [
      | Less ↦ λ p t. let lt : x < y = ranked x y Less (sym p) in omega arith
      | Equal ↦ λ p t. let eq : x ≡ y = ranked x y Equal (sym p) in omega arith
      | Greater ↦ λ p t. absurd (cc (t))
    ] refl h

-- what stands between the folder's `/` and a path that begins with it begins with it too
between : (folder x y : List ℕ) → is_gt (path_cmp (folder ++ 47 ∷ []) x) ≡ false → path_cmp x y ≡ Less → is_below y folder ≡ true → is_below x folder ≡ true
between folder x [] low less t = absurd (cc (t))
between [] [] (b ∷ bs) low less t = absurd (cc (low))
between [] (a ∷ xs) (b ∷ bs) low less t =
    let at_slash : b ≡ 47 = grind (arith, nat_tests) in
    let least : 47 ≤ a = not_gt 47 a (path_cmp [] xs) low in
    let most : a ≤ b = not_lt a b (path_cmp xs bs) less in
    let here : a ≡ 47 = omega arith in
    grind (arith, nat_tests)
between (c ∷ cs) [] (b ∷ bs) low less t = absurd (cc (low))
between (c ∷ cs) (a ∷ xs) (b ∷ bs) low less t =
    let at_b : c ≡ b = eq_from_test c b (front_of _ _ t) in
    let least : c ≤ a = not_gt c a (path_cmp (cs ++ 47 ∷ []) xs) low in
    let most : a ≤ b = not_lt a b (path_cmp xs bs) less in
    let first : c ≡ a = omega arith in
    let rest : is_below xs cs ≡ true =
    between cs xs bs (ap (λ r. is_gt (ordering_then r (path_cmp (cs ++ 47 ∷ []) xs))) (nat_cmp_is c a Equal first) ∙ low)
    (ap (λ r. ordering_then r (path_cmp xs bs)) (nat_cmp_is a b Equal (omega arith)) ∙ less) (back_of _ _ t) in
    both _ _ (test_from_eq c a first) rest

module _ {V : Type 0} where
  none_below : (folder x : List ℕ) (es : List (List ℕ × V)) → is_gt (path_cmp (folder ++ 47 ∷ []) x) ≡ false → is_below x folder ≡ false → below_all path_cmp x es ≡ true → has_below folder (paths_of es) ≡ false
  none_below folder x [] low out above = refl
  none_below folder x (e ∷ es) low out above =
      elim (is_below e.0 folder) as (λ t. is_below e.0 folder ≡ t → (t || has_below folder (paths_of es)) ≡ false) [
        | true ↦ λ p. absurd (cc (out, between folder x e.0 low (less _ (front_of _ _ above)) p))
        | false ↦ λ p. none_below folder x es low out (back_of _ _ above)
      ] refl

  skipped : (folder : List ℕ) (e : List ℕ × V) (es : List (List ℕ × V)) → is_gt (path_cmp (folder ++ 47 ∷ []) e.0) ≡ true → has_below folder (paths_of (e ∷ es)) ≡ has_below folder (paths_of es)
  skipped folder e es before =
      elim (is_below e.0 folder) as (λ t. is_below e.0 folder ≡ t → (t || has_below folder (paths_of es)) ≡ has_below folder (paths_of es)) [
        | true ↦ λ p. absurd (cc (before, not_above e.0 folder p))
        | false ↦ λ p. refl
      ] refl

  first_tells : (folder : List ℕ) (e : List ℕ × V) (es : List (List ℕ × V)) → is_gt (path_cmp (folder ++ 47 ∷ []) e.0) ≡ false → below_all path_cmp e.0 es ≡ true → has_below folder (paths_of (e ∷ es)) ≡ is_below e.0 folder
  first_tells folder e es low above =
      elim (is_below e.0 folder) as (λ t. is_below e.0 folder ≡ t → (t || has_below folder (paths_of es)) ≡ t) [
        | true ↦ λ p. refl
        | false ↦ λ p. none_below folder e.0 es low p above
      ] refl

  -- the first entry that is not before the inside of the folder tells whether any lies below it
  pub inside_first : (folder : List ℕ) (es : List (List ℕ × V)) (d : List ℕ × V) → PathsRise es → count_below (folder ++ 47 ∷ []) es < length es →
      has_below folder (paths_of es) ≡ is_below (get_or es (count_below (folder ++ 47 ∷ []) es) d).0 folder
  inside_first folder [] d rises lt = absurd (omega arith)
  inside_first folder (e ∷ es) d rises lt =
      elim (is_gt (path_cmp (folder ++ 47 ∷ []) e.0)) as (λ b. is_gt (path_cmp (folder ++ 47 ∷ []) e.0) ≡ b → cond b (suc (count_below (folder ++ 47 ∷ []) es)) 0 < suc (length es)
      → has_below folder (paths_of (e ∷ es)) ≡ is_below (get_or (e ∷ es) (cond b (suc (count_below (folder ++ 47 ∷ []) es)) 0) d).0 folder) [
        | true ↦ λ p l. skipped folder e es p ∙ inside_first folder es d (back_of _ _ rises) (omega arith)
        | false ↦ λ p l. first_tells folder e es p (front_of _ _ rises)
      ] refl lt

  pub inside_none : (folder : List ℕ) (es : List (List ℕ × V)) → PathsRise es → length es ≤ count_below (folder ++ 47 ∷ []) es → has_below folder (paths_of es) ≡ false
  inside_none folder [] rises le = refl
  inside_none folder (e ∷ es) rises le =
      elim (is_gt (path_cmp (folder ++ 47 ∷ []) e.0)) as (λ b. is_gt (path_cmp (folder ++ 47 ∷ []) e.0) ≡ b → suc (length es) ≤ cond b (suc (count_below (folder ++ 47 ∷ []) es)) 0
      → has_below folder (paths_of (e ∷ es)) ≡ false) [
        | true ↦ λ p l. skipped folder e es p ∙ inside_none folder es (back_of _ _ rises) (omega arith)
        | false ↦ λ p l. absurd (omega arith)
      ] refl le

  -- what a look-up of bytes tells
  pub holds_test : (k : List ℕ) (es : List (List ℕ × V)) (i : ℕ) (d : List ℕ × V) (t : Bool) → PathsRise es → i ≡ count_below k es → i < length es → t ≡ bytes_eq (get_or es i d).0 k → t ≡ contains_key (from_sorted {R = path_cmp} es) k
  holds_test k es i d t rises at lt test =
      test ∙ elim (bytes_eq (get_or es i d).0 k) as (λ b. bytes_eq (get_or es i d).0 k ≡ b → b ≡ contains_key (from_sorted {R = path_cmp} es) k) [
        | true ↦ λ p. sym (ap is_some (get_mapped es k rises ∙ found k es d (omega arith) (ap (λ (j : ℕ). (get_or es j d).0) (sym at) ∙ same_text _ _ p)))
        | false ↦ λ p. sym (ap is_some (get_mapped es k rises ∙ missing k es rises (λ e l is. other_text _ _ p (ap (λ (x : List ℕ × V). x.0) (any_default es i d e lt) ∙ ap (λ (j : ℕ). (get_or es j e).0) at ∙ is))))
      ] refl

  pub holds_none : (k : List ℕ) (es : List (List ℕ × V)) → PathsRise es → length es ≤ count_below k es → false ≡ contains_key (from_sorted {R = path_cmp} es) k
  holds_none k es rises le = sym (ap is_some (get_mapped es k rises ∙ missing k es rises (λ e l is. omega arith)))

  -- the keys of the map are the paths of its entries
  pub keys_mapped : (es : List (List ℕ × V)) → PathsRise es → keys (from_sorted {R = path_cmp} es) ≡ paths_of es
  keys_mapped es rises = ap (λ (l : List (List ℕ × V)). paths_of l) (entries_mapped es rises)

  pub has_below_test : (folder : List ℕ) (es : List (List ℕ × V)) (i : ℕ) (d : List ℕ × V) (t : Bool) → PathsRise es → i ≡ count_below (folder ++ 47 ∷ []) es → i < length es → t ≡ is_below (get_or es i d).0 folder → t ≡ has_below folder (keys (from_sorted {R = path_cmp} es))
  has_below_test folder es i d t rises at lt test =
      test ∙ ap (λ (j : ℕ). is_below (get_or es j d).0 folder) at ∙ sym (inside_first folder es d rises (omega arith)) ∙ ap (has_below folder) (sym (keys_mapped es rises))

  pub has_below_none : (folder : List ℕ) (es : List (List ℕ × V)) → PathsRise es → length es ≤ count_below (folder ++ 47 ∷ []) es → false ≡ has_below folder (keys (from_sorted {R = path_cmp} es))
  has_below_none folder es rises le = sym (inside_none folder es rises le) ∙ ap (has_below folder) (sym (keys_mapped es rises))

-- a path at which a test holds, and a test that holds of no path
any_true : (p : List ℕ → Bool) (q : List ℕ) (ks : List (List ℕ)) → list_any (same_path q) ks ≡ true → p q ≡ true → list_any p ks ≡ true
any_true p q [] there holds = absurd (cc (there))
any_true p q (k ∷ ks) there holds =
    elim (same_path q k) as (λ b. same_path q k ≡ b → (b || list_any (same_path q) ks) ≡ true → (p k || list_any p ks) ≡ true) [
      | true ↦ λ t h. ap (λ (x : List ℕ). p x || list_any p ks) (sym (same_key q k t)) ∙ ap (λ b. b || list_any p ks) holds
      | false ↦ λ t h. or_right (p k) _ (any_true p q ks h holds)
    ] refl there
  where
    or_right : (a b : Bool) → b ≡ true → (a || b) ≡ true
    or_right true b h = refl
    or_right false b h = h

any_false : (p : List ℕ → Bool) (ks : List (List ℕ)) → ((q : List ℕ) → list_any (same_path q) ks ≡ true → p q ≡ false) → list_any p ks ≡ false
any_false p [] none = refl
any_false p (k ∷ ks) none =
    ap (λ b. b || list_any p ks) (none k (ap (λ b. b || list_any (same_path k) ks) (itself_same k)))
    ∙ any_false p ks (λ q there. none q (or_right (same_path q k) _ there))
  where
    itself_same : (k : List ℕ) → same_path k k ≡ true
    itself_same k = ap is_eq (tied_itself o k)

    or_right : (a b : Bool) → b ≡ true → (a || b) ≡ true
    or_right true b h = refl
    or_right false b h = h

pub any_where : (p : List ℕ → Bool) (ks : List (List ℕ)) → list_any p ks ≡ false → (q : List ℕ) → list_any (same_path q) ks ≡ true → p q ≡ false
any_where p ks none q there =
    elim (p q) as (λ b. p q ≡ b → b ≡ false) [
      | true ↦ λ h. absurd (cc (none, any_true p q ks there h))
      | false ↦ λ h. refl
    ] refl

-- a folder of a path is its front up to a `/`
pub folder_at : (path folder : List ℕ) → is_below path folder ≡ true → (length folder < length path) × (get_or path (length folder) 0 ≡ 47) × (take (length folder) path ≡ folder)
folder_at [] folder t = absurd (cc (t))
folder_at (b ∷ bs) [] t = (omega arith, eq_from_test b 47 t, refl)
folder_at (b ∷ bs) (c ∷ cs) t =
    let rest = folder_at bs cs (back_of _ _ t) in
    let lt : length cs < length bs = rest.0 in
    (omega arith, rest.1, ap (λ (x : ℕ). x ∷ take (length cs) bs) (sym (eq_from_test c b (front_of _ _ t))) ∙ ap (λ (l : List ℕ). c ∷ l) rest.2)

pub folder_of_front : (path : List ℕ) (k : ℕ) → k < length path → get_or path k 0 ≡ 47 → is_below path (take k path) ≡ true
folder_of_front [] k lt at = absurd (omega arith)
folder_of_front (b ∷ bs) zero lt at = test_from_eq b 47 at
folder_of_front (b ∷ bs) (suc k) lt at = both _ _ (test_from_eq b b refl) (folder_of_front bs k (omega arith) at)

-- no front of a path up to a `/`, of those before a place, is a path of the map
abbrev pub NoFolderBefore : List ℕ → List (List ℕ) → ℕ → Type 0
NoFolderBefore path ks n = (k : ℕ) → k < n → get_or path k 0 ≡ 47 → is_listed (take k path) ks ≡ false

pub no_folder : (path : List ℕ) (ks : List (List ℕ)) → NoFolderBefore path ks (length path) → has_folder path ks ≡ false
no_folder path ks none = any_false (λ folder. is_below path folder) ks (λ q there.
    elim (is_below path q) as (λ b. is_below path q ≡ b → b ≡ false) [
      | true ↦ λ t.
          let at = folder_at path q t in
          absurd (cc (none (length q) at.0 at.1, ap (λ (x : List ℕ). is_listed x ks) at.2, there))
      | false ↦ λ t. refl
    ] refl)

pub some_folder : (path : List ℕ) (ks : List (List ℕ)) (k : ℕ) → k < length path → get_or path k 0 ≡ 47 → is_listed (take k path) ks ≡ true → has_folder path ks ≡ true
some_folder path ks k lt at there = any_true (λ folder. is_below path folder) (take k path) ks there (folder_of_front path k lt at)

pub one_more : (path : List ℕ) (ks : List (List ℕ)) (n : ℕ) → NoFolderBefore path ks n → (get_or path n 0 ≡ 47 → is_listed (take n path) ks ≡ false) → NoFolderBefore path ks (n + 1)
one_more path ks n before here k lt at =
    elim (cases_lt k n) [
      | inl below ↦ before k below at
      | inr above ↦
          let last : k ≡ n = omega arith in
          ap (λ (m : ℕ). is_listed (take m path) ks) last ∙ here (ap (λ (m : ℕ). get_or path m 0) (sym last) ∙ at)
    ]

-- what is left of a search for the first path that passes a test
module _ {V : Type 0} (p : List ℕ → Bool) where
  abbrev pub Searched : List (List ℕ × V) → ℕ → Type 0
  Searched es i = find p (paths_of es) ≡ find p (paths_of (drop i es))

  pub search_found : (es : List (List ℕ × V)) (i : ℕ) (d : List ℕ × V) → i < length es → p (get_or es i d).0 ≡ true → Searched es i → Some (get_or es i d).0 ≡ find p (paths_of es)
  search_found es i d lt passes so_far =
      sym (so_far ∙ ap (λ (l : List (List ℕ × V)). find p (paths_of l)) (drop-cons es i d lt) ∙ ap (λ b. cond b (Some (get_or es i d).0) (find p (paths_of (drop (suc i) es)))) passes)

  pub search_more : (es : List (List ℕ × V)) (i : ℕ) (d : List ℕ × V) → i < length es → p (get_or es i d).0 ≡ false → Searched es i → Searched es (i + 1)
  search_more es i d lt fails so_far =
      let next : suc i ≡ i + 1 = omega arith in
      so_far ∙ ap (λ (l : List (List ℕ × V)). find p (paths_of l)) (drop-cons es i d lt) ∙ ap (λ b. cond b (Some (get_or es i d).0) (find p (paths_of (drop (suc i) es)))) fails
      ∙ ap (λ (m : ℕ). find p (paths_of (drop m es))) next

  pub search_none : (es : List (List ℕ × V)) (i : ℕ) → length es ≤ i → Searched es i → None ≡ find p (paths_of es)
  search_none es i le so_far = sym (so_far ∙ ap (λ (l : List (List ℕ × V)). find p (paths_of l)) (drop_all i es le))

none_found : (p : List ℕ → Bool) (ks : List (List ℕ)) → None ≡ find p ks → (q : List ℕ) → is_listed q ks ≡ true → p q ≡ false
none_found p [] none q there = absurd (cc (there))
none_found p (k ∷ ks) none q there =
    elim (p k) as (λ b. p k ≡ b → None ≡ cond b (Some k) (find p ks) → p q ≡ false) [
      | true ↦ λ h n. absurd (cc (n))
      | false ↦ λ h n. elim (same_path q k) as (λ b. same_path q k ≡ b → (b || list_any (same_path q) ks) ≡ true → p q ≡ false) [
        | true ↦ λ t m. ap p (same_key q k t) ∙ h
        | false ↦ λ t m. none_found p ks n q m
      ] refl there
    ] refl none

pub clash_free_from_search : {V : Type 0} (m : FinMap path_cmp V) → None ≡ find (λ folder. has_below folder (keys m)) (keys m) → HasNoClash m
clash_free_from_search m none path folder has_path has_the_folder =
    any_where (λ q. is_below q folder) (keys m)
    (none_found (λ f. has_below f (keys m)) (keys m) none folder (sym (contains_key-keys m folder) ∙ has_the_folder)) path (sym (contains_key-keys m path) ∙ has_path)
