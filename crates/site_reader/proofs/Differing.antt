-- Lists in which no two elements have the same name.
use Rattle.std.proofs.Common.{◌≡◌, ◌≢◌, ℕ, ◌+◌, ◌≤◌, Bool, true, false, cond, is_some, List, [], ◌∷◌, map, Some, Less, Equal, Greater, Ordering, arith, refl, sym, ap, subst, ◌∙◌}
use Rattle.std.specs.Cmp.{tied_itself}
use Rattle.std.specs.Cmp.Lexicographic.{nat_list_cmp_total}
use Rattle.std.specs.FinMap.{contains_key, entries, find, get-entries, nat_cmp-IsAntisymmetric, slice_cmp-IsAntisymmetric}
use Rattle.std.specs.List.{AllByRecursion, IsDistinct}
use Rattle.std.specs.Map.{keys_of}
use Rattle.std.specs.Ordering.{is_eq}
use Rattle.std.proofs.lemmas.List.Elements.{All-from_recursion}
use Rattle.std.proofs.lemmas.List.Kept.{AllPairs-cons}
use Rattle.site_base.specs.Places.{Files, path_cmp, same_path}
use Rattle.site_base.proofs.Entries.{keys_differ}
use Rattle.site_reader.specs.Lawful.{Differ}
use Rattle.site_reader.proofs.Weights.{weight}

abbrev pub one : Bool → ℕ
one true = 1
one false = 0

-- 1 where a name is this one
abbrev pub named : List ℕ → List ℕ → ℕ
named q name = one (same_path q name)

pub tied : (x y : List ℕ) → path_cmp x y ≡ Equal → x ≡ y
tied = slice_cmp-IsAntisymmetric nat_cmp-IsAntisymmetric

equal : (r : Ordering) → is_eq r ≡ true → r ≡ Equal
equal Less e = absurd (cc (e))
equal Equal e = refl
equal Greater e = absurd (cc (e))

pub same : (x y : List ℕ) → same_path x y ≡ true → x ≡ y
same x y e = tied x y (equal (path_cmp x y) e)

pub itself : (x y : List ℕ) → x ≡ y → same_path x y ≡ true
itself x y is = subst (λ z. same_path x z ≡ true) is (ap is_eq (tied_itself nat_list_cmp_total x))

other : (x y : List ℕ) → same_path x y ≡ false → x ≡ y → ⊥
other x y apart is = absurd (cc (itself x y is, apart))

none_first : (b : Bool) (n : ℕ) → one b + n ≡ 0 → b ≡ false
none_first true n e = absurd (omega (arith, e))
none_first false n e = refl

none_behind : (b : Bool) (n : ℕ) → b ≡ true → one b + n ≤ 1 → n ≡ 0
none_behind true n is le = omega (arith, le)
none_behind false n is le = absurd (cc (is))

met : (b : Bool) (n : ℕ) → b ≡ true → 1 ≤ one b + n
met true n is = omega arith
met false n is = absurd (cc (is))

-- no name stands twice in a list
abbrev pub Distinct : {B : Type 0} → List B → Type 0
Distinct [] = Unit {0}
Distinct (n ∷ ns) = AllByRecursion (λ m. n ≢ m) ns × Distinct ns

module _ {A B : Type 0} (name : A → B) where
  of_names : (P : B → Type 0) (xs : List A) → AllByRecursion P (map name xs) → AllByRecursion (λ x. P (name x)) xs
  of_names P [] all = tt
  of_names P (x ∷ xs) all = (all.0, of_names P xs all.1)

  pub distinct_differ : (xs : List A) → Distinct (map name xs) → Differ name xs
  distinct_differ [] apart = λ i j d l m. absurd (omega (arith, m))
  distinct_differ (x ∷ xs) apart =
      AllPairs-cons (λ y z. name y ≢ name z) x xs (All-from_recursion (λ y. name x ≢ name y) xs (of_names (λ n. name x ≢ n) xs apart.0)) (distinct_differ xs apart.1)

module _ {A : Type 0} (name : A → List ℕ) where
  none_named : (q : List ℕ) (xs : List A) → weight (λ x. named q (name x)) xs ≡ 0 → AllByRecursion (λ n. q ≢ n) (map name xs)
  none_named q [] none = tt
  none_named q (x ∷ xs) none = (other q (name x) (none_first (same_path q (name x)) _ none), none_named q xs (omega (arith, none)))

  -- where each name stands there once at most
  pub distinct : (xs : List A) → ((q : List ℕ) → weight (λ x. named q (name x)) xs ≤ 1) → Distinct (map name xs)
  distinct [] once = tt
  distinct (x ∷ xs) once =
      let alone : weight (λ y. named (name x) (name y)) xs ≡ 0 = none_behind (same_path (name x) (name x)) _ (itself (name x) (name x) refl) (once (name x)) in
      (none_named (name x) xs alone, distinct xs (λ q. omega (arith, once q)))

  pub differ : (xs : List A) → ((q : List ℕ) → weight (λ x. named q (name x)) xs ≤ 1) → Differ name xs
  differ xs once = distinct_differ name xs (distinct xs once)

  -- what holds of each name that stands there
  pub each_named : (P : List ℕ → Type 0) (xs : List A) → ((q : List ℕ) → 1 ≤ weight (λ x. named q (name x)) xs → P q) → AllByRecursion (λ x. P (name x)) xs
  each_named P [] holds = tt
  each_named P (x ∷ xs) holds =
      (holds (name x) (met (same_path (name x) (name x)) _ (itself (name x) (name x) refl)), each_named P xs (λ q le. holds q (omega (arith, le))))

module _ {V : Type 0} where
  none_alike : (q : List ℕ) (es : List (List ℕ × V)) → AllByRecursion (λ y. same_path q y ≡ false) (keys_of es) → weight (λ e. named q e.0) es ≡ 0
  none_alike q [] none = refl
  none_alike q (e ∷ es) none = omega (arith, ap one none.0, none_alike q es none.1)

  pub once_in : (es : List (List ℕ × V)) → IsDistinct same_path (keys_of es) → (q : List ℕ) → weight (λ e. named q e.0) es ≤ 1
  unfolding IsDistinct
  once_in [] apart q = omega arith
  once_in (e ∷ es) apart q = by (same_path q e.0) refl (once_in es apart.1 q)
    where
      by : (b : Bool) → same_path q e.0 ≡ b → weight (λ d. named q d.0) es ≤ 1 → one b + weight (λ d. named q d.0) es ≤ 1
      by true is rest = omega (arith, none_alike q es (subst (λ k. AllByRecursion (λ y. same_path k y ≡ false) (keys_of es)) (sym (same q e.0 is)) apart.0))
      by false is rest = omega (arith, rest)

  found_in : (q : List ℕ) (es : List (List ℕ × V)) → 1 ≤ weight (λ e. named q e.0) es → is_some (find path_cmp q es) ≡ true
  found_in q [] le = absurd (omega (arith, le))
  found_in q (e ∷ es) le = by (same_path q e.0) le (found_in q es)
    where
      by : (b : Bool) → 1 ≤ one b + weight (λ d. named q d.0) es → (1 ≤ weight (λ d. named q d.0) es → is_some (find path_cmp q es) ≡ true) → is_some (cond b (Some e.1) (find path_cmp q es)) ≡ true
      by true le rest = refl
      by false le rest = rest (omega (arith, le))

-- each path of files stands there once at most, and is held
pub file_once : (files : Files) (q : List ℕ) → weight (λ e. named q e.0) (entries files) ≤ 1
file_once files q = once_in (entries files) (keys_differ files) q

pub file_held : (files : Files) (q : List ℕ) → 1 ≤ weight (λ e. named q e.0) (entries files) → contains_key files q ≡ true
file_held files q le = ap is_some (get-entries files q) ∙ found_in q (entries files) le
