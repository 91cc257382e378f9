-- What lists weigh, by a number for each element.
use Rattle.std.proofs.Common.{subst, ◌≡◌, ℕ, ◌+◌, ◌≤◌, List, [], ◌∷◌, ◌++◌, length, map, Ok, Err, Less, Equal, Greater, Ordering, arith, refl, ap}
use Rattle.std.specs.Prelude.{Result}
use Rattle.std.specs.BTreeMap.{insert_entry}
use Rattle.std.specs.Ordering.{match_ordering}
use Rattle.std.specs.Result.{result_unwrap_or}
use Rattle.site_base.specs.Chains.{◌>>=◌}
use Rattle.site_items.specs.Outcomes.{Outcome}
use Rattle.site_reader.specs.Found.{Found, each, in_file}

abbrev pub weight : {A : Type 0} → (A → ℕ) → List A → ℕ
weight w [] = 0
weight w (x ∷ xs) = w x + weight w xs

-- where each weighs 1
pub weight_length : {A : Type 0} (xs : List A) → weight (λ x. 1) xs ≡ length xs
weight_length [] = refl
weight_length (x ∷ xs) = omega (arith, weight_length xs)

pub weight-append : {A : Type 0} (w : A → ℕ) (xs ys : List A) → weight w (xs ++ ys) ≡ weight w xs + weight w ys
weight-append w [] ys = omega arith
weight-append w (x ∷ xs) ys = omega (arith, weight-append w xs ys)

pub weight-map : {A B : Type 0} (w : B → ℕ) (f : A → B) (xs : List A) → weight w (map f xs) ≡ weight (λ x. w (f x)) xs
weight-map w f [] = refl
weight-map w f (x ∷ xs) = ap (λ n. w (f x) + n) (weight-map w f xs)

pub weight_le : {A : Type 0} (v w : A → ℕ) (xs : List A) → ((x : A) → v x ≤ w x) → weight v xs ≤ weight w xs
weight_le v w [] less = omega arith
weight_le v w (x ∷ xs) less = omega (arith, less x, weight_le v w xs less)

-- an entry that is put among others adds no more than it weighs
module _ {K V : Type 0} (cmp : K → K → Ordering) (w : K → ℕ) (k : K) (v : V) where
  pub weight-insert_entry : (es : List (K × V)) → weight (λ e. w e.0) (insert_entry cmp es k v) ≤ weight (λ e. w e.0) es + w k
  weight-insert_entry [] = omega arith
  weight-insert_entry (e ∷ es) = by (cmp k e.0) (weight-insert_entry es)
    where
      by : (r : Ordering) → weight (λ d. w d.0) (insert_entry cmp es k v) ≤ weight (λ d. w d.0) es + w k
          → weight (λ d. w d.0) (match_ordering r ((k, v) ∷ e ∷ es) ((e.0, v) ∷ es) (e ∷ insert_entry cmp es k v)) ≤ w e.0 + weight (λ d. w d.0) es + w k
      by Less rest = omega arith
      by Equal rest = omega arith
      by Greater rest = omega (arith, rest)

-- ---- what is found

pub found_value : {A E : Type 0} (x y : A) → ◌≡◌ {A = Result A E} (Ok x) (Ok y) → x ≡ y
found_value {A} {E} x y e = ap (λ (r : Result A E). result_unwrap_or r x) e

-- what is found at last was found of something found before
pub found_before : {A B E : Type 0} (found : Result A E) (then : A → Result B E) (last : B) → found >>= then ≡ Ok last → (x : A) × (found ≡ Ok x) × (then x ≡ Ok last)
found_before (Ok x) then last e = (x, refl, e)
found_before (Err fault) then last e = absurd (cc (e))

pub file_found : {A : Type 0} (path : List ℕ) (found : Outcome A) (x : A) → in_file path found ≡ Ok x → found ≡ Ok x
file_found path (Ok y) x e = ap Ok (found_value y x e)
file_found path (Err fault) x e = absurd (cc (e))

-- where a file adds no more than it weighs, all of them do not
module _ {F S : Type 0} (step : F → S → Found S) (size : S → ℕ) (w : F → ℕ) where
  pub each_adds : ((f : F) (made more : S) → step f made ≡ Ok more → size more ≤ size made + w f) → (fs : List F) (made all : S) → each step fs made ≡ Ok all → size all ≤ size made + weight w fs
  unfolding each
  each_adds adds [] made all e = omega (arith, ap size (found_value made all e))
  each_adds adds (f ∷ fs) made all e =
      let first = found_before (step f made) (each step fs) all e in
      omega (arith, adds f made first.0 first.1, each_adds adds fs first.0 all first.2)

-- what each file keeps, all of them keep
module _ {F S : Type 0} (step : F → S → Found S) (P : S → Type 0) where
  pub each_keeps : ((f : F) (made more : S) → step f made ≡ Ok more → P made → P more) → (fs : List F) (made all : S) → each step fs made ≡ Ok all → P made → P all
  unfolding each
  each_keeps keeps [] made all e holds = subst P (found_value made all e) holds
  each_keeps keeps (f ∷ fs) made all e holds =
      let first = found_before (step f made) (each step fs) all e in
      each_keeps keeps fs first.0 all first.2 (keeps f made first.0 first.1 holds)

-- what each file is first, and then made of
module _ {E F S : Type 0} (to : E → F) (step : F → S → Found S) where
  pub each_mapped : (es : List E) (made : S) → each step (map to es) made ≡ each (λ e. step (to e)) es made
  unfolding each
  each_mapped [] made = refl
  each_mapped (e ∷ es) made = by (step (to e) made) (each_mapped es)
    where
      by : (found : Found S) → ((more : S) → each step (map to es) more ≡ each (λ d. step (to d)) es more) → found >>= each step (map to es) ≡ found >>= each (λ d. step (to d)) es
      by (Ok more) rest = rest more
      by (Err fault) rest = refl
