-- How often an item stands in lists that are made of others.
use Rattle.std.proofs.Common.{subst, ◌≡◌, ◌≢◌, ◌⊎◌, ℕ, zero, suc, ◌+◌, ◌<◌, ◌≤◌, List, [], ◌∷◌, ◌++◌, Bool, true, false, refl, sym, ap, arith, inl, inr, eqb, eq-eqb, ne_eqb, eqb-true, if◌then◌else◌}
use Rattle.std.proofs.lemmas.Bool.Decides.{eqb_tells}
use Rattle.claim_table.specs.Counts.{one_if_same, times, without, AllBelow}
use Rattle.claim_table.specs.Steps.{claimed}

pub times_append : (x : ℕ) (xs ys : List ℕ) → times x (xs ++ ys) ≡ times x xs + times x ys
times_append x [] ys = omega arith
times_append x (z ∷ zs) ys = let s = times_append x zs ys in omega arith

pub times_other : (x y : ℕ) → x ≢ y → times x (y ∷ []) ≡ 0
times_other x y apart = ap (λ (b : Bool). (if b then 1 else 0) + 0) (ne_eqb y x (λ e. apart (sym e)))

pub times_self : (x : ℕ) → times x (x ∷ []) ≡ 1
times_self x = ap (λ (b : Bool). (if b then 1 else 0) + 0) (eq-eqb x x refl)

-- a claimed item stands in `mine` afterwards
pub times_added : (x : ℕ) (xs : List ℕ) → times x (xs ++ x ∷ []) ≡ times x xs + 1
times_added x xs = let a = times_append x xs (x ∷ []) in let o = times_self x in omega arith

pub has_claimed : (word x : ℕ) (xs : List ℕ) → word ≡ 0 → 0 < times x (claimed word x xs)
has_claimed word x xs e = subst (λ w. 0 < times x (claimed w x xs)) (sym e) (let a = times_added x xs in omega arith)

pub times_without : (y : ℕ) (xs : List ℕ) → 0 < times y xs → (x : ℕ) → times x (without y xs) + times x (y ∷ []) ≡ times x xs
times_without y [] h x = absurd (omega arith)
times_without y (z ∷ zs) h x = go (eqb z y) refl h (λ p. times_without y zs p x)
  where
    go : (b : Bool) → eqb z y ≡ b → 0 < (if b then 1 else 0) + times y zs → (0 < times y zs → times x (without y zs) + times x (y ∷ []) ≡ times x zs) → times x (if b then zs else z ∷ without y zs) + times x (y ∷ []) ≡ times x (z ∷ zs)
    go true e h ih = let s : times x (y ∷ []) ≡ times x (z ∷ []) = ap (λ w. times x (w ∷ [])) (sym (eqb-true z y e)) in omega arith
    go false e h ih = let s = ih (omega arith) in omega arith

-- a word is not both 1 and 2
pub one_of_two : (w : ℕ) → one_if_same w 1 + one_if_same w 2 ≤ 1
one_of_two w = go (eqb_tells w 1) (eqb_tells w 2)
  where
    go : ((eqb w 1 ≡ true) × (w ≡ 1)) ⊎ ((eqb w 1 ≡ false) × (w ≢ 1)) → ((eqb w 2 ≡ true) × (w ≡ 2)) ⊎ ((eqb w 2 ≡ false) × (w ≢ 2)) → one_if_same w 1 + one_if_same w 2 ≤ 1
    go (inl a) (inl b) = absurd (let p = a.1 in let q = b.1 in omega arith)
    go (inl a) (inr b) = rw (a.0, b.0) (omega arith)
    go (inr a) (inl b) = rw (a.0, b.0) (omega arith)
    go (inr a) (inr b) = rw (a.0, b.0) (omega arith)

pub is_one : (w : ℕ) → 0 < one_if_same w 1 → w ≡ 1
is_one w h = go (eqb_tells w 1)
  where
    go : ((eqb w 1 ≡ true) × (w ≡ 1)) ⊎ ((eqb w 1 ≡ false) × (w ≢ 1)) → w ≡ 1
    go (inl a) = a.1
    go (inr b) = let z : one_if_same w 1 ≡ 0 = ap (λ (k : Bool). if k then 1 else 0) b.0 in absurd (omega arith)

-- ---- each item is below the number of words

pub below_joined : (n : ℕ) (xs ys : List ℕ) → AllBelow n xs → AllBelow n ys → AllBelow n (xs ++ ys)
below_joined n xs ys below below' x h = go (times x xs) refl
  where
    go : (k : ℕ) → times x xs ≡ k → x < n
    go zero e = below' x (let a = times_append x xs ys in omega arith)
    go (suc k) e = below x (omega arith)

pub below_one : (n i : ℕ) → i < n → AllBelow n (i ∷ [])
below_one n i inside x h = go (eqb_tells x i)
  where
    go : ((eqb x i ≡ true) × (x ≡ i)) ⊎ ((eqb x i ≡ false) × (x ≢ i)) → x < n
    go (inl a) = let e = a.1 in omega arith
    go (inr b) = let z = times_other x i b.1 in absurd (omega arith)

pub below_claimed : (n word i : ℕ) (xs : List ℕ) → i < n → AllBelow n xs → AllBelow n (claimed word i xs)
below_claimed n word i xs inside below = go (eqb word 0)
  where
    go : (b : Bool) → AllBelow n (if b then xs ++ i ∷ [] else xs)
    go true = below_joined n xs (i ∷ []) below (below_one n i inside)
    go false = below

pub below_without : (n i : ℕ) (xs : List ℕ) → 0 < times i xs → AllBelow n xs → AllBelow n (without i xs)
below_without n i xs has below x h = below x (let t = times_without i xs has x in omega arith)
