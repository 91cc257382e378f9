-- What stands beside a number in a list, after one thing more.
use Rattle.std.proofs.Common.{◌≡◌, ◌≢◌, ◌⊎◌, inl, inr, ℕ, zero, suc, ◌+◌, ◌<◌, ◌≤◌, Bool, true, false, cond, eqb, ◌||◌, length, take, drop, set, get_or, add-one, List, [], ◌∷◌, ◌++◌, Option, Some, None, refl, ap, sym, ◌∙◌, arith}
use Rattle.std.specs.Prelude.{slice_get, OnOk, Result, Ok, Err}
use Rattle.std.proofs.lemmas.Bool.Decides.{eqb_tells, Decides-eqb}
use Rattle.round_core.specs.States.{State, at, has, is_in, knows, with_known, knowing}
use Rattle.round_core.specs.Facts.{times, numbers}

module _ {A : Type 0} where
  abbrev nil : Option A
  nil = None

  -- what stands beside i once a pair was added
  pub at-more : (ps : List (ℕ × A)) (j : ℕ) (b a : A) (i : ℕ) → at i (ps ++ (j, b) ∷ []) ≡ Some a → (at i ps ≡ Some a) ⊎ ((at i ps ≡ None) × (i ≡ j) × (b ≡ a))
  at-more [] j b a i e = go (eqb_tells j i) e
    where
      go : ((eqb j i ≡ true) × (j ≡ i)) ⊎ ((eqb j i ≡ false) × (j ≢ i)) → cond (eqb j i) (Some b) None ≡ Some a → (nil ≡ Some a) ⊎ ((nil ≡ None) × (i ≡ j) × (b ≡ a))
      go (inl s) f = let h : Some b ≡ Some a = ap (λ t. cond t (Some b) None) (sym s.0) ∙ f in inr (refl, sym s.1, (cc))
      go (inr s) f = let h : nil ≡ Some a = ap (λ t. cond t (Some b) None) (sym s.0) ∙ f in cc
  at-more (p ∷ ps) j b a i e = go (eqb p.0 i) (at-more ps j b a i) e
    where
      go : (t : Bool) → (at i (ps ++ (j, b) ∷ []) ≡ Some a → (at i ps ≡ Some a) ⊎ ((at i ps ≡ None) × (i ≡ j) × (b ≡ a))) → cond t (Some p.1) (at i (ps ++ (j, b) ∷ [])) ≡ Some a →
          (cond t (Some p.1) (at i ps) ≡ Some a) ⊎ ((cond t (Some p.1) (at i ps) ≡ None) × (i ≡ j) × (b ≡ a))
      go true ih f = inl f
      go false ih f = ih f

  pub at-longer : (ps qs : List (ℕ × A)) (i : ℕ) (a : A) → at i ps ≡ Some a → at i (ps ++ qs) ≡ Some a
  at-longer [] qs i a e = cc
  at-longer (p ∷ ps) qs i a e = go (eqb p.0 i) (at-longer ps qs i a) e
    where
      go : (t : Bool) → (at i ps ≡ Some a → at i (ps ++ qs) ≡ Some a) → cond t (Some p.1) (at i ps) ≡ Some a → cond t (Some p.1) (at i (ps ++ qs)) ≡ Some a
      go true ih f = f
      go false ih f = ih f

  pub numbers-more : (ps : List (ℕ × A)) (i : ℕ) (a : A) → numbers (ps ++ (i, a) ∷ []) ≡ numbers ps ++ i ∷ []
  numbers-more [] i a = refl
  numbers-more (p ∷ ps) i a = ap (λ xs. p.0 ∷ xs) (numbers-more ps i a)

  pub absent : (ps : List (ℕ × A)) (i : ℕ) → at i ps ≡ None → times i (numbers ps) ≡ 0
  absent [] i e = refl
  absent (p ∷ ps) i e = go (eqb p.0 i) (absent ps i) e
    where
      go : (t : Bool) → (at i ps ≡ None → times i (numbers ps) ≡ 0) → cond t (Some p.1) (at i ps) ≡ None → cond t 1 0 + times i (numbers ps) ≡ 0
      go true ih f = cc
      go false ih f = let z = ih f in omega arith

pub times-append : (x : ℕ) (xs ys : List ℕ) → times x (xs ++ ys) ≡ times x xs + times x ys
times-append x [] ys = omega arith
times-append x (y ∷ xs) ys = let ih = times-append x xs ys in let n : ℕ = cond (eqb y x) 1 0 in omega arith

one : (t : Bool) → t ≡ true → cond {A = ℕ} t 1 0 ≡ 1
one true e = refl
one false e = cc

none : (t : Bool) → t ≡ false → cond {A = ℕ} t 1 0 ≡ 0
none true e = cc
none false e = refl

at-most : (n k t s : ℕ) → n ≡ k + (t + 0) → k + t ≤ s → n ≤ s
at-most n k t s h l = omega arith

-- a number that stood nowhere stands once, where it is added
pub once-more : (x i : ℕ) (xs : List ℕ) → times x xs ≤ 1 → times i xs ≡ 0 → times x (xs ++ i ∷ []) ≤ 1
once-more x i xs most nowhere = go (eqb_tells i x)
  where
    go : ((eqb i x ≡ true) × (i ≡ x)) ⊎ ((eqb i x ≡ false) × (i ≢ x)) → times x (xs ++ i ∷ []) ≤ 1
    go (inl e) =
        let a : times x xs ≡ 0 = ap (λ y. times y xs) (sym e.1) ∙ nowhere in
        let b = one (eqb i x) e.0 in
        at-most (times x (xs ++ i ∷ [])) (times x xs) (cond {A = ℕ} (eqb i x) 1 0) 1 (times-append x xs (i ∷ [])) (omega (arith, a, b))
    go (inr e) =
        let b = none (eqb i x) e.0 in
        at-most (times x (xs ++ i ∷ [])) (times x xs) (cond {A = ℕ} (eqb i x) 1 0) 1 (times-append x xs (i ∷ [])) (omega (arith, most, b))

-- ---- what workers know

has-more : (js : List ℕ) (j i : ℕ) → has i (js ++ j ∷ []) ≡ true → (has i js ≡ true) ⊎ (i ≡ j)
has-more [] j i e = go (eqb_tells j i) e
  where
    go : ((eqb j i ≡ true) × (j ≡ i)) ⊎ ((eqb j i ≡ false) × (j ≢ i)) → (eqb j i || false) ≡ true → (false ≡ true) ⊎ (i ≡ j)
    go (inl s) f = inr (sym s.1)
    go (inr s) f = absurd (none (eqb j i) s.0 f)
      where
        none : (b : Bool) → b ≡ false → (b || false) ≡ true → ⊥
        none true h g = cc
        none false h g = cc
has-more (k ∷ js) j i e = go (eqb k i) (has-more js j i) e
  where
    go : (t : Bool) → (has i (js ++ j ∷ []) ≡ true → (has i js ≡ true) ⊎ (i ≡ j)) → (t || has i (js ++ j ∷ [])) ≡ true → ((t || has i js) ≡ true) ⊎ (i ≡ j)
    go true ih f = inl refl
    go false ih f = ih f

-- an item that is known now was known before, or is the one that was added
pub knows-more : (ps : List (ℕ × List ℕ)) (u j w i : ℕ) → knows w i (with_known u j ps) ≡ true → (knows w i ps ≡ true) ⊎ (i ≡ j)
knows-more [] u j w i e = go (eqb u w) e
  where
    go : (t : Bool) → is_in i (cond t (Some (j ∷ [])) None) ≡ true → (false ≡ true) ⊎ (i ≡ j)
    go true f = has-more [] j i f
    go false f = cc
knows-more (p ∷ ps) u j w i e = go (eqb p.0 u) (eqb p.0 w) (knows-more ps u j w i) e
  where
    at-head : (s : Bool) → is_in i (cond s (Some (p.1 ++ j ∷ [])) (at w ps)) ≡ true → (is_in i (cond s (Some p.1) (at w ps)) ≡ true) ⊎ (i ≡ j)
    at-head true f = has-more p.1 j i f
    at-head false f = inl f

    behind : (s : Bool) → (is_in i (at w (with_known u j ps)) ≡ true → (is_in i (at w ps) ≡ true) ⊎ (i ≡ j)) → is_in i (cond s (Some p.1) (at w (with_known u j ps))) ≡ true
        → (is_in i (cond s (Some p.1) (at w ps)) ≡ true) ⊎ (i ≡ j)
    behind true ih f = inl f
    behind false ih f = ih f

    go : (t s : Bool) → (is_in i (at w (with_known u j ps)) ≡ true → (is_in i (at w ps) ≡ true) ⊎ (i ≡ j)) → is_in i (at w (cond t ((p.0, p.1 ++ j ∷ []) ∷ ps) (p ∷ with_known u j ps))) ≡ true
        → (is_in i (at w (p ∷ ps)) ≡ true) ⊎ (i ≡ j)
    go true s ih f = at-head (eqb p.0 w) f
    go false s ih f = behind (eqb p.0 w) ih f

-- ---- the list of what workers know, place by place

passed : (ps : List (ℕ × List ℕ)) (w i n : ℕ) (p : ℕ × List ℕ) → slice_get ps n ≡ Some p → eqb p.0 w ≡ false
    → take n ps ++ with_known w i (drop n ps) ≡ take (suc n) ps ++ with_known w i (drop (suc n) ps)
passed [] w i n p h e = cc
passed (q ∷ ps) w i zero p h e = let same : q ≡ p = cc in let f : eqb q.0 w ≡ false = ap (λ (r : ℕ × List ℕ). eqb r.0 w) same ∙ e in rw f refl
passed (q ∷ ps) w i (suc n) p h e = ap (λ rs. q ∷ rs) (passed ps w i n p h e)

-- the worker at a place is another
pub other-place : (ps : List (ℕ × List ℕ)) (w i n : ℕ) (p : ℕ × List ℕ) → slice_get ps n ≡ Some p → eqb p.0 w ≡ false
    → take n ps ++ with_known w i (drop n ps) ≡ take (n + 1) ps ++ with_known w i (drop (n + 1) ps)
other-place ps w i n p h e = passed ps w i n p h e ∙ ap (λ k. take k ps ++ with_known w i (drop k ps)) (sym (add-one n))

-- the worker at a place is this one
pub that-place : (ps : List (ℕ × List ℕ)) (w i n : ℕ) (p : ℕ × List ℕ) → slice_get ps n ≡ Some p → eqb p.0 w ≡ true
    → take n ps ++ with_known w i (drop n ps) ≡ set ps n (p.0, p.1 ++ i ∷ [])
that-place [] w i n p h e = cc
that-place (q ∷ ps) w i zero p h e =
    let same : q ≡ p = cc in
    let f : eqb q.0 w ≡ true = ap (λ (r : ℕ × List ℕ). eqb r.0 w) same ∙ e in
    rw f (ap (λ (r : ℕ × List ℕ). (r.0, r.1 ++ i ∷ []) ∷ ps) same)
that-place (q ∷ ps) w i (suc n) p h e = ap (λ rs. q ∷ rs) (that-place ps w i n p h e)

pub no-place : (ps : List (ℕ × List ℕ)) (w i n : ℕ) → length ps ≤ n → take n ps ++ with_known w i (drop n ps) ≡ ps ++ (w, i ∷ []) ∷ []
no-place [] w i zero h = refl
no-place [] w i (suc n) h = refl
no-place (q ∷ ps) w i zero h = absurd (omega arith)
no-place (q ∷ ps) w i (suc n) h = ap (λ rs. q ∷ rs) (no-place ps w i n (omega arith))

pub element-there : {A : Type 0} (xs : List A) (i : ℕ) (x : A) → i < length xs → x ≡ get_or xs i x → slice_get xs i ≡ Some x
element-there [] i x h e = absurd (omega arith)
element-there (y ∷ xs) zero x h e = ap Some (sym e)
element-there (y ∷ xs) (suc i) x h e = element-there xs i x (omega arith) e

pub one-element : {A : Type 0} (xs : List A) (i : ℕ) (x y : A) → i < length xs → x ≡ get_or xs i x → y ≡ get_or xs i y → x ≡ y
one-element xs i x y h e f = let a : Some x ≡ Some y = sym (element-there xs i x h e) ∙ element-there xs i y h f in cc

pub on-ok : {A E P Q : Type 0} (r : Result A E) → (P → Q) → OnOk r P → OnOk r Q
on-ok (Ok a) f p = f p
on-ok (Err e) f p = p

module _ {M : Type 0} (s : State M) (w i n : ℕ) (so_far : with_known w i s.known ≡ take n s.known ++ with_known w i (drop n s.known)) where
  -- one more item of the worker at a place
  pub known-there : (p q : ℕ × List ℕ) → n < length s.known → p ≡ get_or s.known n p → p.0 ≡ w → q ≡ (p.0, p.1 ++ i ∷ []) → set s.known n q ≡ with_known w i s.known
  known-there p q room e is made =
      let here : eqb p.0 w ≡ true = ap (λ x. eqb x w) is ∙ (Decides-eqb w w).1 refl in
      ap (set s.known n) made ∙ sym (so_far ∙ that-place s.known w i n p (element-there s.known n p room e) here)

  -- the first item of a worker
  pub known-first : (q : ℕ × List ℕ) (ps : List (ℕ × List ℕ)) → length s.known ≤ n → q ≡ (w, i ∷ []) → ps ≡ s.known ++ q ∷ [] → ps ≡ with_known w i s.known
  known-first q ps none made e = e ∙ ap (λ x. s.known ++ x ∷ []) made ∙ sym (so_far ∙ no-place s.known w i n none)

-- a state whose workers know this
pub with-list : {M : Type 0} (s : State M) (w i : ℕ) (ps : List (ℕ × List ℕ)) → ps ≡ with_known w i s.known → record { claims = s.claims; cells = s.cells; known = ps } ≡ knowing w i s
with-list s w i ps e = ap (λ x. record { claims = s.claims; cells = s.cells; known = x }) e
