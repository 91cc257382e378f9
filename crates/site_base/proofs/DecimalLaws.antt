-- Whole numbers in decimal: their equation, and that digits up to a byte that is none tell one number alone.
use Rattle.std.proofs.Common.{◌≡◌, ℕ, zero, suc, ◌+◌, ◌*◌, ◌-◌, ◌/◌, ◌%◌, ◌<◌, ◌≤◌, ℤ, pos, negsuc, Bool, true, false, cond, nat_lt, ◌&&◌, List, [], ◌∷◌, ◌++◌, refl, ap, sym, ◌∙◌, subst, append_assoc, arith}
use Rattle.std.proofs.lemmas.Bool.{ltb-true, ltb-false, lt-ltb, le-ltb}
use Rattle.std.proofs.lemmas.Nat.{div-add-mod'}
use Rattle.site_base.specs.Recursion.{down_is, Falls}
use Rattle.site_base.specs.Decimal.{decimal_step, decimal, signed}

div_small : (n : ℕ) → nat_lt n 10 ≡ false → n / 10 < n
div_small n e = let le : 10 ≤ n = ltb-false n 10 e in omega (arith, div-add-mod' n 10)

falls : Falls (λ (m : ℕ). m) [] decimal_step
falls f g n h = at (nat_lt n 10) refl
  where
    at : (b : Bool) → nat_lt n 10 ≡ b → cond b ((48 + n) ∷ []) (f (n / 10) ++ (48 + n % 10) ∷ []) ≡ cond b ((48 + n) ∷ []) (g (n / 10) ++ (48 + n % 10) ∷ [])
    at true e = refl
    at false e = ap (λ ds. ds ++ (48 + n % 10) ∷ []) (h (n / 10) (div_small n e))

pub decimal-is : (n : ℕ) → decimal n ≡ decimal_step decimal n
unfolding decimal
decimal-is n = down_is (λ m. m) [] decimal_step falls n

pub decimal_small : (n : ℕ) → n < 10 → decimal n ≡ (48 + n) ∷ []
decimal_small n lt = decimal-is n ∙ rw (lt-ltb n 10 lt) refl

pub decimal_large : (n : ℕ) → 10 ≤ n → decimal n ≡ decimal (n / 10) ++ (48 + n % 10) ∷ []
decimal_large n le = decimal-is n ∙ rw (le-ltb n 10 le) refl

abbrev is_digit : ℕ → Bool
is_digit c = nat_lt 47 c && nat_lt c 58

abbrev number_from : ℕ → List ℕ → ℕ
number_from n [] = n
number_from n (c ∷ cs) = number_from (n * 10 + (c - 48)) cs

number-append : (n : ℕ) (xs ys : List ℕ) → number_from n (xs ++ ys) ≡ number_from (number_from n xs) ys
number-append n [] ys = refl
number-append n (x ∷ xs) ys = number-append (n * 10 + (x - 48)) xs ys

-- the number that the digits at the front spell, and the rest
abbrev digits : List ℕ → List ℕ
digits [] = []
digits (c ∷ cs) = cond (is_digit c) (c ∷ digits cs) []

abbrev others : List ℕ → List ℕ
others [] = []
others (c ∷ cs) = cond (is_digit c) (others cs) (c ∷ cs)

abbrev AllDigits : List ℕ → Type 0
AllDigits [] = Unit {0}
AllDigits (c ∷ cs) = (is_digit c ≡ true) × AllDigits cs

digits-append : (xs ys : List ℕ) → AllDigits xs → AllDigits ys → AllDigits (xs ++ ys)
digits-append [] ys h k = k
digits-append (x ∷ xs) ys h k = (h.0, digits-append xs ys h.1 k)

digits-of : (xs s : List ℕ) (c : ℕ) → AllDigits xs → is_digit c ≡ false → digits (xs ++ c ∷ s) ≡ xs
digits-of [] s c h e = rw e refl
digits-of (x ∷ xs) s c h e = rw h.0 (ap (λ ds. x ∷ ds) (digits-of xs s c h.1 e))

others-of : (xs s : List ℕ) (c : ℕ) → AllDigits xs → is_digit c ≡ false → others (xs ++ c ∷ s) ≡ c ∷ s
others-of [] s c h e = rw e refl
others-of (x ∷ xs) s c h e = rw h.0 (others-of xs s c h.1 e)

digit : (n : ℕ) → n < 10 → is_digit (48 + n) ≡ true
digit n lt = let a : nat_lt 47 (48 + n) ≡ true = lt-ltb 47 (48 + n) (omega arith) in let b : nat_lt (48 + n) 58 ≡ true = lt-ltb (48 + n) 58 (omega arith) in rw (a, b) refl

abbrev Spells : ℕ → List ℕ → Type 0
Spells n ds = AllDigits ds × (number_from 0 ds ≡ n)

one-digit : (n : ℕ) → nat_lt n 10 ≡ true → Spells n ((48 + n) ∷ [])
one-digit n e = let lt : n < 10 = ltb-true n 10 e in ((digit n lt, tt), (let k : 0 * 10 + ((48 + n) - 48) ≡ n = omega arith in k))

last-digit : (n : ℕ) (ds : List ℕ) → Spells (n / 10) ds → Spells n (ds ++ (48 + n % 10) ∷ [])
last-digit n ds h =
    let k : (n / 10) * 10 + ((48 + n % 10) - 48) ≡ n = omega (arith, div-add-mod' n 10) in
    (digits-append ds _ h.0 (digit (n % 10) (omega arith), tt), number-append 0 ds ((48 + n % 10) ∷ []) ∙ ap (λ m. m * 10 + ((48 + n % 10) - 48)) h.1 ∙ k)

step-spells : (n : ℕ) (b : Bool) → nat_lt n 10 ≡ b → (b ≡ false → Spells (n / 10) (decimal (n / 10))) → Spells n (cond b ((48 + n) ∷ []) (decimal (n / 10) ++ (48 + n % 10) ∷ []))
step-spells n true e h = one-digit n e
step-spells n false e h = last-digit n (decimal (n / 10)) (h refl)

spells : (m n : ℕ) → n < m → Spells n (decimal n)
spells zero n lt = absurd (omega arith)
spells (suc m) n lt = subst (Spells n) (sym (decimal-is n)) (step-spells n (nat_lt n 10) refl (λ e. spells m (n / 10) (omega (arith, div_small n e))))

abbrev parsed : List ℕ → ℕ × List ℕ
parsed s = (number_from 0 (digits s), others s)

parsed-is : (n c : ℕ) (s : List ℕ) → is_digit c ≡ false → parsed (decimal n ++ c ∷ s) ≡ (n, c ∷ s)
parsed-is n c s e =
    let h = spells (suc n) n (omega arith) in
    ap (λ ds. (number_from 0 ds, others (decimal n ++ c ∷ s))) (digits-of (decimal n) s c h.0 e) ∙ ap (λ k. (k, others (decimal n ++ c ∷ s))) h.1 ∙ ap (λ r. (n, r)) (others-of (decimal n) s c h.0 e)

-- a number up to a byte that is no digit
pub number-inj : (n m c : ℕ) (s t : List ℕ) → is_digit c ≡ false → decimal n ++ c ∷ s ≡ decimal m ++ c ∷ t → (n ≡ m) × (s ≡ t)
number-inj n m c s t e h =
    let k : (n, c ∷ s) ≡ (m, c ∷ t) = sym (parsed-is n c s e) ∙ ap parsed h ∙ parsed-is m c t e in
    let a : n ≡ m = ap (λ p. p.0) k in
    let b : c ∷ s ≡ c ∷ t = ap (λ p. p.1) k in
    (a, cc)

no-minus : (n : ℕ) (s t : List ℕ) → decimal n ++ 59 ∷ s ≡ 45 ∷ t → ⊥
no-minus n s t h =
    let k : digits (decimal n ++ 59 ∷ s) ≡ [] = ap digits h in
    let g = spells (suc n) n (omega arith) in
    let d : decimal n ≡ [] = sym (digits-of (decimal n) s 59 g.0 refl) ∙ k in
    empty n (nat_lt n 10) refl d
  where
    empty : (n : ℕ) (b : Bool) → nat_lt n 10 ≡ b → decimal n ≡ [] → ⊥
    empty n true e d = let k : (48 + n) ∷ [] ≡ [] = sym (decimal-is n ∙ rw e refl) ∙ d in cc
    empty n false e d = snoc (decimal (n / 10)) (48 + n % 10) (sym (decimal-is n ∙ rw e refl) ∙ d)
      where
        snoc : (xs : List ℕ) (x : ℕ) → xs ++ x ∷ [] ≡ [] → ⊥
        snoc [] x e = cc
        snoc (y ∷ ys) x e = cc

pub signed-inj : (n m : ℤ) (s t : List ℕ) → signed n ++ 59 ∷ s ≡ signed m ++ 59 ∷ t → (n ≡ m) × (s ≡ t)
signed-inj (pos n) (pos m) s t h = let k = number-inj n m 59 s t refl h in (ap (λ x. pos x) k.0, k.1)
signed-inj (pos n) (negsuc m) s t h = absurd (no-minus n s _ h)
signed-inj (negsuc n) (pos m) s t h = absurd (no-minus m t _ (sym h))
signed-inj (negsuc n) (negsuc m) s t h =
    let r : decimal (suc n) ++ 59 ∷ s ≡ decimal (suc m) ++ 59 ∷ t = cc in
    let k = number-inj (suc n) (suc m) 59 s t refl r in
    let e : n ≡ m = omega (arith, k.0) in (ap (λ x. negsuc x) e, k.1)

-- the last digit behind the others
pub decimal_ends : (out ds : List ℕ) (n : ℕ) → (10 ≤ n → ds ≡ out ++ decimal (n / 10)) → (n < 10 → ds ≡ out) → ds ++ (48 + n % 10) ∷ [] ≡ out ++ decimal n
decimal_ends out ds n large small = at (nat_lt n 10) refl
  where
    at : (b : Bool) → nat_lt n 10 ≡ b → ds ++ (48 + n % 10) ∷ [] ≡ out ++ decimal n
    at true e =
        let lt : n < 10 = ltb-true n 10 e in let one : 48 + n % 10 ≡ 48 + n = omega arith in
        ap (λ xs. xs ++ (48 + n % 10) ∷ []) (small lt) ∙ ap (λ d. out ++ d ∷ []) one ∙ ap (λ xs. out ++ xs) (sym (decimal_small n lt))
    at false e =
        let le : 10 ≤ n = ltb-false n 10 e in
        ap (λ xs. xs ++ (48 + n % 10) ∷ []) (large le) ∙ append_assoc out (decimal (n / 10)) ((48 + n % 10) ∷ []) ∙ ap (λ xs. out ++ xs) (sym (decimal_large n le))
