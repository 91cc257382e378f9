-- Two values with one code are equal.
use Rattle.std.proofs.Common.{◌≡◌, ℕ, ℤ, Bool, true, false, cond, eqb, List, [], ◌∷◌, ◌++◌, length, refl, ap, sym, ◌∙◌, append_assoc, arith}
use Rattle.site_base.specs.Plain.{Plain, nil, bool, int, text, list, hash, site_item, range, Items, no_items, item, Pairs, no_pairs, pair, count, count_pairs}
use Rattle.site_base.specs.Decimal.{decimal, signed}
use Rattle.site_base.specs.Code.{text_code, bool_code, code, items_code, pairs_code}
use Rattle.site_base.proofs.DecimalLaws.{number-inj, signed-inj}

same-length : (x y s t : List ℕ) → length x ≡ length y → x ++ s ≡ y ++ t → (x ≡ y) × (s ≡ t)
same-length [] [] s t l h = (refl, h)
same-length [] (b ∷ y) s t l h = absurd (omega arith)
same-length (a ∷ x) [] s t l h = absurd (omega arith)
same-length (a ∷ x) (b ∷ y) s t l h =
    let e : a ≡ b = cc in let r : x ++ s ≡ y ++ t = cc in let k = same-length x y s t (omega arith) r in let f = k.0 in (cc, k.1)

text-inj : (x y s t : List ℕ) → text_code x ++ s ≡ text_code y ++ t → (x ≡ y) × (s ≡ t)
text-inj x y s t h =
    let r : (decimal (length x) ++ (58 ∷ x)) ++ s ≡ (decimal (length y) ++ (58 ∷ y)) ++ t = cc in
    let k = number-inj (length x) (length y) 58 (x ++ s) (y ++ t) refl (sym (append_assoc (decimal (length x)) (58 ∷ x) s) ∙ r ∙ append_assoc (decimal (length y)) (58 ∷ y) t) in
    same-length x y s t k.0 k.1

abbrev first_byte : List ℕ → ℕ
first_byte [] = 0
first_byte (c ∷ cs) = c

bool-inj : (b c : Bool) (s t : List ℕ) → bool_code b ∷ s ≡ bool_code c ∷ t → (b ≡ c) × (s ≡ t)
bool-inj true true s t h = (refl, cc)
bool-inj true false s t h = absurd (omega (arith, ap first_byte h))
bool-inj false true s t h = absurd (omega (arith, ap first_byte h))
bool-inj false false s t h = (refl, cc)

-- ---- values

abbrev kind_of : Plain → ℕ
kind_of nil = 0
kind_of (bool b) = 1
kind_of (int n) = 2
kind_of (text s) = 3
kind_of (list is) = 4
kind_of (hash ps) = 5
kind_of (site_item path part) = 6
kind_of (range a b) = 7

abbrev kind_at : ℕ → ℕ
kind_at c = cond (eqb c 110) 0 (cond (eqb c 105) 2 (cond (eqb c 115) 3 (cond (eqb c 108) 4 (cond (eqb c 104) 5 (cond (eqb c 112) 6 (cond (eqb c 114) 7 1))))))

kind-first : (v : Plain) (s : List ℕ) → kind_at (first_byte (code v ++ s)) ≡ kind_of v
kind-first nil s = refl
kind-first (bool true) s = refl
kind-first (bool false) s = refl
kind-first (int n) s = refl
kind-first (text x) s = refl
kind-first (list is) s = refl
kind-first (hash ps) s = refl
kind-first (site_item path part) s = refl
kind-first (range a b) s = refl

item_regroup : (path ds s : List ℕ) → (112 ∷ (text_code path ++ (ds ++ 59 ∷ []))) ++ s ≡ 112 ∷ (text_code path ++ (ds ++ 59 ∷ s))
item_regroup path ds s = simp append_assoc

item-front : (path : List ℕ) (part : ℕ) (other : List ℕ) (number : ℕ) (s t : List ℕ) → code (site_item path part) ++ s ≡ code (site_item other number) ++ t
    → (site_item path part ≡ site_item other number) × (s ≡ t)
item-front path part other number s t h =
    let r : 112 ∷ (text_code path ++ (decimal part ++ 59 ∷ s)) ≡ 112 ∷ (text_code other ++ (decimal number ++ 59 ∷ t)) = sym (item_regroup path (decimal part) s) ∙ h ∙ item_regroup other (decimal number) t in
    let q : text_code path ++ (decimal part ++ 59 ∷ s) ≡ text_code other ++ (decimal number ++ 59 ∷ t) = cc in
    let a = text-inj path other (decimal part ++ 59 ∷ s) (decimal number ++ 59 ∷ t) q in
    let b = number-inj part number 59 s t refl a.1 in
    (ap (λ p. site_item p part) a.0 ∙ ap (λ n. site_item other n) b.0, b.1)

range_regroup : (a b s : List ℕ) → (114 ∷ (a ++ (59 ∷ (b ++ 59 ∷ [])))) ++ s ≡ 114 ∷ (a ++ 59 ∷ (b ++ 59 ∷ s))
range_regroup a b s = simp append_assoc

range-front : (a b c d : ℤ) (s t : List ℕ) → code (range a b) ++ s ≡ code (range c d) ++ t → (range a b ≡ range c d) × (s ≡ t)
range-front a b c d s t h =
    let r : 114 ∷ (signed a ++ 59 ∷ (signed b ++ 59 ∷ s)) ≡ 114 ∷ (signed c ++ 59 ∷ (signed d ++ 59 ∷ t)) = sym (range_regroup (signed a) (signed b) s) ∙ h ∙ range_regroup (signed c) (signed d) t in
    let q : signed a ++ 59 ∷ (signed b ++ 59 ∷ s) ≡ signed c ++ 59 ∷ (signed d ++ 59 ∷ t) = cc in
    let e = signed-inj a c (signed b ++ 59 ∷ s) (signed d ++ 59 ∷ t) q in
    let f = signed-inj b d s t e.1 in
    (ap (λ x. range x b) e.0 ∙ ap (λ y. range c y) f.0, f.1)

mutual
  code-front : (v w : Plain) (s t : List ℕ) → code v ++ s ≡ code w ++ t → (v ≡ w) × (s ≡ t)
  code-front nil nil s t h = (refl, cc)
  code-front (bool b) (bool c) s t h = let k = bool-inj b c s t h in (ap (λ x. bool x) k.0, k.1)
  code-front (int n) (int m) s t h =
      let r : (signed n ++ 59 ∷ []) ++ s ≡ (signed m ++ 59 ∷ []) ++ t = cc in
      let k = signed-inj n m s t (sym (append_assoc (signed n) (59 ∷ []) s) ∙ r ∙ append_assoc (signed m) (59 ∷ []) t) in
      (ap (λ x. int x) k.0, k.1)
  code-front (text x) (text y) s t h = let k = text-inj x y s t h in (ap (λ x. text x) k.0, k.1)
  code-front (list is) (list js) s t h =
      let r : (decimal (count is) ++ (58 ∷ items_code is)) ++ s ≡ (decimal (count js) ++ (58 ∷ items_code js)) ++ t = cc in
      let k = number-inj (count is) (count js) 58 (items_code is ++ s) (items_code js ++ t) refl (sym (append_assoc (decimal (count is)) (58 ∷ items_code is) s) ∙ r ∙ append_assoc (decimal (count js)) (58 ∷ items_code js) t) in
      let e = items-front is js s t k.0 k.1 in (ap (λ x. list x) e.0, e.1)
  code-front (hash ps) (hash qs) s t h =
      let r : (decimal (count_pairs ps) ++ (58 ∷ pairs_code ps)) ++ s ≡ (decimal (count_pairs qs) ++ (58 ∷ pairs_code qs)) ++ t = cc in
      let k = number-inj (count_pairs ps) (count_pairs qs) 58 (pairs_code ps ++ s) (pairs_code qs ++ t) refl (sym (append_assoc (decimal (count_pairs ps)) (58 ∷ pairs_code ps) s) ∙ r ∙ append_assoc (decimal (count_pairs qs)) (58 ∷ pairs_code qs) t) in
      let e = pairs-front ps qs s t k.0 k.1 in (ap (λ x. hash x) e.0, e.1)
  code-front (site_item path part) (site_item other number) s t h = item-front path part other number s t h
  code-front (range a b) (range c d) s t h = range-front a b c d s t h
  code-front v w s t h = let e : kind_of v ≡ kind_of w = sym (kind-first v s) ∙ ap (λ x. kind_at (first_byte x)) h ∙ kind-first w t in absurd (omega (arith, e))

  items-front : (is js : Items) (s t : List ℕ) → count is ≡ count js → items_code is ++ s ≡ items_code js ++ t → (is ≡ js) × (s ≡ t)
  items-front no_items no_items s t l h = (refl, h)
  items-front no_items (item w js) s t l h = absurd (omega arith)
  items-front (item v is) no_items s t l h = absurd (omega arith)
  items-front (item v is) (item w js) s t l h =
      let k = code-front v w (items_code is ++ s) (items_code js ++ t) (sym (append_assoc (code v) (items_code is) s) ∙ h ∙ append_assoc (code w) (items_code js) t) in
      let e = items-front is js s t (omega arith) k.1 in
      (ap (λ x. item x is) k.0 ∙ ap (λ x. item w x) e.0, e.1)

  pairs-front : (ps qs : Pairs) (s t : List ℕ) → count_pairs ps ≡ count_pairs qs → pairs_code ps ++ s ≡ pairs_code qs ++ t → (ps ≡ qs) × (s ≡ t)
  pairs-front no_pairs no_pairs s t l h = (refl, h)
  pairs-front no_pairs (pair m w qs) s t l h = absurd (omega arith)
  pairs-front (pair k v ps) no_pairs s t l h = absurd (omega arith)
  pairs-front (pair k v ps) (pair m w qs) s t l h =
      let a = text-inj k m ((code v ++ pairs_code ps) ++ s) ((code w ++ pairs_code qs) ++ t) (sym (append_assoc (text_code k) (code v ++ pairs_code ps) s) ∙ h ∙ append_assoc (text_code m) (code w ++ pairs_code qs) t) in
      let b = code-front v w (pairs_code ps ++ s) (pairs_code qs ++ t) (sym (append_assoc (code v) (pairs_code ps) s) ∙ a.1 ∙ append_assoc (code w) (pairs_code qs) t) in
      let e = pairs-front ps qs s t (omega arith) b.1 in
      (ap (λ x. pair x v ps) a.0 ∙ ap (λ x. pair m x ps) b.0 ∙ ap (λ x. pair m w x) e.0, e.1)

pub code-injective : (v w : Plain) → code v ≡ code w → v ≡ w
code-injective v w h = (code-front v w [] [] (ap (λ s. s ++ []) h)).0
