-- Patterns that are read again and again.
use Rattle.std.proofs.Common.{◌≡◌, ◌∙◌, Bool, List, None, Option, Some, [], ap, arith, cond, drop, false, length, refl, suc, sym, take, true, zero, ℕ, ◌+◌, ◌-◌, ◌<◌, ◌==◌, ◌∷◌, ◌≤◌}
use Rattle.std.proofs.lemmas.List.{length-drop}
use Rattle.markdown_grammar.specs.Readers.{Reader, perhaps, plus, repeat, repeat_by, some_white_gap, white_gap, ◌then◌}
use Rattle.markdown_grammar.specs.Tags.{attribute, attribute_name, value_part}

-- a pattern that takes something, and something of a text that has something
abbrev pub Goes : Reader → Type 0
Goes r = (t : List ℕ) (k : ℕ) → r t ≡ Some k → (0 < k) × (0 < length t)

abbrev repeat_case : (ℕ → Option ℕ) → Option ℕ → Option ℕ
repeat_case rest o = elim o as (λ x. Option ℕ) [ Some k ↦ plus k (rest k) | None ↦ Some 0 ]

-- more turns than bytes change nothing
enough : (r : Reader) → Goes r → (m n : ℕ) (t : List ℕ) → length t ≤ m → length t ≤ n → repeat_by m r t ≡ repeat_by n r t
enough r goes zero zero t p q = refl
enough r goes zero (suc n) t p q = go (r t) refl where
  go : (o : Option ℕ) → r t ≡ o → Some 0 ≡ repeat_case (λ k. repeat_by n r (drop k t)) o
  go (Some k) e = absurd (omega (arith, (goes t k e).1, p))
  go None e = refl
enough r goes (suc m) zero t p q = go (r t) refl where
  go : (o : Option ℕ) → r t ≡ o → repeat_case (λ k. repeat_by m r (drop k t)) o ≡ Some 0
  go (Some k) e = absurd (omega (arith, (goes t k e).1, q))
  go None e = refl
enough r goes (suc m) (suc n) t p q = go (r t) refl (λ k. enough r goes m n (drop k t)) where
  go : (o : Option ℕ) → r t ≡ o → ((k : ℕ) → length (drop k t) ≤ m → length (drop k t) ≤ n → repeat_by m r (drop k t) ≡ repeat_by n r (drop k t))
      → repeat_case (λ k. repeat_by m r (drop k t)) o ≡ repeat_case (λ k. repeat_by n r (drop k t)) o
  go (Some k) e h =
      let some = (goes t k e).0 in
      let full = (goes t k e).1 in
      ap (λ (x : Option ℕ). plus k x) (h k (omega (arith, length-drop k t, some, full, p)) (omega (arith, length-drop k t, some, full, q)))
  go None e h = refl

-- one turn more
pub repeat_goes : (r : Reader) → Goes r → (t : List ℕ) (k : ℕ) → r t ≡ Some k → repeat r t ≡ plus k (repeat r (drop k t))
repeat_goes r goes [] k e = absurd (omega (arith, (goes [] k e).1))
repeat_goes r goes (c ∷ cs) k e =
    let some = (goes (c ∷ cs) k e).0 in
    ap (λ (o : Option ℕ). repeat_case (λ k. repeat_by (length cs) r (drop k (c ∷ cs))) o) e
    ∙ ap (λ (x : Option ℕ). plus k x) (enough r goes (length cs) (length (drop k (c ∷ cs))) (drop k (c ∷ cs)) (omega (arith, length-drop k (c ∷ cs), some)) (omega arith))

pub repeat_ends : (r : Reader) (t : List ℕ) → r t ≡ None → repeat r t ≡ Some 0
repeat_ends r [] e = refl
repeat_ends r (c ∷ cs) e = ap (λ (o : Option ℕ). repeat_case (λ k. repeat_by (length cs) r (drop k (c ∷ cs))) o) e

abbrev gap_case : Option ℕ → Option ℕ
gap_case o = elim o as (λ x. Option ℕ) [ Some k ↦ cond (k == 0) None (Some k) | None ↦ None ]

gap_some : (o : Option ℕ) (k : ℕ) → gap_case o ≡ Some k → 0 < k
gap_some None k e = absurd cc
gap_some (Some zero) k e = absurd cc
gap_some (Some (suc n)) k e = go (suc n == 0) e where
  go : (b : Bool) → cond b None (Some (suc n)) ≡ Some k → 0 < k
  go true f = absurd cc
  go false f = let same : suc n ≡ k = cc in omega (arith, same)

abbrev then_case : (ℕ → Option ℕ) → Option ℕ → Option ℕ
then_case rest o = elim o as (λ x. Option ℕ) [ Some k ↦ plus k (rest k) | None ↦ None ]

plus_some : (g : ℕ) (o : Option ℕ) (k : ℕ) → plus g o ≡ Some k → 0 < g → 0 < k
plus_some g None k e some = absurd cc
plus_some g (Some x) k e some = let same : g + x ≡ k = cc in omega (arith, same, some)

attribute_goes : Goes attribute
attribute_goes [] k e = absurd cc
attribute_goes (c ∷ cs) k e = (go (some_white_gap (c ∷ cs)) refl e, omega arith) where
  go : (o : Option ℕ) → some_white_gap (c ∷ cs) ≡ o → then_case (λ g. (attribute_name then (perhaps value_part)) (drop g (c ∷ cs))) o ≡ Some k → 0 < k
  go None f e = absurd cc
  go (Some g) f e = plus_some g ((attribute_name then (perhaps value_part)) (drop g (c ∷ cs))) k e (gap_some (white_gap (c ∷ cs)) g f)

pub plus_plus : (i j : ℕ) (o : Option ℕ) → plus i (plus j o) ≡ plus (i + j) o
plus_plus i j (Some k) = ap (λ (n : ℕ). Some n) (omega arith)
plus_plus i j None = refl

pub drop_drop : (i j : ℕ) (t : List ℕ) → drop j (drop i t) ≡ drop (i + j) t
drop_drop zero j t = let e : j ≡ 0 + j = omega arith in ap (λ (n : ℕ). drop n t) e
drop_drop (suc i) j [] = drop_nil j (suc i + j) where
  drop_nil : (m n : ℕ) → drop m (let e : List ℕ = [] in e) ≡ drop n (let e : List ℕ = [] in e)
  drop_nil zero zero = refl
  drop_nil zero (suc n) = refl
  drop_nil (suc m) zero = refl
  drop_nil (suc m) (suc n) = refl
drop_drop (suc i) j (c ∷ cs) = drop_drop i j cs ∙ (let e : suc (i + j) ≡ suc i + j = omega arith in ap (λ (n : ℕ). drop n (c ∷ cs)) e)

pub one_more : (r : Reader) → Goes r → (text rest : List ℕ) (at n : ℕ) (whole : Option ℕ) → rest ≡ drop at text → Some n ≡ r rest → plus at (repeat r (drop at text)) ≡ whole → plus (at + n) (repeat r (drop (at + n) text)) ≡ whole
one_more r goes text rest at n whole e f w =
    let taken : r (drop at text) ≡ Some n = ap r (sym e) ∙ sym f in
    sym (ap (λ (o : Option ℕ). plus at o) (repeat_goes r goes (drop at text) n taken)
    ∙ plus_plus at n (repeat r (drop n (drop at text))) ∙ ap (λ (t : List ℕ). plus (at + n) (repeat r t)) (drop_drop at n text)) ∙ w

pub one_attribute : (text rest : List ℕ) (at n : ℕ) (whole : Option ℕ) → rest ≡ drop at text → Some n ≡ attribute rest → plus at (repeat attribute (drop at text)) ≡ whole
    → plus (at + n) (repeat attribute (drop (at + n) text)) ≡ whole
one_attribute = one_more attribute attribute_goes

pub attribute_some : (t rest : List ℕ) (at n : ℕ) → rest ≡ drop at t → Some n ≡ attribute rest → 0 < n
attribute_some t rest at n e f = (attribute_goes rest n (sym f)).0

pub no_attribute : (text rest : List ℕ) (at : ℕ) (whole : Option ℕ) → rest ≡ drop at text → None ≡ attribute rest → plus at (repeat attribute (drop at text)) ≡ whole → Some at ≡ whole
no_attribute text rest at whole e f w =
    let zero_more : Some at ≡ plus at (Some 0) = ap (λ (n : ℕ). Some n) (omega arith) in
    zero_more ∙ sym (ap (λ (o : Option ℕ). plus at o) (repeat_ends attribute (drop at text) (ap attribute (sym e) ∙ sym f))) ∙ w

-- one pattern after another, as a call finds them
pub then_some : (r s : Reader) (t u : List ℕ) (k n : ℕ) → u ≡ drop k t → Some k ≡ r t → Some n ≡ s u → Some (k + n) ≡ (r then s) t
then_some r s t u k n d e f = ap (λ (o : Option ℕ). plus k o) (f ∙ ap s d) ∙ ap (λ (o : Option ℕ). then_case (λ k. s (drop k t)) o) e

pub then_none : (r s : Reader) (t u : List ℕ) (k : ℕ) → u ≡ drop k t → Some k ≡ r t → None ≡ s u → None ≡ (r then s) t
then_none r s t u k d e f = ap (λ (o : Option ℕ). plus k o) (f ∙ ap s d) ∙ ap (λ (o : Option ℕ). then_case (λ k. s (drop k t)) o) e

pub take_whole : (n : ℕ) (t : List ℕ) → length t ≤ n → take n t ≡ t
take_whole zero [] h = refl
take_whole zero (c ∷ cs) h = absurd (omega (arith, h))
take_whole (suc n) [] h = refl
take_whole (suc n) (c ∷ cs) h = ap (λ (xs : List ℕ). c ∷ xs) (take_whole n cs (omega (arith, h)))

-- what a slice from a place on holds
pub rest_is : (k : ℕ) (t : List ℕ) → take (length t - k) (drop k t) ≡ drop k t
rest_is k t = take_whole (length t - k) (drop k t) (omega (arith, length-drop k t))
