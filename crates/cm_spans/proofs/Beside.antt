-- The characters beside a run of marks.
use Rattle.std.proofs.Common.{◌≡◌, ◌∙◌, Bool, List, [], ap, arith, cond, drop, false, get_or, length, nat_lt, not, refl, reverse, suc, sym, take, true, zero, ℕ, ◌++◌, ◌*◌, ◌+◌, ◌-◌, ◌<◌, ◌∷◌, ◌≤◌}
use Rattle.std.specs.Str.{IsCharBoundary, chars, chars_after, continuation_len, lead_bits}
use Rattle.std.proofs.lemmas.List.{length-drop, length-reverse, reverse-append, reverse-reverse, take-append-drop}
use Rattle.std.proofs.Math.Seq.{take-append_seam}
use Rattle.markdown_grammar.specs.Flanking.{char_after, is_lead, lead_size}
use Rattle.site_text.specs.Fronts.{run_len}
use Rattle.cm_starts.proofs.Ends.{last_of}
use Rattle.cm_starts.proofs.Repeats.{take_whole}

-- ---- the character behind

-- a character's first bytes decide alone
head_after : (n c : ℕ) (bs : List ℕ) → get_or (chars_after n c (take n bs)) 0 10 ≡ get_or (chars_after n c bs) 0 10
head_after zero c [] = refl
head_after zero c (b ∷ bs) = refl
head_after (suc n) c [] = refl
head_after (suc n) c (b ∷ bs) = head_after n (c * 64 + (b - 128)) bs

size_is : (b : ℕ) → lead_size b ≡ suc (continuation_len b)
size_is b = go (nat_lt b 128) (nat_lt b 224) (nat_lt b 240) where
  go : (x y z : Bool) → cond x 1 (cond y 2 (cond z 3 4)) ≡ suc (cond x 0 (cond y 1 (cond z 2 3)))
  go true y z = refl
  go false true z = refl
  go false false true = refl
  go false false false = refl

pub after_is : (t : List ℕ) → get_or (chars t) 0 10 ≡ char_after t
unfolding chars
after_is [] = refl
after_is (b ∷ bs) =
    sym (ap (λ (n : ℕ). get_or (chars (take n (b ∷ bs))) 0 10) (size_is b) ∙ head_after (continuation_len b) (lead_bits b) bs)

-- ---- the character before

abbrev pub follows : ℕ → Bool
follows b = not (is_lead b)

front_of_reverse : (xs ys : List ℕ) → reverse (take (length xs) (reverse (ys ++ reverse xs))) ≡ reverse xs
front_of_reverse xs ys =
    ap (λ (u : List ℕ). reverse (take (length xs) u)) (reverse-append ys (reverse xs) ∙ ap (λ (u : List ℕ). u ++ reverse ys) (reverse-reverse xs))
    ∙ ap (λ (u : List ℕ). reverse u) (take-append_seam xs (reverse ys))

-- the end of a text, seen from behind
back_part : (t : List ℕ) (k : ℕ) → k ≤ length t → reverse (take k (reverse t)) ≡ drop (length t - k) t
back_part t k le =
    let m = length t - k in
    let d = drop m t in
    let size : length (reverse d) ≡ k = length-reverse d ∙ (let e : length d ≡ k = omega (arith, length-drop m t, le) in e) in
    let whole : take m t ++ reverse (reverse d) ≡ t = ap (λ (u : List ℕ). take m t ++ u) (reverse-reverse d) ∙ take-append-drop m t in
    sym (ap (λ (j : ℕ). reverse (take j (reverse t))) size)
    ∙ sym (ap (λ (u : List ℕ). reverse (take (length (reverse d)) (reverse u))) whole)
    ∙ front_of_reverse (reverse d) (take m t) ∙ reverse-reverse d

back_all : (t : List ℕ) (k : ℕ) → length t ≤ k → reverse (take k (reverse t)) ≡ t
back_all t k le = ap (λ (u : List ℕ). reverse u) (take_whole k (reverse t) (omega (arith, length-reverse t, le))) ∙ reverse-reverse t

abbrev run_case : List ℕ → Bool → ℕ
run_case cs b = elim b as (λ x. ℕ) [ true ↦ suc (run_len follows cs) | false ↦ 0 ]

abbrev pub SoFar : List ℕ → ℕ → Type 0
SoFar t end = length t - end + run_len follows (reverse (take end t)) ≡ run_len follows (reverse t)

pub start_init : (t : List ℕ) (end : ℕ) → end ≡ length t → SoFar t end
start_init t end e = omega (arith, e, ap (λ (u : List ℕ). run_len follows (reverse u)) (take_whole end t (omega (arith, e))))

pub start_more : (t : List ℕ) (end : ℕ) → 0 < end → end ≤ length t → is_lead (get_or t (end - 1) 0) ≡ false → SoFar t end → SoFar t (end - 1)
start_more t end some within h e =
    let b = get_or t (end - 1) 0 in
    let back = reverse (take (end - 1) t) in
    let more : run_len follows (reverse (take end t)) ≡ suc (run_len follows back) = ap (λ (u : List ℕ). run_len follows u) (last_of t end some within) ∙ ap (λ (x : Bool). run_case back (not x)) h in
    omega (arith, more, e, some, within)

pub start_here : (t u : List ℕ) (end : ℕ) → u ≡ drop (end - 1) t → 0 < end → end ≤ length t → is_lead (get_or t (end - 1) 0) ≡ true → SoFar t end → u ≡ reverse (take (suc (run_len follows (reverse t))) (reverse t))
start_here t u end d some within h e =
    let none : run_len follows (reverse (take end t)) ≡ 0 = ap (λ (u : List ℕ). run_len follows u) (last_of t end some within) ∙ ap (λ (x : Bool). run_case (reverse (take (end - 1) t)) (not x)) h in
    let size : suc (run_len follows (reverse t)) ≡ length t - (end - 1) = omega (arith, none, e, some, within) in
    let back : length t - (length t - (end - 1)) ≡ end - 1 = omega (arith, some, within) in
    d ∙ sym (ap (λ (k : ℕ). reverse (take k (reverse t))) size ∙ back_part t (length t - (end - 1)) (omega arith) ∙ ap (λ (k : ℕ). drop k t) back)

pub start_none : (t : List ℕ) (end : ℕ) → end ≡ 0 → SoFar t end → t ≡ reverse (take (suc (run_len follows (reverse t))) (reverse t))
start_none t end z e =
    let all : length t ≤ suc (run_len follows (reverse t)) = omega (arith, z, e) in
    sym (back_all t (suc (run_len follows (reverse t))) all)

pub start_cut : (t : List ℕ) (end : ℕ) → 0 < end → end ≤ length t → is_lead (get_or t (end - 1) 0) ≡ true → IsCharBoundary t (end - 1)
start_cut t end some within h = (omega (arith, some, within), λ lt big. led (get_or t (end - 1) 0) h big) where
  led : (b : ℕ) → is_lead b ≡ true → 128 ≤ b → 192 ≤ b
  led b h big = grind arith
