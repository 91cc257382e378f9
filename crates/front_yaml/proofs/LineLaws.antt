-- The indent of a line and what stands after it.
use Rattle.std.proofs.Common.{◌≡◌, ℕ, zero, suc, ◌+◌, ◌-◌, ◌^◌, ◌<◌, ◌≤◌, Bool, true, false, ◌||◌, cond, List, [], ◌∷◌, ◌++◌, length, length-drop, take, drop, refl, ap, sym, append_assoc, append-nil, drop_of_length-le, ◌∙◌, arith}
use Rattle.std.specs.Prelude.{◌==◌}
use Rattle.std.proofs.lemmas.Bool.Decides.{nat_tests}
use Rattle.site_base.specs.Lines.{lines}
use Rattle.front_yaml.specs.Bytes.{starts, repeated, is_white, white_len}
use Rattle.front_yaml.specs.TextLines.{Line, spaces, numbered}
use Rattle.front_yaml.specs.BlockScalars.{starts_white}
use Rattle.front_yaml.specs.Yaml.{is_three, is_start_text}
use Rattle.front_yaml.proofs.Prefixes.{prefix_more, prefix_none}

space-count : (t : Bool) (c : ℕ) (cs : List ℕ) → (c == 32) ≡ t → spaces (c ∷ cs) ≡ cond t (suc (spaces cs)) 0
space-count true c cs e = prefix_more (λ b. b == 32) c cs e
space-count false c cs e = prefix_none (λ b. b == 32) c cs e

pub spaces-repeated : (n : ℕ) (r : List ℕ) → starts 32 r ≡ false → spaces (repeated n 32 ++ r) ≡ n
spaces-repeated zero [] e = refl
spaces-repeated zero (c ∷ cs) e = space-count false c cs e
spaces-repeated (suc n) r e = space-count true 32 (repeated n 32 ++ r) refl ∙ ap (λ k. suc k) (spaces-repeated n r e)

pub drop-repeated : (n : ℕ) (r : List ℕ) → drop n (repeated n 32 ++ r) ≡ r
drop-repeated zero r = refl
drop-repeated (suc n) r = drop-repeated n r

pub inside-is : (n : ℕ) (r : List ℕ) → starts 32 r ≡ false → drop (spaces (repeated n 32 ++ r)) (repeated n 32 ++ r) ≡ r
inside-is n r e = rw (spaces-repeated n r e) (drop-repeated n r)

or-left : (x y : Bool) → x || y ≡ false → x ≡ false
or-left false y e = refl
or-left true y e = e

after_step : (b : Bool) (c : ℕ) (cs : List ℕ) → is_white c ≡ b → starts 32 (drop (white_len cs) cs) ≡ false → starts 32 (drop (white_len (c ∷ cs)) (c ∷ cs)) ≡ false
after_step true c cs e h = ap (λ n. starts 32 (drop n (c ∷ cs))) (prefix_more is_white c cs e) ∙ h
after_step false c cs e h = ap (λ n. starts 32 (drop n (c ∷ cs))) (prefix_none is_white c cs e) ∙ or-left _ _ e

-- no space follows the longest front of white space
pub after_white : (s : List ℕ) → starts 32 (drop (white_len s) s) ≡ false
after_white [] = refl
after_white (c ∷ cs) = after_step (is_white c) c cs refl (after_white cs)

pub after_dash : (s : List ℕ) (n : ℕ) → 0 < length s → n ≡ white_len (drop 1 s) → starts 32 (drop (1 + n) s) ≡ false
after_dash [] n le e = absurd (omega arith)
after_dash (c ∷ cs) n le e =
    let same : 1 + n ≡ suc n = omega arith in
    ap (λ k. starts 32 (drop k (c ∷ cs))) same ∙ ap (λ k. starts 32 (drop k cs)) e ∙ after_white cs

-- ---- a line's text

space-step : (t : Bool) (c : ℕ) (cs : List ℕ) → (c == 32) ≡ t → starts 32 (drop (spaces cs) cs) ≡ false → starts 32 (drop (spaces (c ∷ cs)) (c ∷ cs)) ≡ false
space-step true c cs e h = ap (λ n. starts 32 (drop n (c ∷ cs))) (space-count true c cs e) ∙ h
space-step false c cs e h = ap (λ n. starts 32 (drop n (c ∷ cs))) (space-count false c cs e) ∙ e

-- no space follows the leading spaces
pub after_spaces : (s : List ℕ) → starts 32 (drop (spaces s) s) ≡ false
after_spaces [] = refl
after_spaces (c ∷ cs) = space-step (c == 32) c cs refl (after_spaces cs)

is-space : (c : ℕ) → (c == 32) ≡ true → 32 ≡ c
is-space c e = grind (arith, nat_tests)

again-step : (t : Bool) (c : ℕ) (cs : List ℕ) → (c == 32) ≡ t → repeated (spaces cs) 32 ++ drop (spaces cs) cs ≡ cs → repeated (spaces (c ∷ cs)) 32 ++ drop (spaces (c ∷ cs)) (c ∷ cs) ≡ c ∷ cs
again-step true c cs e h =
    ap (λ n. repeated n 32 ++ drop n (c ∷ cs)) (space-count true c cs e) ∙ ap (λ xs. 32 ∷ xs) h ∙ ap (λ x. x ∷ cs) (is-space c e)
again-step false c cs e h = ap (λ n. repeated n 32 ++ drop n (c ∷ cs)) (space-count false c cs e)

pub spaces_again : (s : List ℕ) → repeated (spaces s) 32 ++ drop (spaces s) s ≡ s
spaces_again [] = refl
spaces_again (c ∷ cs) = again-step (c == 32) c cs refl (spaces_again cs)

length_take_le : (n : ℕ) (s : List ℕ) → length (take n s) ≤ length s
length_take_le zero s = omega arith
length_take_le (suc n) [] = omega arith
length_take_le (suc n) (c ∷ cs) = let h = length_take_le n cs in omega (arith, h)

pub cut_fits : (line text rest : List ℕ) (n k : ℕ) → text ≡ take n line → rest ≡ drop k text → k ≤ length text → length line < 2 ^ 63 → k + length rest < 2 ^ 63
cut_fits line text rest n k p q le lt = omega (arith, ap length p, ap length q, length-drop k text, length_take_le n line)

-- ---- the lines of a text

pub lines_done : (done all : List Line) (n at : ℕ) (s : List ℕ) → length s ≤ at → done ++ numbered n (lines (drop at s)) ≡ all → done ≡ all
unfolding lines
lines_done done all n at s le e = sym (append-nil done) ∙ ap (λ xs. done ++ numbered n (lines xs)) (sym (drop_of_length-le s le)) ∙ e

-- ---- a line from a column on

white-step : (t : Bool) (c : ℕ) (cs : List ℕ) (k : ℕ) → (c == 32) ≡ t → k < spaces (c ∷ cs) → ((j : ℕ) → j < spaces cs → starts_white (drop j cs) ≡ true) → starts_white (drop k (c ∷ cs)) ≡ true
white-step true c cs zero e lt h = rw e refl
white-step true c cs (suc k) e lt h = h k (let n = space-count true c cs e in omega (arith, n))
white-step false c cs k e lt h = let n = space-count false c cs e in absurd (omega (arith, n))

-- white space stands before the end of the leading spaces
pub white_before : (s : List ℕ) (k : ℕ) → k < spaces s → starts_white (drop k s) ≡ true
white_before [] k lt = absurd (omega arith)
white_before (c ∷ cs) k lt = white-step (c == 32) c cs k refl lt (white_before cs)

left-step : (t : Bool) (c : ℕ) (cs : List ℕ) (k : ℕ) → (c == 32) ≡ t → k < spaces (c ∷ cs)
    → ((j : ℕ) → j < spaces cs → repeated (spaces cs - j) 32 ++ drop (spaces cs) cs ≡ drop j cs) → repeated (spaces (c ∷ cs) - k) 32 ++ drop (spaces (c ∷ cs)) (c ∷ cs) ≡ drop k (c ∷ cs)
left-step true c cs zero e lt h = let z : spaces (c ∷ cs) - 0 ≡ spaces (c ∷ cs) = omega arith in ap (λ n. repeated n 32 ++ drop (spaces (c ∷ cs)) (c ∷ cs)) z ∙ spaces_again (c ∷ cs)
left-step true c cs (suc k) e lt h =
    let n = space-count true c cs e in
    let m : spaces (c ∷ cs) - suc k ≡ spaces cs - k = omega (arith, n) in
    ap (λ i. repeated i 32 ++ drop (spaces (c ∷ cs)) (c ∷ cs)) m ∙ ap (λ i. repeated (spaces cs - k) 32 ++ drop i (c ∷ cs)) n ∙ h k (omega (arith, n))
left-step false c cs k e lt h = let n = space-count false c cs e in absurd (omega (arith, n))

-- the spaces that are left, and what follows them
pub spaces_left : (s : List ℕ) (k : ℕ) → k < spaces s → repeated (spaces s - k) 32 ++ drop (spaces s) s ≡ drop k s
spaces_left [] k lt = absurd (omega arith)
spaces_left (c ∷ cs) k lt = left-step (c == 32) c cs k refl lt (spaces_left cs)

pub line_added : (old mid new s rest : List ℕ) (n k : ℕ) → mid ≡ old ++ repeated (n - k) 32 → new ≡ mid ++ rest → n ≡ spaces s → rest ≡ drop (spaces s) s → k < n → new ≡ old ++ drop k s
line_added old mid new s rest n k p q r o lt =
    let lt' : k < spaces s = omega (arith, r) in
    rw (q, p, r, o, append_assoc) (ap (λ xs. old ++ xs) (spaces_left s k lt'))

-- ---- markers

three-not : (c : ℕ) (cs : List ℕ) → (c == 45) ≡ false → is_three 45 (c ∷ cs) ≡ false
three-not c [] e = refl
three-not c (x ∷ []) e = refl
three-not c (x ∷ y ∷ cs) e = rw e refl

dash-no-space : (c : ℕ) → (c == 32) ≡ true → (c == 45) ≡ false
dash-no-space c e = grind (arith, nat_tests)

no-start-step : (t : Bool) (c : ℕ) (cs : List ℕ) → (c == 32) ≡ t → (spaces (c ∷ cs) ≡ 0 → ⊥) → is_start_text (c ∷ cs) ≡ false
no-start-step true c cs e ne = rw (three-not c cs (dash-no-space c e)) refl
no-start-step false c cs e ne = absurd (ne (space-count false c cs e))

-- no text behind spaces is `---`
pub no_start : (s : List ℕ) → (spaces s ≡ 0 → ⊥) → is_start_text s ≡ false
no_start [] ne = refl
no_start (c ∷ cs) ne = no-start-step (c == 32) c cs refl ne
