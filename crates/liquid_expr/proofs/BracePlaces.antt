-- No piece starts at a byte that is no brace.
use Rattle.std.proofs.Common.{◌≡◌, ℕ, zero, suc, ◌+◌, ◌-◌, ◌<◌, ◌≤◌, ◌==◌, Bool, true, false, List, [], ◌∷◌, length, drop, refl, sym, ap, ◌∙◌, arith, eqb}
use Rattle.std.proofs.lemmas.Bool.{eqb-false, ne_eqb}
use Rattle.std.proofs.lemmas.List.{drop-drop, length-drop}
use Rattle.liquid_grammar.specs.Pieces.{first_place, opens}
use Rattle.memchr.specs.Find.{Nowhere, Passes, is_byte}
use Rattle.liquid_expr.proofs.PlacesLaws.{place_step}

no_brace : (c : ℕ) (cs : List ℕ) → (c == 123) ≡ false → opens (c ∷ cs) ≡ false
no_brace c cs e =
    let other : eqb 123 c ≡ false = ne_eqb 123 c (λ h. eqb-false c 123 e (sym h)) in
    rw other refl

not_true : (b : Bool) → ¬ (b ≡ true) → b ≡ false
not_true true h = absurd (h refl)
not_true false h = refl

pub skips : (bs : List ℕ) (n : ℕ) → n ≤ length bs → Nowhere (Passes (is_byte 123) bs) 0 n → n + first_place opens (drop n bs) ≡ first_place opens bs
skips [] zero le h = omega arith
skips [] (suc n) le h = absurd (omega arith)
skips (c ∷ cs) zero le h = omega arith
skips (c ∷ cs) (suc n) le h =
    let other : opens (c ∷ cs) ≡ false = no_brace c cs (not_true (c == 123) (h 0 (omega arith) (omega arith))) in
    let rest = skips cs n (omega arith) (λ k _ lt. h (suc k) (omega arith) (omega arith)) in
    let here : first_place opens (c ∷ cs) ≡ suc (first_place opens cs) = rw other refl in
    omega arith

-- a byte at which no piece starts, and then some that are no braces
pub skips_on : (bs rest behind : List ℕ) (i n : ℕ) → i < length bs → rest ≡ drop i bs → opens rest ≡ false → behind ≡ drop 1 rest → n ≤ length behind
    → n + first_place opens (drop n behind) ≡ first_place opens behind → i + first_place opens (drop i bs) ≡ 0 + first_place opens bs
    → (i + (1 + n) ≤ length bs) × ((i + (1 + n)) + first_place opens (drop (i + (1 + n)) bs) ≡ 0 + first_place opens bs)
skips_on bs rest behind i n lt e shut f le skip so_far =
    let here : opens (drop i bs) ≡ false = ap opens (sym e) ∙ shut in
    let one : first_place opens (drop i bs) ≡ suc (first_place opens (drop (i + 1) bs)) = place_step opens bs i lt ∙ rw here refl in
    let t : behind ≡ drop (i + 1) bs = f ∙ ap (drop 1) e ∙ drop-drop 1 i bs in
    let len : length behind ≡ length bs - (i + 1) = ap length t ∙ length-drop (i + 1) bs in
    let all : drop n behind ≡ drop (i + (1 + n)) bs = ap (drop n) t ∙ drop-drop n (i + 1) bs ∙ ap (λ k. drop k bs) (let k : i + 1 + n ≡ i + (1 + n) = omega arith in k) in
    let moved : n + first_place opens (drop (i + (1 + n)) bs) ≡ first_place opens (drop (i + 1) bs) = ap (λ xs. n + first_place opens xs) (sym all) ∙ skip ∙ ap (first_place opens) t in
    (omega arith, omega arith)
