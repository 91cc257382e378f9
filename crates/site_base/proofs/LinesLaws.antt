-- The first line of a text, by its length.
use Rattle.std.proofs.Common.{◌≡◌, ℕ, zero, suc, ◌+◌, ◌-◌, ◌<◌, ◌≤◌, Bool, true, false, cond, eqb, List, [], ◌∷◌, length, take, drop, get_or, refl, sym, ap, ◌∙◌, arith, slice_range}
use Rattle.std.specs.List.{onto_first}
use Rattle.std.proofs.lemmas.List.{at_drop_more, drop_all, drop-drop, length-drop}
use Rattle.site_base.specs.Lines.{begins_lf, ends_line, lines}

abbrev pub line_len : List ℕ → ℕ
line_len [] = 0
line_len (c ∷ cs) = cond (ends_line c cs) 1 (suc (line_len cs))

-- the rest of the text begins with LF
pub begins_lf_at : (bs : List ℕ) (i : ℕ) → begins_lf (drop i bs) ≡ eqb (get_or bs i 0) 10
begins_lf_at [] zero = refl
begins_lf_at [] (suc i) = refl
begins_lf_at (b ∷ bs) zero = refl
begins_lf_at (b ∷ bs) (suc i) = begins_lf_at bs i

step : (b : Bool) (c : ℕ) (cs : List ℕ) → onto_first c (lines cs) ≡ (c ∷ take (line_len cs) cs) ∷ lines (drop (line_len cs) cs)
    → cond b ((c ∷ []) ∷ lines cs) (onto_first c (lines cs)) ≡ take (cond b 1 (suc (line_len cs))) (c ∷ cs) ∷ lines (drop (cond b 1 (suc (line_len cs))) (c ∷ cs))
step true c cs h = refl
step false c cs h = h

-- the first line, and the others
pub first_line : (c : ℕ) (cs : List ℕ) → lines (c ∷ cs) ≡ take (line_len (c ∷ cs)) (c ∷ cs) ∷ lines (drop (line_len (c ∷ cs)) (c ∷ cs))
unfolding lines
first_line c [] = step (ends_line c []) c [] refl
first_line c (d ∷ ds) = step (ends_line c (d ∷ ds)) c (d ∷ ds) (ap (onto_first c) (first_line d ds))

first_line_of : (xs : List ℕ) → 0 < length xs → lines xs ≡ take (line_len xs) xs ∷ lines (drop (line_len xs) xs)
first_line_of [] lt = absurd (omega arith)
first_line_of (c ∷ cs) lt = first_line c cs

-- the line that starts at a place, and the lines after it
pub line_at : (bs : List ℕ) (at e : ℕ) → at < length bs → e ≡ at + line_len (drop at bs) → lines (drop at bs) ≡ slice_range bs at e ∷ lines (drop e bs)
line_at bs at e lt h =
    let n : e - at ≡ line_len (drop at bs) = omega arith in
    let rest : drop (line_len (drop at bs)) (drop at bs) ≡ drop e bs = drop-drop (line_len (drop at bs)) at bs ∙ ap (λ k. drop k bs) (sym h) in
    first_line_of (drop at bs) (omega (arith, length-drop at bs)) ∙ rw (rest, ← n) refl

pub no_lines : (bs : List ℕ) (at : ℕ) → length bs ≤ at → lines (drop at bs) ≡ []
unfolding lines
no_lines bs at le = rw (drop_all at bs le) refl

pub line_len_at : (bs : List ℕ) (i : ℕ) → i < length bs → line_len (drop i bs) ≡ cond (ends_line (get_or bs i 0) (drop (i + 1) bs)) 1 (suc (line_len (drop (i + 1) bs)))
line_len_at bs i lt = at_drop_more line_len bs i 0 lt
