-- A text and a shape, byte by byte.
use Rattle.std.proofs.Common.{◌≡◌, ℕ, ◌+◌, ◌<◌, ◌&&◌, Bool, true, false, List, [], ◌∷◌, length, drop, get_or, refl, arith, drop-cons, add-one}
use Rattle.site_dates.specs.Shape.{fits, begins}

-- a text that is shorter than the shape
pub too_short : (shape text : List ℕ) → length text < length shape → begins shape text ≡ false
too_short [] text lt = absurd (omega arith)
too_short (mark ∷ shape) [] lt = refl
too_short (mark ∷ shape) (b ∷ text) lt = rw (too_short shape text (omega arith)) (and_false (fits mark b))
  where
    and_false : (x : Bool) → (x && false) ≡ false
    and_false true = refl
    and_false false = refl

-- one byte of both
pub one_more : (shape text : List ℕ) (k : ℕ) → k < length shape → k < length text → begins (drop k shape) (drop k text) ≡ (fits (get_or shape k 0) (get_or text k 0) && begins (drop (k + 1) shape) (drop (k + 1) text))
one_more shape text k lt less = rw (add-one, drop-cons shape k 0, drop-cons text k 0) refl
