-- Where a text may be cut: after what is ASCII.
use Rattle.std.proofs.Common.{◌≡◌, ◌∙◌, List, [], ◌∷◌, ℕ, ◌+◌, ◌<◌, ◌==◌, arith, drop, false, get_or, length, not, refl, subst, suc, sym, true, IsUtf8}
use Rattle.std.specs.Str.{IsCharBoundary}
use Rattle.std.proofs.lemmas.Str.{IsCharBoundary-start}
use Rattle.site_text.specs.Bytes.{is_letter}
use Rattle.site_text.specs.Fronts.{first_byte}
use Rattle.site_text.specs.Classes.{is_in}
use Rattle.site_text.specs.declared.classes.Class.{Class}
use Rattle.site_text.specs.Fronts.{run_len}
use Rattle.site_text.proofs.Runs.{boundary_byte, run_stops}
use Rattle.link_check.specs.Quotes.{IsQuoted}
use Rattle.link_check.specs.Tags.{begins_attribute}

-- after a first byte of ASCII
pub first_cut : (t : List ℕ) → IsUtf8 t → 0 < length t → first_byte t < 128 → IsCharBoundary t 1
first_cut [] u lt small = absurd (omega (arith, lt))
first_cut (c ∷ cs) u lt small = boundary_byte (c ∷ cs) 0 c u lt refl small

pub start_cut : (t : List ℕ) → IsUtf8 t → IsCharBoundary t 0
start_cut t u = IsCharBoundary-start t u

pub letter_cut : (t : List ℕ) → IsUtf8 t → is_letter (first_byte t) ≡ true → IsCharBoundary t 1
letter_cut [] u e = absurd cc
letter_cut (c ∷ cs) u e = first_cut (c ∷ cs) u (omega arith) (grind (arith, e))

pub attribute_cut : (t : List ℕ) → IsUtf8 t → begins_attribute (first_byte t) ≡ true → IsCharBoundary t 1
attribute_cut [] u e = absurd cc
attribute_cut (c ∷ cs) u e = first_cut (c ∷ cs) u (omega arith) (grind (arith, e))

-- after the quote that ends what a quote begins
pub quoted_cut : (others : Class) (t : List ℕ) (n : ℕ) → IsUtf8 t → IsQuoted others t → n ≡ run_len (is_in others) (drop 1 t) → n < length (drop 1 t) → IsCharBoundary t (n + 2)
quoted_cut others [] n u q e lt = absurd (omega (arith, q.some))
quoted_cut others (c ∷ cs) n u q e lt =
    let stop : not (get_or cs n 0 == c) ≡ false = sym (q.differ (get_or cs n 0)) ∙ run_stops (is_in others) cs n e lt in
    let quote : get_or cs n 0 ≡ c = grind (arith, stop) in
    let place : suc n + 1 ≡ n + 2 = omega arith in
    subst (IsCharBoundary (c ∷ cs)) place (boundary_byte (c ∷ cs) (suc n) c u (omega (arith, lt)) quote q.ascii)
