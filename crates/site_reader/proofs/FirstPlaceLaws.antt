-- First places of texts, from the last text to the first.
use Rattle.std.proofs.Common.{◌≡◌, ℕ, ◌+◌, ◌≤◌, Bool, true, false, not, cond, List, length, drop, Option, Some, None, refl, sym, ap, ◌∙◌, arith}
use Rattle.std.proofs.lemmas.Bool.{ltb-false}
use Rattle.std.proofs.lemmas.Iterator.Adapters.{position_from-zero}
use Rattle.std.proofs.lemmas.List.Sums.{prefix_len-le-length}
use Rattle.std.proofs.lemmas.Option.{get_or_from_slice_get, same_Some, slice_get_within}
use Rattle.std.specs.List.{position_from}
use Rattle.std.specs.Prelude.{nat_lt, slice_get}
use Rattle.std.specs.Str.{bytes_eq}
use Rattle.site_reader.specs.FirstPlaces.{first_place}
use Rattle.site_reader.proofs.EachLaws.{at_front, none_left}

-- the first place of a text among those from a place on
abbrev pub place_from : List ℕ → ℕ → List (List ℕ) → Option ℕ
place_from x n texts = position_from (λ t. bytes_eq t x) n texts

pub none_yet : (texts : List (List ℕ)) (x : List ℕ) (n : ℕ) (old : Option ℕ) → length texts ≤ n → old ≡ None → old ≡ place_from x n (drop n texts)
none_yet texts x n old le e = e ∙ ap (place_from x n) (sym (none_left texts n le))

-- the one before stands in place of what was found behind it
pub one_before : (texts : List (List ℕ)) (x t : List ℕ) (p n : ℕ) (old new : Option ℕ) → p + 1 ≡ n → slice_get texts p ≡ Some t
    → new ≡ cond (bytes_eq t x) (Some p) old → old ≡ place_from x n (drop n texts) → new ≡ place_from x p (drop p texts)
one_before texts x t p n old new next there now was =
    now ∙ ap (cond (bytes_eq t x) (Some p)) (was ∙ ap (λ m. place_from x m (drop m texts)) (sym next))
    ∙ ap (place_from x p) (sym (at_front texts p t (slice_get_within texts p t there) (sym (get_or_from_slice_get texts p t t there))))

module _ (texts : List (List ℕ)) (x : List ℕ) where
  abbrev within : Bool
  within = nat_lt (first_place texts x) (length texts)

  pub found : (p : ℕ) → Some p ≡ place_from x 0 texts → p ≡ first_place texts x
  found p e = by within (e ∙ sym (position_from-zero (λ t. bytes_eq t x) texts))
    where
      by : (b : Bool) → Some p ≡ cond b (Some (first_place texts x)) None → p ≡ first_place texts x
      by true is = same_Some p (first_place texts x) is
      by false is = absurd (cc (is))

  pub absent : None ≡ place_from x 0 texts → length texts ≡ first_place texts x
  absent e = by within refl (e ∙ sym (position_from-zero (λ t. bytes_eq t x) texts))
    where
      by : (b : Bool) → nat_lt (first_place texts x) (length texts) ≡ b → None ≡ cond b (Some (first_place texts x)) None → length texts ≡ first_place texts x
      by true is none = absurd (cc (none))
      by false is none = omega (arith, ltb-false (first_place texts x) (length texts) is, prefix_len-le-length (λ t. not (bytes_eq t x)) texts)
