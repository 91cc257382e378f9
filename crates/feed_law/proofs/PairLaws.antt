-- What stands at a key of pairs behind what is set at another.
use Rattle.std.proofs.Common.{◌≡◌, ◌∙◌, refl, ap, sym, subst, ℕ, Bool, true, false, List, Option, Some, None, if◌then◌else◌}
use Rattle.std.specs.Str.{bytes_eq}
use Rattle.site_base.specs.Plain.{Plain, Pairs, no_pairs, pair, get, set}
use Rattle.site_base.proofs.Entries.{same_text, text_same}

module _ (x l : List ℕ) (v : Plain) (other : bytes_eq x l ≡ false) where
  pub other_set : (ps : Pairs) → get x (set l v ps) ≡ get x ps
  other_set no_pairs = ap (λ (b : Bool). if b then Some v else None) other
  other_set (pair m w ps) = by (bytes_eq l m) refl (other_set ps)
    where
      by : (b : Bool) → bytes_eq l m ≡ b → get x (set l v ps) ≡ get x ps → get x (if b then pair m v ps else pair m w (set l v ps)) ≡ get x (pair m w ps)
      by true is rest =
          let apart : bytes_eq x m ≡ false = subst (λ (k : List ℕ). bytes_eq x k ≡ false) (same_text l m is) other in
          ap (λ (b : Bool). if b then Some v else get x ps) apart ∙ sym (ap (λ (b : Bool). if b then Some w else get x ps) apart)
      by false is rest = ap (λ (o : Option Plain). if bytes_eq x m then Some w else o) rest

module _ (l : List ℕ) (v : Plain) where
  pub same_set : (ps : Pairs) → get l (set l v ps) ≡ Some v
  same_set no_pairs = ap (λ (b : Bool). if b then Some v else None) (text_same l l refl)
  same_set (pair m w ps) = by (bytes_eq l m) refl (same_set ps)
    where
      by : (b : Bool) → bytes_eq l m ≡ b → get l (set l v ps) ≡ Some v → get l (if b then pair m v ps else pair m w (set l v ps)) ≡ Some v
      by true is rest = ap (λ (b : Bool). if b then Some v else get l ps) is
      by false is rest = ap (λ (b : Bool). if b then Some w else get l (set l v ps)) is ∙ rest
