-- What is put under a name where nothing stands there.
use Rattle.std.proofs.Common.{◌≡◌, Bool, true, false, cond, Option, Some, None, Bor, refl, sym, ap, ◌∙◌}
use Rattle.std.specs.Option.{option_copied, option_or}

pub copied-cond : {T : Type 0} (b : Bool) (v : Bor T) (o : Option (Bor T)) → option_copied (cond b (Some v) o) ≡ cond b (Some v.now) (option_copied o)
copied-cond true v o = refl
copied-cond false v o = refl

or-none : {A : Type 0} (o : Option A) → o ≡ option_or o None
or-none None = refl
or-none (Some a) = refl

module _ {K A : Type 0} (same : K → K → Bool) (one : (a b : K) → same a b ≡ true → a ≡ b) (f : K → Option A) (k q : K) (v : A) where
  -- what stands there stays
  pub stays : (first : A) → f k ≡ Some first → f q ≡ option_or (f q) (cond (same k q) (Some v) None)
  stays first e = at (same k q) refl
    where
      at : (b : Bool) → same k q ≡ b → f q ≡ option_or (f q) (cond b (Some v) None)
      at true t = let here : f q ≡ Some first = ap f (sym (one k q t)) ∙ e in ap (λ (o : Option A). o) here ∙ sym (ap (λ (o : Option A). option_or o (Some v)) here)
      at false t = or-none (f q)

  -- and where nothing does, the new one is there
  pub fresh : f k ≡ None → cond (same k q) (Some v) (f q) ≡ option_or (f q) (cond (same k q) (Some v) None)
  fresh e = at (same k q) refl
    where
      at : (b : Bool) → same k q ≡ b → cond b (Some v) (f q) ≡ option_or (f q) (cond b (Some v) None)
      at true t = let here : f q ≡ None = ap f (sym (one k q t)) ∙ e in sym (ap (λ (o : Option A). option_or o (Some v)) here)
      at false t = or-none (f q)
