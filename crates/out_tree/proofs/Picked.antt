-- The steps of the entries that pass a test, as a walk over the entries collects them.
use Rattle.std.proofs.Common.{◌≡◌, ℕ, ◌+◌, ◌<◌, ◌≤◌, Bool, true, false, cond, List, [], ◌∷◌, ◌++◌, map, length, refl, sym, ◌∙◌, ap, take, get_or}
use Rattle.std.proofs.lemmas.List.{take_more, take_all, map-append, append-nil}
use Rattle.std.proofs.lemmas.List.Elements.{filter-append}
use Rattle.std.specs.Prelude.{filter}
use Rattle.out_tree.specs.declared.step.Step.{Step}

module _ {X : Type 0} (p : X → Bool) (f : X → Step) (es : List X) (i : ℕ) (e : X) where
  one_more : i < length es → e ≡ get_or es i e → map f (filter p (take (i + 1) es)) ≡ map f (filter p (take i es)) ++ cond (p e) (f e ∷ []) []
  one_more lt at =
      ap (λ xs. map f (filter p xs)) (take_more es i e lt ∙ ap (λ x. take i es ++ x ∷ []) (sym at))
      ∙ ap (map f) (filter-append p (take i es) (e ∷ []))
      ∙ map-append f (filter p (take i es)) (filter p (e ∷ []))
      ∙ ap (λ xs. map f (filter p (take i es)) ++ xs) (single (p e))
    where
      single : (b : Bool) → map f (cond b (e ∷ []) []) ≡ cond b (f e ∷ []) []
      single true = refl
      single false = refl

  -- an entry that passes, whose step was pushed
  pub picked_push : (old new : List Step) (s : Step) → i < length es → e ≡ get_or es i e → p e ≡ true → s ≡ f e → new ≡ old ++ s ∷ [] → old ≡ map f (filter p (take i es)) → new ≡ map f (filter p (take (i + 1) es))
  picked_push old new s lt at passes is added was =
      added ∙ ap (λ l. l ++ s ∷ []) was
      ∙ ap (λ x. map f (filter p (take i es)) ++ x ∷ []) is
      ∙ ap (λ b. map f (filter p (take i es)) ++ cond b (f e ∷ []) []) (sym passes)
      ∙ sym (one_more lt at)

  -- an entry that does not pass
  pub picked_skip : (old new : List Step) → i < length es → e ≡ get_or es i e → p e ≡ false → new ≡ old → old ≡ map f (filter p (take i es)) → new ≡ map f (filter p (take (i + 1) es))
  picked_skip old new lt at fails same was =
      same ∙ was ∙ sym (append-nil (map f (filter p (take i es))))
      ∙ ap (λ b. map f (filter p (take i es)) ++ cond b (f e ∷ []) []) (sym fails)
      ∙ sym (one_more lt at)

-- the walk has seen all entries
pub picked_all : {X : Type 0} (p : X → Bool) (f : X → Step) (es : List X) (i : ℕ) (new : List Step) → length es ≤ i → new ≡ map f (filter p (take i es)) → new ≡ map f (filter p es)
picked_all p f es i new le is = is ∙ ap (λ l. map f (filter p l)) (take_all i es le)
