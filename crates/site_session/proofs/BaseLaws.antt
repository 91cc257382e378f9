-- `/` at the ends of a text.
use Rattle.std.proofs.Common.{◌≡◌, ◌≢◌, ◌∙◌, ◌==◌, ◌++◌, ℕ, Bool, true, false, List, [], ◌∷◌, ap, arith, refl, sym}
use Rattle.std.proofs.lemmas.Bool.Decides.{nat_tests}
use Rattle.std.specs.Prelude.{reverse}
use Rattle.std.proofs.lemmas.List.{reverse-append, reverse-reverse}
use Rattle.site_session.specs.Bases.{before_slashes, past_slashes}

pub past_none : (text : List ℕ) → ((rest : List ℕ) → text ≢ 47 ∷ rest) → past_slashes text ≡ text
past_none [] none = refl
past_none (c ∷ cs) none = on (c == 47) refl
  where
    on : (v : Bool) → (c == 47) ≡ v → past_slashes (c ∷ cs) ≡ c ∷ cs
    on true e = let is : c ≡ 47 = grind (arith, nat_tests) in absurd (none cs (ap (λ x. x ∷ cs) is))
    on false e = rw e refl

pub before_one : (text front : List ℕ) → text ≡ front ++ (47 ∷ []) → before_slashes text ≡ before_slashes front
before_one text front e = ap before_slashes e ∙ ap (λ (t : List ℕ). reverse (past_slashes t)) (reverse-append front (47 ∷ []))

pub before_none : (text : List ℕ) → ((front : List ℕ) → text ≢ front ++ (47 ∷ [])) → before_slashes text ≡ text
before_none text none =
    let turned : (rest : List ℕ) → reverse text ≢ 47 ∷ rest = λ rest e. none (reverse rest) (sym (reverse-reverse text) ∙ ap reverse e ∙ reverse-append (47 ∷ []) rest) in
    ap reverse (past_none (reverse text) turned) ∙ reverse-reverse text
