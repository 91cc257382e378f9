use Rattle.std.proofs.Common.{◌≡◌, ◌∙◌, refl, ℕ, Bool, true, false, ◌&&◌, List, [], ◌∷◌}
use lib.Pointwise.{pointwise}
use lib.Dec.{eqb}
use Rattle.markdown_grammar.specs.Fronts.{same_bytes}
use Rattle.cm_links.proofs.names.same_name.Goals as goal

same_is : (a b : List ℕ) → pointwise eqb a b ≡ same_bytes a b
same_is [] [] = refl
same_is [] (d ∷ ds) = refl
same_is (c ∷ cs) [] = refl
same_is (c ∷ cs) (d ∷ ds) = two (eqb c d) (same_is cs ds) where
  two : (e : Bool) → pointwise eqb cs ds ≡ same_bytes cs ds → (e && pointwise eqb cs ds) ≡ elim e as (λ x. Bool) [ true ↦ same_bytes cs ds | false ↦ false ]
  two true h = h
  two false h = refl

pub returns : goal.returns
returns c = c.eq.ensures ∙ same_is c.args.a.now c.args.b.now
