-- The definitions of a text, one after another.
use Rattle.std.proofs.Common.{IfSome, List, None, Option, Some, [], ap, append_assoc, arith, drop, length, option_map, refl, subst, suc, sym, zero, ℕ, ◌++◌, ◌-◌, ◌<◌, ◌∙◌, ◌∷◌, ◌≡◌}
use Rattle.std.proofs.lemmas.List.{append-nil}
use Rattle.markdown_grammar.specs.Definitions.{Definition, definitions, front_definition}
use Rattle.markdown_grammar.proofs.TextRecursions.{definitions_is}
use Rattle.cm_links.specs.Answers.{link_def}
use Rattle.cm_links.specs.Cuts.{IsFront}
use Rattle.cm_links.specs.Table.{definition_of}
use Rattle.cm_links.specs.declared.definitions.LinkDef.{LinkDef}

abbrev definitions_on : List ℕ → Option Definition → List Definition
definitions_on cs o = elim o as (λ x. List Definition) [ Some d ↦ d ∷ definitions (drop (d.size - 1) cs) | None ↦ [] ]

no_more : (t : List ℕ) (o : Option LinkDef) → o ≡ None → o ≡ option_map link_def (front_definition t) → definitions t ≡ []
no_more [] o e h = definitions_is []
no_more (c ∷ cs) o e h = definitions_is (c ∷ cs) ∙ go (front_definition (c ∷ cs)) (sym e ∙ h) where
  go : (f : Option Definition) → None ≡ option_map link_def f → definitions_on cs f ≡ []
  go None h = refl
  go (Some d) h = absurd cc

pub links_done : (t : List ℕ) (o : Option LinkDef) (links whole : List Definition) → o ≡ None → o ≡ option_map link_def (front_definition t) → links ++ definitions t ≡ whole → links ≡ whole
links_done t o links whole e h w = sym (append-nil links) ∙ ap (λ (ds : List Definition). links ++ ds) (sym (no_more t o e h)) ∙ w

pub front_found : (t : List ℕ) (o : Option LinkDef) (found : LinkDef) → o ≡ Some found → IfSome o (λ d. IsFront t d.end) → IsFront t found.end
front_found t None found e h = absurd cc
front_found t (Some d) found e h = let same : d ≡ found = cc in subst (λ (x : LinkDef). IsFront t x.end) same h

one_more : (t : List ℕ) (found : LinkDef) → Some found ≡ option_map link_def (front_definition t) → IsFront t found.end → definitions t ≡ definition_of found ∷ definitions (drop found.end t)
one_more [] found h f = absurd (omega (arith, f.some, f.cut.0))
one_more (c ∷ cs) found h f = definitions_is (c ∷ cs) ∙ go (front_definition (c ∷ cs)) h where
  dropped : (n : ℕ) → 0 < n → drop (n - 1) cs ≡ drop n (c ∷ cs)
  dropped zero lt = absurd (omega (arith, lt))
  dropped (suc n) lt = let e : suc n - 1 ≡ n = omega arith in ap (λ (k : ℕ). drop k cs) e

  go : (o : Option Definition) → Some found ≡ option_map link_def o → definitions_on cs o ≡ definition_of found ∷ definitions (drop found.end (c ∷ cs))
  go None h = absurd cc
  go (Some d) h =
      let same : found ≡ link_def d = cc in
      let size : d.size ≡ found.end = sym (ap (λ (x : LinkDef). x.end) same) in
      ap (λ (ds : List ℕ). d ∷ definitions ds) (dropped d.size (omega (arith, size, f.some)) ∙ ap (λ (n : ℕ). drop n (c ∷ cs)) size)
      ∙ ap (λ (x : LinkDef). definition_of x ∷ definitions (drop found.end (c ∷ cs))) (sym same)

pub links_more : (t u : List ℕ) (o : Option LinkDef) (found : LinkDef) (links more whole : List Definition) → o ≡ Some found → o ≡ option_map link_def (front_definition t) → IsFront t found.end
    → more ≡ links ++ definition_of found ∷ [] → u ≡ drop found.end t → links ++ definitions t ≡ whole → more ++ definitions u ≡ whole
links_more t u o found links more whole e h f a b w =
    ap (λ (ds : List Definition). ds ++ definitions u) a ∙ append_assoc links (definition_of found ∷ []) (definitions u)
    ∙ ap (λ (v : List ℕ). links ++ definition_of found ∷ definitions v) b ∙ ap (λ (ds : List Definition). links ++ ds) (sym (one_more t found (sym e ∙ h) f)) ∙ w

pub links_shorter : (t u : List ℕ) (n : ℕ) → IsFront t n → u ≡ drop n t → length u < length t
links_shorter t u n f e = omega (arith, ap (λ (v : List ℕ). length v) e, drop_length n t, f.some, f.cut.0) where
  drop_length : (n : ℕ) (t : List ℕ) → length (drop n t) ≡ length t - n
  drop_length zero t = omega arith
  drop_length (suc n) [] = omega arith
  drop_length (suc n) (c ∷ cs) = omega (arith, drop_length n cs)
