-- What a text lacks, the rest of it lacks too.
use Rattle.std.proofs.Common.{◌≡◌, ◌∙◌, Bool, List, None, Option, Some, [], ap, arith, drop, false, length, nat_lt, refl, subst, suc, sym, take, true, zero, ℕ, ◌+◌, ◌-◌, ◌<◌, ◌∷◌, ◌≤◌, codes}
use Rattle.std.proofs.Math.Seq.{drop-length}
use Rattle.std.proofs.lemmas.List.{drop-drop, length-drop}
use Rattle.site_text.specs.Fronts.{begins_with}
use Rattle.markdown_grammar.specs.Readers.{plus, to}
use Rattle.cm_starts.proofs.Repeats.{rest_is}
use Rattle.cm_spans.specs.Missing.{Lacks, LacksRuns, LacksWord}
use Rattle.cm_spans.proofs.RunLaws.{runs_later}
use Rattle.cm_spans.specs.declared.missing_ends.MissingEnds.{MissingEnds}
use Rattle.cm_spans.specs.declared.missing_runs.MissingRuns.{MissingRuns}

plus_none : (o : Option ℕ) → plus 1 o ≡ None → o ≡ None
plus_none None h = refl
plus_none (Some k) h = absurd cc

-- a word that does not stand in a text does not stand in its rest
to_drop : (w t : List ℕ) (k : ℕ) → to w t ≡ None → to w (drop k t) ≡ None
to_drop w t zero h = h
to_drop w [] (suc k) h = refl
to_drop w (c ∷ cs) (suc k) h = go (begins_with w (c ∷ cs)) h (to_drop w cs k) where
  go : (b : Bool) → elim b as (λ v. Option ℕ) [ true ↦ Some (length w) | false ↦ plus 1 (to w cs) ] ≡ None → (to w cs ≡ None → to w (drop k cs) ≡ None) → to w (drop k cs) ≡ None
  go true g rest = absurd cc
  go false g rest = rest (plus_none (to w cs) g)

pub lacks_later : (w t : List ℕ) (n k : ℕ) → LacksWord w n t → LacksWord w n (drop k t)
lacks_later w t n k h =
    let i = length (drop k t) - n in
    let j = k + i - (length t - n) in
    let place : length t - n + j ≡ k + i = omega (arith, length-drop k t) in
    ap (to w) (drop-drop i k t ∙ sym (ap (λ (m : ℕ). drop m t) place) ∙ sym (drop-drop j (length t - n) t)) ∙ to_drop w (drop (length t - n) t) j h

lacks_back : (w t : List ℕ) (n k : ℕ) → k ≤ length t → n ≤ length (drop k t) → LacksWord w n (drop k t) → LacksWord w n t
lacks_back w t n k le small h =
    let place : k + (length (drop k t) - n) ≡ length t - n = omega (arith, length-drop k t, le, small) in
    ap (to w) (sym (drop-drop (length (drop k t) - n) k t ∙ ap (λ (m : ℕ). drop m t) place)) ∙ h

-- the rest of a slice
pub lacks_slice : (w t rest : List ℕ) (n k : ℕ) → rest ≡ take (length t - k) (drop k t) → LacksWord w n t → LacksWord w n rest
lacks_slice w t rest n k e h = subst (LacksWord w n) (sym (e ∙ rest_is k t)) (lacks_later w t n k h)

-- what was found of the rest holds of the whole
pub lacks_whole : (w t rest : List ℕ) (k old new : ℕ) → k ≤ length t → rest ≡ take (length t - k) (drop k t) → LacksWord w old t → LacksWord w new rest → (length rest < new → new ≡ old) → LacksWord w new t
lacks_whole w t rest k old new le e h found same = go (nat_lt (length rest) new) refl where
  go : (b : Bool) → nat_lt (length rest) new ≡ b → LacksWord w new t
  go true g = let lt : length rest < new = grind (arith, g) in subst (λ (n : ℕ). LacksWord w n t) (sym (same lt)) h
  go false g =
      let is : rest ≡ drop k t = e ∙ rest_is k t in
      let small : new ≤ length (drop k t) = grind (arith, g, ap (λ (u : List ℕ). length u) is) in
      lacks_back w t new k le small (subst (LacksWord w new) is found)

-- nothing is known to be missing
none_missing : (w t : List ℕ) → LacksWord w 0 t
none_missing w t = let all : length t - 0 ≡ length t = omega arith in ap (λ (n : ℕ). to w (drop n t)) all ∙ ap (to w) (drop-length t)

pub lacks_none : (runs : MissingRuns) (t : List ℕ) → LacksRuns runs.known.items t → Lacks (record { comment = 0; instruction = 0; declaration = 0; cdata = 0; backticks = runs }) t
lacks_none runs t h = record { comment = none_missing (codes "-->") t; instruction = none_missing (codes "?>") t; declaration = none_missing (codes ">") t; cdata = none_missing (codes "]]>") t; backticks = h }

pub lacks_all_later : (e : MissingEnds) (t : List ℕ) (k : ℕ) → Lacks e t → Lacks e (drop k t)
lacks_all_later e t k h = record {
  comment = lacks_later (codes "-->") t e.comment k h.comment;
  instruction = lacks_later (codes "?>") t e.instruction k h.instruction;
  declaration = lacks_later (codes ">") t e.declaration k h.declaration;
  cdata = lacks_later (codes "]]>") t e.cdata k h.cdata;
  backticks = runs_later e.backticks.known.items t k h.backticks;
}
