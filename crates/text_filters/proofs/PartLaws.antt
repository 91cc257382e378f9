-- Where one text stands in another, and the parts there.
use Rattle.std.proofs.Common.{◌≡◌, ◌∙◌, ℕ, zero, suc, ◌-◌, ◌<◌, ◌≤◌, Bool, true, false, cond, List, [], ◌∷◌, ◌++◌, length, take, drop, refl, sym, ap, subst, arith, append_assoc, append-nil, length-append, eq-eqb, ◌==◌}
use Rattle.std.specs.List.{join_by, onto_first}
use Rattle.std.specs.Prelude.{flat_map}
use Rattle.std.specs.Str.Pattern.{FindsText, LacksTextAt, SplitsAroundMatch}
use Rattle.std.proofs.lemmas.Bool.{eqb-true}
use Rattle.std.proofs.lemmas.List.{take-append-drop, drop_at}
use Rattle.site_text.specs.Fronts.{begins_with}
use Rattle.text_filters.specs.Parts.{parts_after, parts}
use Rattle.text_filters.specs.Replacements.{replaced, replaced_once}

abbrev front_cases : List ℕ → List ℕ → Bool → Bool
front_cases ws t b = elim b as (λ x. Bool) [ true ↦ begins_with ws t | false ↦ false ]

pub begins_front : (ms back : List ℕ) → begins_with ms (ms ++ back) ≡ true
begins_front [] back = refl
begins_front (m ∷ ms) back = ap (front_cases ms (ms ++ back)) (eq-eqb m m refl) ∙ begins_front ms back

begins_is : (ms s : List ℕ) → begins_with ms s ≡ true → (rest : List ℕ) × (s ≡ ms ++ rest)
begins_is [] s e = (s, refl)
begins_is (m ∷ ms) [] e = absurd cc
begins_is (m ∷ ms) (c ∷ cs) e = go (m == c) refl (λ h. begins_is ms cs h) e
  where
    go : (b : Bool) → (m == c) ≡ b → (begins_with ms cs ≡ true → (rest : List ℕ) × (cs ≡ ms ++ rest)) → front_cases ms cs b ≡ true → (rest : List ℕ) × (c ∷ cs ≡ (m ∷ ms) ++ rest)
    go true same further h =
        let found = further h in
        (found.0, ap (λ x. x ∷ cs) (sym (eqb-true m c same)) ∙ ap (λ (xs : List ℕ). m ∷ xs) found.1)
    go false same further h = absurd cc

pub begins_lacks : (ms s : List ℕ) → ((rest : List ℕ) → s ≡ ms ++ rest → ⊥) → begins_with ms s ≡ false
begins_lacks ms s none = go (begins_with ms s) refl
  where
    go : (b : Bool) → begins_with ms s ≡ b → b ≡ false
    go true e = let found = begins_is ms s e in absurd (none found.0 found.1)
    go false e = refl

passed : (mark xs back : List ℕ) → parts_after mark (length xs) (xs ++ back) ≡ parts mark back
unfolding parts_after
passed mark [] back = refl
passed mark (x ∷ xs) back = passed mark xs back

abbrev step : List ℕ → ℕ → List ℕ → Bool → List (List ℕ)
step mark c cs b = cond b ([] ∷ parts_after mark (length mark - 1) cs) (onto_first c (parts_after mark 0 cs))

part_step : (mark : List ℕ) (c : ℕ) (cs : List ℕ) (b : Bool) → begins_with mark (c ∷ cs) ≡ b → parts mark (c ∷ cs) ≡ step mark c cs b
unfolding parts_after
part_step mark c cs b e = ap (step mark c cs) e

pub parts_lack : (mark t : List ℕ) → ((i : ℕ) → i ≤ length t → LacksTextAt mark t i) → parts mark t ≡ t ∷ []
unfolding parts_after
parts_lack mark [] none = refl
parts_lack mark (c ∷ cs) none =
    part_step mark c cs false (begins_lacks mark (c ∷ cs) (none 0 (omega arith)))
    ∙ ap (onto_first c) (parts_lack mark cs (λ i le. none (suc i) (omega arith)))

pub parts_found : (mark front back : List ℕ) → 0 < length mark → ((i : ℕ) → i < length front → LacksTextAt mark (front ++ (mark ++ back)) i) → parts mark (front ++ (mark ++ back)) ≡ front ∷ parts mark back
parts_found [] [] back some none = absurd (omega arith)
parts_found (m ∷ ms) [] back some none =
    let one : length (m ∷ ms) - 1 ≡ length ms = omega arith in
    part_step (m ∷ ms) m (ms ++ back) true (begins_front (m ∷ ms) back)
    ∙ ap (λ n. [] ∷ parts_after (m ∷ ms) n (ms ++ back)) one
    ∙ ap (λ (ps : List (List ℕ)). [] ∷ ps) (passed (m ∷ ms) ms back)
parts_found mark (c ∷ front) back some none =
    part_step mark c (front ++ (mark ++ back)) false (begins_lacks mark (c ∷ (front ++ (mark ++ back))) (none 0 (omega arith)))
    ∙ ap (onto_first c) (parts_found mark front back some (λ i lt. none (suc i) (omega arith)))

some_parts : (mark : List ℕ) (n : ℕ) (t : List ℕ) → 0 < length (parts_after mark n t)
unfolding parts_after
some_parts mark n [] = omega arith
some_parts mark (suc n) (c ∷ cs) = some_parts mark n cs
some_parts mark zero (c ∷ cs) = go (begins_with mark (c ∷ cs))
  where
    onto : (ps : List (List ℕ)) → 0 < length (onto_first c ps)
    onto [] = omega arith
    onto (p ∷ ps) = omega arith

    go : (b : Bool) → 0 < length (step mark c cs b)
    go true = omega arith
    go false = onto (parts_after mark 0 cs)

joined_more : (between front : List ℕ) (ps : List (List ℕ)) → 0 < length ps → join_by (λ p. p) between (front ∷ ps) ≡ (front ++ between) ++ join_by (λ p. p) between ps
joined_more between front [] lt = absurd (omega arith)
joined_more between front (p ∷ ps) lt =
    let others = flat_map (λ (q : List ℕ). between ++ q) ps in
    ap (λ (t : List ℕ). front ++ t) (append_assoc between p others) ∙ sym (append_assoc front between (p ++ others))

-- what `split_once` tells
module _ (mark whole front back : List ℕ) (h : SplitsAroundMatch (FindsText mark) whole front back) where
  pub cut_whole : whole ≡ front ++ (mark ++ back)
  cut_whole = sym (take-append-drop h.0 whole) ∙ ap (λ (l : List ℕ). take h.0 whole ++ l) h.2.1.split ∙ (λ k. sym h.3 k ++ (mark ++ sym h.4 k))

  pub cut_lacks : (i : ℕ) → i < length front → LacksTextAt mark (front ++ (mark ++ back)) i
  cut_lacks i lt = subst (λ (t : List ℕ). LacksTextAt mark t i) cut_whole (h.2.0 i (omega (arith, h.6)))

  pub parts_more : 0 < length mark → parts mark whole ≡ front ∷ parts mark back
  parts_more some = ap (parts mark) cut_whole ∙ parts_found mark front back some cut_lacks

  pub cut_shorter : 0 < length mark → length back < length whole
  cut_shorter some = omega (arith, some, ap length cut_whole, length-append front (mark ++ back), length-append mark back)

  pub replaced_more : (instead : List ℕ) → 0 < length mark → replaced mark instead whole ≡ (front ++ instead) ++ replaced mark instead back
  replaced_more instead some =
      ap (join_by (λ p. p) instead) (parts_more some)
      ∙ joined_more instead front (parts mark back) (some_parts mark 0 back)

pub replaced_none : (mark instead whole : List ℕ) → ((i : ℕ) → i ≤ length whole → LacksTextAt mark whole i) → replaced mark instead whole ≡ whole
replaced_none mark instead whole none = ap (join_by (λ p. p) instead) (parts_lack mark whole none) ∙ append-nil whole

once_step : (mark instead : List ℕ) (c : ℕ) (cs : List ℕ) (b : Bool) → begins_with mark (c ∷ cs) ≡ b → replaced_once mark instead (c ∷ cs) ≡ cond b (instead ++ drop (length mark) (c ∷ cs)) (c ∷ replaced_once mark instead cs)
once_step mark instead c cs b e = ap (λ x. cond x (instead ++ drop (length mark) (c ∷ cs)) (c ∷ replaced_once mark instead cs)) e

pub once_none : (mark instead t : List ℕ) → ((i : ℕ) → i ≤ length t → LacksTextAt mark t i) → replaced_once mark instead t ≡ t
once_none mark instead [] none = refl
once_none mark instead (c ∷ cs) none =
    once_step mark instead c cs false (begins_lacks mark (c ∷ cs) (none 0 (omega arith)))
    ∙ ap (λ (t : List ℕ). c ∷ t) (once_none mark instead cs (λ i le. none (suc i) (omega arith)))

once_found : (mark instead front back : List ℕ) → 0 < length mark → ((i : ℕ) → i < length front → LacksTextAt mark (front ++ (mark ++ back)) i) → replaced_once mark instead (front ++ (mark ++ back)) ≡ front ++ (instead ++ back)
once_found [] instead [] back some none = absurd (omega arith)
once_found (m ∷ ms) instead [] back some none =
    once_step (m ∷ ms) instead m (ms ++ back) true (begins_front (m ∷ ms) back)
    ∙ ap (λ (t : List ℕ). instead ++ t) (drop_at (m ∷ ms) back (length (m ∷ ms)) refl)
once_found mark instead (c ∷ front) back some none =
    once_step mark instead c (front ++ (mark ++ back)) false (begins_lacks mark (c ∷ (front ++ (mark ++ back))) (none 0 (omega arith)))
    ∙ ap (λ (t : List ℕ). c ∷ t) (once_found mark instead front back some (λ i lt. none (suc i) (omega arith)))

pub once_more : (mark instead whole front back : List ℕ) → 0 < length mark → SplitsAroundMatch (FindsText mark) whole front back → replaced_once mark instead whole ≡ front ++ (instead ++ back)
once_more mark instead whole front back some h =
    ap (replaced_once mark instead) (cut_whole mark whole front back h)
    ∙ once_found mark instead front back some (cut_lacks mark whole front back h)
