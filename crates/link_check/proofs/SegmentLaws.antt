-- Segments, from the first to the last.
use Rattle.std.proofs.Common.{◌≡◌, ◌∙◌, ℕ, suc, ◌+◌, ◌-◌, ◌<◌, ◌≤◌, ◌==◌, ◌||◌, Bool, Bor, List, [], ◌∷◌, ◌++◌, add-one, ap, arith, codes, drop, drop-cons, false, flat_map, get_or, length, refl, reverse, sym, take, true}
use Rattle.std.proofs.Math.Dec.{eqb-suc-zero}
use Rattle.std.proofs.lemmas.List.{length-reverse, reverse-append, reverse-reverse, take_all}
use Rattle.link_check.specs.Segments.{slash_before, has_index, is_folder, shown}
use Rattle.link_check.specs.Targets.{file_of, names_folder, with_slashes}

pub next_segment : (all : List (List ℕ)) (n : ℕ) (segment : List ℕ) → n < length all → segment ≡ get_or all n segment → drop n all ≡ segment ∷ drop (n + 1) all
next_segment all n segment lt e = rw (add-one, drop-cons all n segment) (ap (λ s. s ∷ drop (suc n) all) (sym e))

-- whether the last segment names a folder, where the answer is known of the one before the rest
abbrev pub folder_from : Bool → List (List ℕ) → Bool
folder_from answer [] = answer
folder_from answer (s ∷ rest) = folder_from (is_folder s) rest

folder_is : (b : Bool) (s : List ℕ) (rest : List (List ℕ)) → folder_from b (s ∷ rest) ≡ names_folder (s ∷ rest)
folder_is b s [] = refl
folder_is b s (t ∷ rest) = folder_is (is_folder s) t rest

pub folder_whole : (all : List (List ℕ)) → folder_from true all ≡ names_folder all
folder_whole [] = refl
folder_whole (s ∷ rest) = folder_is true s rest

pub slashes_are : (s : List ℕ) (rest : List (List ℕ)) → with_slashes (s ∷ rest) ≡ s ++ flat_map slash_before rest
slashes_are s [] = sym (append_nil s) where
  append_nil : (t : List ℕ) → t ++ [] ≡ t
  append_nil [] = refl
  append_nil (c ∷ cs) = ap (λ (u : List ℕ). c ∷ u) (append_nil cs)
slashes_are s (t ∷ rest) = ap (λ (u : List ℕ). s ++ (47 ∷ u)) (slashes_are t rest)

-- ---- the file that segments name

reversed_cases : (b : Bool) (xs r : List (List ℕ)) → reverse xs ≡ r → has_index b xs ≡ true → with_slashes (xs ++ codes "index.html" ∷ []) ≡ file_of b r
reversed_cases b xs [] e h = ap (λ (l : List (List ℕ)). with_slashes (l ++ codes "index.html" ∷ [])) (sym (reverse-reverse xs) ∙ ap reverse e)
reversed_cases b xs (s ∷ rest) e h = go b refl h where
  some : (length xs == 0) ≡ false
  some = ap (λ (n : ℕ). n == 0) (sym (length-reverse xs) ∙ ap length e) ∙ eqb-suc-zero (length rest)

  turned : xs ++ codes "index.html" ∷ [] ≡ reverse (codes "index.html" ∷ s ∷ rest)
  turned = ap (λ (l : List (List ℕ)). l ++ codes "index.html" ∷ []) (sym (reverse-reverse xs)) ∙ sym (reverse-append (codes "index.html" ∷ []) (reverse xs)) ∙ ap (λ (l : List (List ℕ)). reverse (codes "index.html" ∷ l)) e

  go : (x : Bool) → b ≡ x → has_index b xs ≡ true → with_slashes (xs ++ codes "index.html" ∷ []) ≡ file_of b (s ∷ rest)
  go true f k = ap with_slashes turned ∙ ap (λ (y : Bool). file_of y (s ∷ rest)) (sym f)
  go false f k = absurd (no_index (sym k ∙ ap (λ (y : Bool). y || (length xs == 0)) f ∙ some)) where
    no_index : true ≡ false → ⊥
    no_index u = cc

pub with_index : (b : Bool) (xs : List (List ℕ)) → has_index b xs ≡ true → with_slashes (xs ++ codes "index.html" ∷ []) ≡ file_of b (reverse xs)
with_index b xs h = reversed_cases b xs (reverse xs) refl h

kept_cases : (xs r : List (List ℕ)) → reverse xs ≡ r → (length xs == 0) ≡ false → with_slashes xs ≡ file_of false r
kept_cases xs [] e h = absurd (no_index (sym h ∙ ap (λ (n : ℕ). n == 0) (sym (length-reverse xs) ∙ ap length e))) where
  no_index : false ≡ true → ⊥
  no_index u = cc
kept_cases xs (s ∷ rest) e h = ap with_slashes (sym (reverse-reverse xs) ∙ ap reverse e)

pub without_index : (b : Bool) (xs : List (List ℕ)) → has_index b xs ≡ false → with_slashes xs ≡ file_of b (reverse xs)
without_index true xs h = absurd (no_index h) where
  no_index : true ≡ false → ⊥
  no_index u = cc
without_index false xs h = kept_cases xs (reverse xs) refl h

-- a first segment, and those after it
first_shown : (segments : List (Bor (List ℕ))) (d : Bor (List ℕ)) → 1 ≤ length segments → shown segments ≡ (get_or segments 0 d).now ∷ shown (take (length segments - 1) (drop 1 segments))
first_shown [] d lt = absurd (omega (arith, lt))
first_shown (s ∷ rest) d lt = ap (λ (l : List (Bor (List ℕ))). s.now ∷ shown l) (sym (take_all (length (s ∷ rest) - 1) rest (omega arith)))

pub slashes_of : (segments : List (Bor (List ℕ))) (d : Bor (List ℕ)) (path made : List ℕ) → 1 ≤ length segments → made ≡ path ++ flat_map slash_before (shown (take (length segments - 1) (drop 1 segments))) → path ≡ (get_or segments 0 d).now → made ≡ with_slashes (shown segments)
slashes_of segments d path made lt h p =
    let others = shown (take (length segments - 1) (drop 1 segments)) in
    h ∙ ap (λ (t : List ℕ). t ++ flat_map slash_before others) p ∙ sym (slashes_are (get_or segments 0 d).now others) ∙ ap with_slashes (sym (first_shown segments d lt))
