-- What stands at the front of a text has a length within it.
use Rattle.std.proofs.Common.{◌≡◌, ℕ, ◌+◌, ◌-◌, ◌<◌, ◌≤◌, true, cond, ltb, List, [], ◌∷◌, length, take, drop, subst, refl, ap, false, Bool, sym, ◌∙◌, arith, inl, inr, codes}
use Rattle.std.proofs.lemmas.Bool.{lt-ltb, ltb-true, cond_both, or_cases}
use Rattle.std.proofs.lemmas.List.{length-drop, length-take}
use Rattle.std.specs.Cmp.Lexicographic.{same_text}
use Rattle.liquid_grammar.specs.declared.piece.Front.TheVariants.{Text, Output, Tag, Raw, Comment, Unclosed}
use Rattle.liquid_grammar.specs.Pieces.{first_place, begins, opens, is_tag, tag_place, tag_at, markup_at, front_of}
use Rattle.liquid_expr.specs.Fits.{Fits}
use Rattle.liquid_expr.proofs.PlacesLaws.{place_le, place_at}

begins_long : (word xs : List ℕ) → begins word xs ≡ true → length word ≤ length xs
begins_long word xs e = omega (arith, ap length (same_text word (take (length word) xs) (sym e)), length-take (length word) xs)

-- both bytes of the mark are within the text
pub mark_fits : (a b : ℕ) (xs : List ℕ) → first_place (begins (a ∷ b ∷ [])) xs < length xs → first_place (begins (a ∷ b ∷ [])) xs + 2 ≤ length xs
mark_fits a b xs lt =
    let p = begins (a ∷ b ∷ []) in
    omega (arith, begins_long (a ∷ b ∷ []) (drop (first_place p xs) xs) (place_at p xs lt), length-drop (first_place p xs) xs)

pub opens_long : (xs : List ℕ) → 0 < length xs → first_place opens xs ≡ 0 → 2 ≤ length xs
opens_long xs lt e =
    let here : opens xs ≡ true = subst (λ k. opens (drop k xs) ≡ true) e (place_at opens xs (omega arith)) in
    elim (or_cases (begins (codes "{{") xs) (begins (codes "{%") xs) here) [
      | inl h ↦ begins_long (codes "{{") xs h
      | inr h ↦ begins_long (codes "{%") xs h
    ]

tag_fits : (xs : List ℕ) (n : ℕ) → 4 ≤ n → n ≤ length xs → Fits (length xs) (tag_at xs n)
tag_fits xs n lt le =
    let rest = drop n xs in
    let m = tag_place (codes "endraw") rest in
    let k = tag_place (codes "endcomment") rest in
    let rest_len : length rest ≡ length xs - n = length-drop n xs in
    cond_both (is_tag (codes "raw") xs) (cond (ltb m (length rest)) (Raw n m) Unclosed) (cond (is_tag (codes "comment") xs) (Comment n k) (Tag n)) (Fits (length xs))
    (λ _. cond_both (ltb m (length rest)) (Raw n m) Unclosed (Fits (length xs)) (λ t. (lt, omega (arith, ltb-true m (length rest) t))) (λ _. tt))
    (λ _. cond_both (is_tag (codes "comment") xs) (Comment n k) (Tag n) (Fits (length xs)) (λ _. (lt, omega (arith, place_le (is_tag (codes "endcomment")) rest))) (λ _. (lt, le)))

markup_fits : (xs : List ℕ) → Fits (length xs) (markup_at xs)
markup_fits xs =
    let inside = drop 2 xs in
    let o = first_place (begins (codes "}}")) inside in
    let t = first_place (begins (codes "%}")) inside in
    let len : length inside ≡ length xs - 2 = length-drop 2 xs in
    cond_both (begins (codes "{{") xs) (cond (ltb o (length inside)) (Output (o + 4)) Unclosed) (cond (ltb t (length inside)) (tag_at xs (t + 4)) Unclosed) (Fits (length xs))
    (λ _. cond_both (ltb o (length inside)) (Output (o + 4)) Unclosed (Fits (length xs)) (λ h. (omega arith, omega (arith, mark_fits 125 125 inside (ltb-true o (length inside) h)))) (λ _. tt))
    (λ _. cond_both (ltb t (length inside)) (tag_at xs (t + 4)) Unclosed (Fits (length xs)) (λ h. tag_fits xs (t + 4) (omega arith) (omega (arith, mark_fits 37 125 inside (ltb-true t (length inside) h)))) (λ _. tt))

pub front_fits : (xs : List ℕ) → Fits (length xs) (front_of xs)
front_fits xs =
    let n = first_place opens xs in
    cond_both (ltb 0 n) (Text n) (markup_at xs) (Fits (length xs)) (λ h. (ltb-true 0 n h, place_le opens xs)) (λ _. markup_fits xs)

cond_no : {X : Type 0} (b : Bool) (x y : X) → b ≡ false → cond b x y ≡ y
cond_no true x y e = absurd cc
cond_no false x y e = refl

cond_is : {X : Type 0} (b : Bool) (x y : X) → b ≡ true → cond b x y ≡ x
cond_is true x y e = refl
cond_is false x y e = absurd cc

-- a tag that has its end
pub markup_tag : (xs : List ℕ) → begins (codes "{{") xs ≡ false → first_place (begins (codes "%}")) (drop 2 xs) < length (drop 2 xs) → markup_at xs ≡ tag_at xs (first_place (begins (codes "%}")) (drop 2 xs) + 4)
markup_tag xs tag lt =
    let inside = drop 2 xs in
    let o = first_place (begins (codes "}}")) inside in
    let t = first_place (begins (codes "%}")) inside in
    cond_no (begins (codes "{{") xs) (cond (ltb o (length inside)) (Output (o + 4)) Unclosed) (cond (ltb t (length inside)) (tag_at xs (t + 4)) Unclosed) tag
    ∙ cond_is (ltb t (length inside)) (tag_at xs (t + 4)) Unclosed (lt-ltb t (length inside) lt)
