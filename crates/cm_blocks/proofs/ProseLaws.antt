-- A paragraph's text as the front of its lines.
use Rattle.std.proofs.Common.{IsUtf8, List, [], ap, arith, drop, length, refl, reverse, subst, suc, sym, take, zero, ℕ, ◌+◌, ◌++◌, ◌-◌, ◌∙◌, ◌∷◌, ◌≡◌, ◌≤◌}
use Rattle.std.specs.Str.{IsCharBoundary}
use Rattle.std.proofs.lemmas.List.{append-nil, reverse-append}
use Rattle.std.proofs.lemmas.Str.{IsCharBoundary-from_take}
use Rattle.site_text.specs.Bytes.{is_space}
use Rattle.site_text.specs.Fronts.{run_len}
use Rattle.markdown_grammar.specs.Definitions.{after_definitions, definitions, total_size}
use Rattle.markdown_grammar.specs.Lines.{trim, trim_front}
use Rattle.cm_blocks.specs.LineTexts.{unended}
use Rattle.cm_blocks.specs.Making.{prose_of}
use Rattle.cm_blocks.proofs.LeafSteps.{take_front}
use Rattle.cm_blocks.proofs.LineLaws.{take_both}
use Rattle.cm_blocks.proofs.OpeningLaws.{drop_length}

drop_same : (n : ℕ) (t : List ℕ) → length (drop n t) ≡ length t → drop n t ≡ t
drop_same zero t h = refl
drop_same (suc n) [] h = refl
drop_same (suc n) (c ∷ cs) h = absurd (omega (arith, h, drop_length n cs))

take_drop : (n : ℕ) (t : List ℕ) → take n t ++ drop n t ≡ t
take_drop zero t = refl
take_drop (suc n) [] = refl
take_drop (suc n) (c ∷ cs) = ap (λ (u : List ℕ). c ∷ u) (take_drop n cs)

twice : (t : List ℕ) → reverse (reverse t) ≡ t
twice [] = refl
twice (c ∷ cs) = ap reverse (reverse-append (c ∷ []) cs) ∙ reverse-append (reverse cs) (c ∷ []) ∙ ap (λ (u : List ℕ). c ∷ u) (twice cs)

-- what is left at the front, where bytes are taken off the end
front_left : (k : ℕ) (t : List ℕ) → reverse (drop k (reverse t)) ≡ take (length (reverse (drop k (reverse t)))) t
front_left k t =
    let u = reverse (drop k (reverse t)) in
    let x = reverse (take k (reverse t)) in
    let whole : u ++ x ≡ t = sym (reverse-append (take k (reverse t)) (drop k (reverse t))) ∙ ap reverse (take_drop k (reverse t)) ∙ twice t in
    let size : length u ≡ length u + 0 = omega arith in
    sym (append-nil u) ∙ sym (take_front u x 0) ∙ sym (ap (λ (n : ℕ). take n (u ++ x)) size) ∙ ap (λ (s : List ℕ). take (length u) s) whole

front_trimmed : (t : List ℕ) → run_len is_space t ≡ 0 → trim t ≡ take (length (trim t)) t
front_trimmed t h =
    let front : trim_front t ≡ t = ap (λ (n : ℕ). drop n t) h in
    let shape : trim t ≡ reverse (trim_front (reverse t)) = ap (λ (u : List ℕ). reverse (trim_front (reverse u))) front in
    shape ∙ front_left (run_len is_space (reverse t)) t ∙ ap (λ (u : List ℕ). take (length u) t) (sym shape)

len_front : (n : ℕ) (t : List ℕ) → length (take n t) ≤ length t
len_front zero t = omega arith
len_front (suc n) [] = omega arith
len_front (suc n) (c ∷ cs) = omega (arith, len_front n cs)

len_unended : (t : List ℕ) → length (unended t) ≡ length t - 1
len_unended t = go (length t - 1) t (omega arith) where
  go : (n : ℕ) (t : List ℕ) → n ≤ length t → length (take n t) ≡ n
  go zero t h = refl
  go (suc n) [] h = absurd (omega (arith, h))
  go (suc n) (c ∷ cs) h = omega (arith, go n cs (omega (arith, h)))

-- nothing stands before the text: it is the front of the lines
pub prose_front : (lines rest text : List ℕ) → rest ≡ after_definitions (unended lines) → length rest + 1 ≡ length lines → run_len is_space rest ≡ 0 → text ≡ trim rest
    → take (length text) lines ≡ text
prose_front lines rest text e same h f =
    let all : rest ≡ unended lines = e ∙ drop_same (total_size (definitions (unended lines))) (unended lines) (omega (arith, ap (λ (u : List ℕ). length u) e, same, len_unended lines)) in
    let part : text ≡ take (length text) rest = f ∙ front_trimmed rest h ∙ ap (λ (n : ℕ). take n rest) (sym (ap (λ (u : List ℕ). length u) f)) in
    let less : length text ≤ length rest = omega (arith, ap (λ (u : List ℕ). length u) part, len_front (length text) rest) in
    let room : length text + (length lines - 1 - length text) ≡ length lines - 1 = omega (arith, less, same) in
    sym (part ∙ ap (λ (u : List ℕ). take (length text) u) all ∙ ap (λ (n : ℕ). take (length text) (take n lines)) (sym room) ∙ take_both (length text) (length lines - 1 - length text) lines)

pub prose_is_front : (lines rest text : List ℕ) → rest ≡ after_definitions (unended lines) → length rest + 1 ≡ length lines → run_len is_space rest ≡ 0 → text ≡ trim rest
    → take (length text) lines ≡ prose_of lines
prose_is_front lines rest text e same h f = prose_front lines rest text e same h f ∙ f ∙ ap trim e

pub front_cut : (lines rest text : List ℕ) → IsUtf8 lines → IsUtf8 text → rest ≡ after_definitions (unended lines) → length rest + 1 ≡ length lines → run_len is_space rest ≡ 0 → text ≡ trim rest
    → IsCharBoundary lines (length text)
front_cut lines rest text u v e same h f =
    let front = prose_front lines rest text e same h f in
    let less : length text ≤ length lines = omega (arith, ap (λ (u : List ℕ). length u) front, len_front (length text) lines) in
    IsCharBoundary-from_take lines (length text) u less (subst IsUtf8 (sym front) v)
