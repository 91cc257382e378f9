-- Where no thematic break stands.
use Rattle.std.proofs.Common.{Bool, List, [], ap, arith, cond, drop, false, get_or, length, nat_lt, not, refl, subst, suc, sym, true, zero, ℕ, ◌&&◌, ◌+◌, ◌-◌, ◌<◌, ◌==◌, ◌||◌, ◌∙◌, ◌∷◌, ◌≡◌}
use Rattle.markdown_grammar.specs.Breaks.{break_at, count_of}
use Rattle.markdown_grammar.specs.Columns.{indent}
use Rattle.markdown_grammar.specs.Fronts.{is_empty}
use Rattle.site_text.specs.Fronts.{first_byte, has_one}
use Rattle.markdown_grammar.specs.Lines.{trim_front}
use Rattle.markdown_grammar.specs.LineStarts.{mark_at, start_of}
use Rattle.markdown_grammar.specs.ListMarks.{item_at}
use Rattle.markdown_grammar.specs.Places.{not_in_paragraph}
use Rattle.markdown_grammar.specs.Starts.{Start, blank_start, break_start, indented_start, text_start, ◌elsewise◌}
use Rattle.cm_blocks.specs.Opening.{IsExcluded, IsKnown, is_break_bullet, stops}
use Rattle.cm_blocks.specs.declared.opening.Known.{Known}
use Rattle.cm_blocks.proofs.OpeningLaws.{byte_behind, drop_length}

-- some byte passes
has_at : (p : ℕ → Bool) (t : List ℕ) (i : ℕ) → i < length t → p (get_or t i 0) ≡ true → has_one p t ≡ true
has_at p [] i lt h = absurd (omega (arith, lt))
has_at p (c ∷ cs) zero lt h = ap (λ (b : Bool). elim b as (λ x. Bool) [ true ↦ true | false ↦ has_one p cs ]) h
has_at p (c ∷ cs) (suc i) lt h = go (p c) (has_at p cs i (omega (arith, lt)) h) where
  go : (b : Bool) → has_one p cs ≡ true → elim b as (λ x. Bool) [ true ↦ true | false ↦ has_one p cs ] ≡ true
  go true e = refl
  go false e = e

and_false : (a : Bool) → (a && false) ≡ false
and_false true = refl
and_false false = refl

-- a byte that a break of the first byte has not
no_break : (t : List ℕ) → has_one (stops (first_byte t)) t ≡ true → break_at t ≡ text_start
no_break t h =
    let front : Bool = ((first_byte t == 42) || ((first_byte t == 45) || (first_byte t == 95))) && nat_lt 2 (count_of (first_byte t) t) in
    ap (λ (b : Bool). cond (front && not b) break_start text_start) h ∙ ap (λ (b : Bool). cond b break_start text_start) (and_false front)

first_is : (t : List ℕ) → first_byte t ≡ get_or t 0 0
first_is [] = refl
first_is (c ∷ cs) = refl

pub excluded : (line : List ℕ) (at : ℕ) (k : Known) → IsKnown line k → at < k.until → get_or line at 0 ≡ k.mark → is_break_bullet k.mark ≡ true → IsExcluded line at
excluded line at k h lt e b =
    let first : first_byte (drop at line) ≡ k.mark = first_is (drop at line) ∙ byte_behind at 0 line ∙ (let z : at + 0 ≡ at = omega arith in ap (λ (i : ℕ). get_or line i 0) z) ∙ e in
    let place : at + (k.until - at) ≡ k.until = omega (arith, lt) in
    let byte : get_or (drop at line) (k.until - at) 0 ≡ get_or line k.until 0 = byte_behind at (k.until - at) line ∙ ap (λ (i : ℕ). get_or line i 0) place in
    let bad : stops (first_byte (drop at line)) (get_or (drop at line) (k.until - at) 0) ≡ true =
    ap (λ (m : ℕ). stops m (get_or (drop at line) (k.until - at) 0)) first ∙ ap (λ (c : ℕ). stops k.mark c) byte ∙ h.other in
    record {
      bullet = ap is_break_bullet first ∙ b;
      no_break = no_break (drop at line) (has_at (stops (first_byte (drop at line))) (drop at line) (k.until - at) (omega (arith, lt, h.within, drop_length at line)) bad);
    }

-- behind the white space a bullet starts an item, where no break stands
bullet_mark : (i : ℕ) (u : List ℕ) → is_break_bullet (first_byte u) ≡ true → break_at u ≡ text_start → item_at not_in_paragraph u ≡ mark_at not_in_paragraph i u
bullet_mark i [] b h = absurd cc
bullet_mark i (c ∷ cs) b h = go (c == 45) (c == 42) refl refl b where
  dash : c ≡ 45 → item_at not_in_paragraph (c ∷ cs) ≡ mark_at not_in_paragraph i (c ∷ cs)
  dash e = subst (λ (x : ℕ). break_at (x ∷ cs) ≡ text_start → item_at not_in_paragraph (x ∷ cs) ≡ mark_at not_in_paragraph i (x ∷ cs)) (sym e) (λ h. ap (λ (s : Start). s elsewise item_at not_in_paragraph (45 ∷ cs)) (sym h)) h

  star : c ≡ 42 → item_at not_in_paragraph (c ∷ cs) ≡ mark_at not_in_paragraph i (c ∷ cs)
  star e = subst (λ (x : ℕ). break_at (x ∷ cs) ≡ text_start → item_at not_in_paragraph (x ∷ cs) ≡ mark_at not_in_paragraph i (x ∷ cs)) (sym e) (λ h. ap (λ (s : Start). s elsewise item_at not_in_paragraph (42 ∷ cs)) (sym h)) h

  go : (x y : Bool) → (c == 45) ≡ x → (c == 42) ≡ y → (x || y) ≡ true → item_at not_in_paragraph (c ∷ cs) ≡ mark_at not_in_paragraph i (c ∷ cs)
  go true y f g e = dash (grind (arith, f))
  go false true f g e = star (grind (arith, g))
  go false false f g e = absurd cc

pub bullet_start : (col : ℕ) (t u : List ℕ) → u ≡ trim_front t → indent col t < 4 → is_break_bullet (first_byte u) ≡ true → break_at u ≡ text_start → item_at not_in_paragraph u ≡ start_of not_in_paragraph col t
bullet_start col t [] same near b h = absurd cc
bullet_start col t (c ∷ cs) same near b h =
    let test : nat_lt (indent col t) 4 ≡ true = grind (arith, near) in
    bullet_mark (indent col t) (c ∷ cs) b h ∙ ap (λ (u : List ℕ). mark_at not_in_paragraph (indent col t) u) same
    ∙ ap (λ (x : Bool). cond x (mark_at not_in_paragraph (indent col t) (trim_front t)) indented_start) (sym test)
    ∙ ap (λ (u : List ℕ). cond (is_empty u) blank_start (cond (nat_lt (indent col t) 4) (mark_at not_in_paragraph (indent col t) (trim_front t)) indented_start)) same

-- the same, by what is known of the line
pub excluded_start : (line bytes : List ℕ) (col at : ℕ) (t u : List ℕ) → u ≡ drop at line → bytes ≡ line → drop at line ≡ trim_front t → indent col t < 4 → IsExcluded bytes at → item_at not_in_paragraph u ≡ start_of not_in_paragraph col t
excluded_start line bytes col at t u a b same near h =
    let text : drop at bytes ≡ u = ap (λ (x : List ℕ). drop at x) b ∙ sym a in
    bullet_start col t u (a ∙ same) near (ap (λ (x : List ℕ). is_break_bullet (first_byte x)) (sym text) ∙ h.bullet) (ap break_at (sym text) ∙ h.no_break)
