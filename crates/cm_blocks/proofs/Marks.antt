-- The marks of quotes and items take one column a byte.
use Rattle.std.proofs.Common.{Bool, List, [], ap, arith, cond, drop, false, get_or, nat_lt, refl, subst, suc, sym, take, true, ℕ, ◌&&◌, ◌+◌, ◌-◌, ◌<◌, ◌==◌, ◌||◌, ◌∙◌, ◌∷◌, ◌≡◌}
use Rattle.markdown_grammar.specs.Breaks.{break_at}
use Rattle.site_text.specs.Bytes.{is_digit, is_space}
use Rattle.site_text.specs.Fronts.{first_byte, run_len}
use Rattle.markdown_grammar.specs.Columns.{indent, tab_width}
use Rattle.markdown_grammar.specs.Fences.{fence_at}
use Rattle.markdown_grammar.specs.Fronts.{is_empty}
use Rattle.markdown_grammar.specs.Headings.{atx_at}
use Rattle.markdown_grammar.specs.declared.html_kind.HtmlKind.TheVariants.{Cdata, Comment, Declaration, Instruction, Listed, Lone, Verbatim}
use Rattle.markdown_grammar.specs.HtmlStarts.{html_at}
use Rattle.markdown_grammar.specs.Lines.{is_blank, trim_front}
use Rattle.markdown_grammar.specs.LineStarts.{mark_at, quote_at, start_of}
use Rattle.markdown_grammar.specs.ListMarks.{item_at, item_if}
use Rattle.markdown_grammar.specs.Places.{not_in_paragraph}
use Rattle.std.specs.Str.Parse.{digits_value}
use Rattle.markdown_grammar.specs.Starts.{Start, atx_start, blank_start, break_start, fence_start, html_start, indented_start, item_start, quote_start, text_start, underline_start, ◌elsewise◌}
use Rattle.cm_containers.specs.Rests.{behind_byte, column_behind}
use Rattle.cm_blocks.specs.Opening.{IsMark}

-- the mark that a start tells of
abbrev pub MarkIn : List ℕ → Start → Type 0
MarkIn t quote_start = IsMark t 1
MarkIn t (item_start kind number digits) = IsMark t (digits + 1)
MarkIn t _ = Unit {0}

one_column : (c col : ℕ) → (c ≡ 9 → ⊥) → behind_byte col c ≡ suc col
one_column c col h =
    let test : (c == 9) ≡ false = grind (arith, h) in
    ap (λ (b : Bool). elim b as (λ x. ℕ) [ true ↦ col + tab_width col | false ↦ suc col ]) test

one_mark : (c : ℕ) (cs : List ℕ) → (c ≡ 9 → ⊥) → c < 128 → IsMark (c ∷ cs) 1
one_mark c cs other ascii = record { some = omega arith; within = omega arith; columns = λ col. one_column c col other ∙ omega arith; ascii = ascii }

more_mark : (c : ℕ) (cs : List ℕ) (n : ℕ) → (c ≡ 9 → ⊥) → IsMark cs (n + 1) → IsMark (c ∷ cs) (suc n + 1)
more_mark c cs n other h =
    let size : suc (n + 1) ≡ suc n + 1 = omega arith in
    let last : n + 1 - 1 ≡ n = omega arith in
    let at : suc n ≡ suc n + 1 - 1 = omega arith in
    let low : get_or cs n 0 < 128 = subst (λ (i : ℕ). get_or cs i 0 < 128) last h.ascii in
    record {
      some = omega arith;
      within = omega (arith, h.within);
      columns = λ col. ap (λ (k : ℕ). column_behind col (take k (c ∷ cs))) (sym size) ∙ h.columns (behind_byte col c) ∙ omega (arith, one_column c col other);
      ascii = subst (λ (i : ℕ). get_or (c ∷ cs) i 0 < 128) at low;
    }

digit_byte : (c : ℕ) → is_digit c ≡ true → c ≡ 9 → ⊥
digit_byte c h e = grind (arith, h, e)

digits_mark : (t : List ℕ) (d : ℕ) → first_byte (drop (run_len is_digit t) t) ≡ d → 9 < d → d < 128 → IsMark t (run_len is_digit t + 1)
digits_mark [] d e low high = absurd (omega (arith, e, low))
digits_mark (c ∷ cs) d e low high = go (is_digit c) refl (digits_mark cs d) e where
  go : (b : Bool) → is_digit c ≡ b → (first_byte (drop (run_len is_digit cs) cs) ≡ d → 9 < d → d < 128 → IsMark cs (run_len is_digit cs + 1))
      → first_byte (drop (elim b as (λ x. ℕ) [ true ↦ suc (run_len is_digit cs) | false ↦ 0 ]) (c ∷ cs)) ≡ d → IsMark (c ∷ cs) ((elim b as (λ x. ℕ) [ true ↦ suc (run_len is_digit cs) | false ↦ 0 ]) + 1)
  go true f q e = more_mark c cs (run_len is_digit cs) (digit_byte c f) (q e low high)
  go false f q e = let size : 1 ≡ 0 + 1 = omega arith in subst (λ (n : ℕ). IsMark (c ∷ cs) n) size (one_mark c cs (λ bad. absurd (omega (arith, bad, e, low))) (omega (arith, e, high)))

-- ---- one rule after another

either_mark : (t : List ℕ) (b : Bool) (s u : Start) → (b ≡ true → MarkIn t s) → MarkIn t u → MarkIn t (cond b s u)
either_mark t true s u h k = h refl
either_mark t false s u h k = k

behind_start : (t : List ℕ) (s u : Start) → MarkIn t s → MarkIn t u → MarkIn t (s elsewise u)
behind_start t text_start u h k = k
behind_start t blank_start u h k = tt
behind_start t quote_start u h k = h
behind_start t (atx_start level v) u h k = tt
behind_start t (fence_start i mark len info) u h k = tt
behind_start t (html_start kind) u h k = tt
behind_start t (underline_start level) u h k = tt
behind_start t break_start u h k = tt
behind_start t (item_start kind number digits) u h k = h
behind_start t indented_start u h k = tt

front_mark : (t : List ℕ) → 9 < first_byte t → first_byte t < 128 → IsMark t 1
front_mark [] low high = absurd (omega (arith, low))
front_mark (c ∷ cs) low high = one_mark c cs (λ bad. absurd (omega (arith, bad, low))) high

quote_mark : (t : List ℕ) → MarkIn t (quote_at t)
quote_mark t = either_mark t (first_byte t == 62) quote_start text_start (λ e. let c : first_byte t ≡ 62 = grind (arith, e) in front_mark t (omega (arith, c)) (omega (arith, c))) tt

bullet_mark : (t : List ℕ) → ((first_byte t == 43) || ((first_byte t == 45) || (first_byte t == 42))) ≡ true → IsMark t 1
bullet_mark t e = let low : 9 < first_byte t = grind (arith, e) in let high : first_byte t < 128 = grind (arith, e) in front_mark t low high

delimiter : (d : ℕ) (b : Bool) → (b && ((d == 46) || (d == 41))) ≡ true → (9 < d) × (d < 128)
delimiter d true e = (grind (arith, e), grind (arith, e))
delimiter d false e = absurd cc

item_mark : (t : List ℕ) → MarkIn t (item_at not_in_paragraph t)
item_mark t =
    let n = run_len is_digit t in
    let d = first_byte (drop (run_len is_digit t) t) in
    either_mark t ((first_byte t == 43) || ((first_byte t == 45) || (first_byte t == 42))) (item_if not_in_paragraph (first_byte t) 1 0 (drop 1 t))
    (cond ((nat_lt 0 (run_len is_digit t) && nat_lt (run_len is_digit t) 10) && ((first_byte (drop (run_len is_digit t) t) == 46) || (first_byte (drop (run_len is_digit t) t) == 41)))
    (item_if not_in_paragraph (first_byte (drop (run_len is_digit t) t)) (digits_value 10 (take (run_len is_digit t) t)) (run_len is_digit t) (drop (run_len is_digit t + 1) t)) text_start)
    (λ e. either_mark t ((is_empty (drop 1 t) || is_space (first_byte (drop 1 t))) && true) (item_start (first_byte t) 1 0) text_start (λ f. bullet t e) tt)
    (either_mark t ((nat_lt 0 (run_len is_digit t) && nat_lt (run_len is_digit t) 10) && ((first_byte (drop (run_len is_digit t) t) == 46) || (first_byte (drop (run_len is_digit t) t) == 41)))
    (item_if not_in_paragraph (first_byte (drop (run_len is_digit t) t)) (digits_value 10 (take (run_len is_digit t) t)) (run_len is_digit t) (drop (run_len is_digit t + 1) t)) text_start
    (λ e. either_mark t ((is_empty (drop (run_len is_digit t + 1) t) || is_space (first_byte (drop (run_len is_digit t + 1) t))) && true)
    (item_start (first_byte (drop (run_len is_digit t) t)) (digits_value 10 (take (run_len is_digit t) t)) (run_len is_digit t)) text_start (λ f. ordered t e) tt) tt) where
      bullet : (t : List ℕ) → ((first_byte t == 43) || ((first_byte t == 45) || (first_byte t == 42))) ≡ true → IsMark t (0 + 1)
      bullet t e = let size : 1 ≡ 0 + 1 = omega arith in subst (λ (n : ℕ). IsMark t n) size (bullet_mark t e)

      ordered : (t : List ℕ) → ((nat_lt 0 (run_len is_digit t) && nat_lt (run_len is_digit t) 10) && ((first_byte (drop (run_len is_digit t) t) == 46) || (first_byte (drop (run_len is_digit t) t) == 41))) ≡ true → IsMark t (run_len is_digit t + 1)
      ordered t e = let range = delimiter (first_byte (drop (run_len is_digit t) t)) (nat_lt 0 (run_len is_digit t) && nat_lt (run_len is_digit t) 10) e in digits_mark t (first_byte (drop (run_len is_digit t) t)) refl range.0 range.1

atx_mark : (t : List ℕ) → MarkIn t (atx_at t)
atx_mark t = go _ _ where
  go : (b : Bool) (u : List ℕ) → MarkIn t (cond b (atx_start (run_len (λ c. c == 35) t) u) text_start)
  go true u = tt
  go false u = tt

fence_mark : (i : ℕ) (t : List ℕ) → MarkIn t (fence_at i t)
fence_mark i t = go _ _ where
  go : (b : Bool) (u : List ℕ) → MarkIn t (cond b (fence_start i (first_byte t) (run_len (λ d. d == first_byte t) t) u) text_start)
  go true u = tt
  go false u = tt

html_mark : (t : List ℕ) → MarkIn t (html_at not_in_paragraph t)
html_mark t = go _ _ _ _ _ _ _ _ where
  go : (a b c d e f g h : Bool) → MarkIn t (cond a text_start (cond b (html_start Verbatim) (cond c (html_start Comment) (cond d (html_start Instruction) (cond e (html_start Declaration) (cond f (html_start Cdata) (cond g (html_start Listed) (cond h (html_start Lone) text_start))))))))
  go true b c d e f g h = tt
  go false true c d e f g h = tt
  go false false true d e f g h = tt
  go false false false true e f g h = tt
  go false false false false true f g h = tt
  go false false false false false true g h = tt
  go false false false false false false true h = tt
  go false false false false false false false true = tt
  go false false false false false false false false = tt

break_mark : (t : List ℕ) → MarkIn t (break_at t)
break_mark t = go _ where
  go : (b : Bool) → MarkIn t (cond b break_start text_start)
  go true = tt
  go false = tt

any_mark : (i : ℕ) (t : List ℕ) → MarkIn t (mark_at not_in_paragraph i t)
any_mark i t =
    behind_start t (quote_at t) (atx_at t elsewise (fence_at i t elsewise (html_at not_in_paragraph t elsewise (break_at t elsewise item_at not_in_paragraph t)))) (quote_mark t)
    (behind_start t (atx_at t) (fence_at i t elsewise (html_at not_in_paragraph t elsewise (break_at t elsewise item_at not_in_paragraph t))) (atx_mark t)
    (behind_start t (fence_at i t) (html_at not_in_paragraph t elsewise (break_at t elsewise item_at not_in_paragraph t)) (fence_mark i t)
    (behind_start t (html_at not_in_paragraph t) (break_at t elsewise item_at not_in_paragraph t) (html_mark t) (behind_start t (break_at t) (item_at not_in_paragraph t) (break_mark t) (item_mark t)))))

-- what a line starts tells of its mark
pub start_mark : (col : ℕ) (t : List ℕ) → MarkIn (trim_front t) (start_of not_in_paragraph col t)
start_mark col t = go (is_blank t) (nat_lt (indent col t) 4) where
  go : (a b : Bool) → MarkIn (trim_front t) (cond a blank_start (cond b (mark_at not_in_paragraph (indent col t) (trim_front t)) indented_start))
  go true b = tt
  go false true = any_mark (indent col t) (trim_front t)
  go false false = tt
