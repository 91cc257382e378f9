-- A leaf by its text takes the lines that a leaf by its lines takes.
use Rattle.std.proofs.Common.{Bool, List, None, Option, Some, [], ap, append_assoc, arith, cond, false, length, nat_lt, not, option_map, refl, suc, sym, take, true, ℕ, ◌&&◌, ◌+◌, ◌++◌, ◌-◌, ◌∙◌, ◌∷◌, ◌≡◌, length-append}
use Rattle.std.proofs.lemmas.List.{append-nil}
use Rattle.markdown_grammar.specs.Columns.{Line, indent, lazy_line, line_text, own_line, shifted}
use Rattle.markdown_grammar.specs.Definitions.{after_definitions}
use Rattle.markdown_grammar.specs.Fences.{closes_fence}
use Rattle.markdown_grammar.specs.declared.html_kind.HtmlKind.{HtmlKind}
use Rattle.markdown_grammar.specs.HtmlStarts.{ends_at_blank, ends_html}
use Rattle.markdown_grammar.specs.Leaves as grammar
use Rattle.markdown_grammar.specs.Lines.{ended_lines, is_blank, joined_lines, trim_front}
use Rattle.markdown_grammar.specs.LineStarts.{start_of}
use Rattle.markdown_grammar.specs.Places.{in_paragraph}
use Rattle.markdown_grammar.specs.Starts.{Start, atx_start, blank_start, break_start, fence_start, html_start, indented_start, item_start, quote_start, text_start, underline_start}
use Rattle.cm_blocks.specs.Leaves.{code_on, fence_on, holds_text, html_on, leaf_of, more_of, prose_on}
use Rattle.cm_blocks.specs.LineTexts.{ended, unended}
use Rattle.cm_blocks.specs.declared.kinds.Leaf.{Leaf}
use Rattle.cm_blocks.specs.declared.kinds.Leaf.TheVariants.{Fenced, Html, Indented, Paragraph}

-- ended lines, one after another
pub ended-append : (xs ys : List (List ℕ)) → ended_lines (xs ++ ys) ≡ ended_lines xs ++ ended_lines ys
ended-append [] ys = refl
ended-append (x ∷ xs) ys = ap (λ (t : List ℕ). x ++ 10 ∷ t) (ended-append xs ys) ∙ sym (append_assoc x (10 ∷ ended_lines xs) (ended_lines ys))

one_ended : (xs : List (List ℕ)) (u : List ℕ) → ended_lines xs ++ ended u ≡ ended_lines (xs ++ u ∷ [])
one_ended xs u = sym (ended-append xs (u ∷ []))

pub take_front : (x y : List ℕ) (n : ℕ) → take (length x + n) (x ++ y) ≡ x ++ take n y
take_front [] y n = ap (λ (k : ℕ). take k y) (omega arith)
take_front (c ∷ cs) y n =
    let e : suc (length cs) + n ≡ suc (length cs + n) = omega arith in
    ap (λ (k : ℕ). take k (c ∷ (cs ++ y))) e ∙ ap (λ (t : List ℕ). c ∷ t) (take_front cs y n)

-- without its last line end, the text of lines is that of lines with line ends between them
pub unended_is : (xs : List (List ℕ)) → unended (ended_lines xs) ≡ joined_lines xs
unended_is [] = refl
unended_is (x ∷ []) =
    let e : length (x ++ 10 ∷ []) - 1 ≡ length x + 0 = omega (arith, length-append x (10 ∷ [])) in
    ap (λ (k : ℕ). take k (x ++ 10 ∷ [])) e ∙ take_front x (10 ∷ []) 0 ∙ append-nil x
unended_is (x ∷ y ∷ ys) =
    let e : length (x ++ 10 ∷ ended_lines (y ∷ ys)) - 1 ≡ length x + suc (length (ended_lines (y ∷ ys)) - 1) =
    omega (arith, length-append x (10 ∷ ended_lines (y ∷ ys)), length-append y (10 ∷ ended_lines ys)) in
    ap (λ (k : ℕ). take k (x ++ 10 ∷ ended_lines (y ∷ ys))) e
    ∙ take_front x (10 ∷ ended_lines (y ∷ ys)) (suc (length (ended_lines (y ∷ ys)) - 1)) ∙ ap (λ (t : List ℕ). x ++ 10 ∷ t) (unended_is (y ∷ ys))

pub holds_is : (xs : List (List ℕ)) → holds_text (ended_lines xs) ≡ grammar.has_text xs
holds_is xs = ap (λ (t : List ℕ). not (is_blank (after_definitions t))) (unended_is xs)

prose_is : (xs : List (List ℕ)) (t : List ℕ) (s : Start) → prose_on (ended_lines xs) t s ≡ option_map leaf_of (grammar.prose_more xs t s)
prose_is xs t text_start = ap (λ (u : List ℕ). Some (Paragraph u)) (one_ended xs (trim_front t))
prose_is xs t (underline_start level) = refl
prose_is xs t blank_start = refl
prose_is xs t quote_start = refl
prose_is xs t (atx_start level u) = refl
prose_is xs t (fence_start i mark len info) = refl
prose_is xs t (html_start kind) = refl
prose_is xs t break_start = refl
prose_is xs t (item_start kind number digits) = refl
prose_is xs t indented_start = refl

code_is : (xs ps : List (List ℕ)) (col : ℕ) (t : List ℕ) → code_on (ended_lines xs) (ended_lines ps) col t ≡ option_map leaf_of (grammar.code_more xs ps col t)
code_is xs ps col t = go (is_blank t) (nat_lt (indent col t) 4) where
  more : ended_lines ps ++ ended (line_text (shifted 4 col t)) ≡ ended_lines (ps ++ line_text (shifted 4 col t) ∷ [])
  more = one_ended ps (line_text (shifted 4 col t))

  whole : ended_lines xs ++ (ended_lines ps ++ ended (line_text (shifted 4 col t))) ≡ ended_lines (xs ++ (ps ++ line_text (shifted 4 col t) ∷ []))
  whole = ap (λ (v : List ℕ). ended_lines xs ++ v) more ∙ sym (ended-append xs (ps ++ line_text (shifted 4 col t) ∷ []))

  go : (b n : Bool)
      → (let m : List ℕ = ended_lines ps ++ ended (line_text (shifted 4 col t)) in let w : Option Leaf = cond b (Some (Indented (ended_lines xs) m)) (cond n None (Some (Indented (ended_lines xs ++ m) []))) in w)
      ≡ option_map leaf_of (cond b (Some (grammar.indented_code xs (ps ++ line_text (shifted 4 col t) ∷ []))) (cond n None (Some (grammar.indented_code (xs ++ (ps ++ line_text (shifted 4 col t) ∷ [])) []))))
  go true n = ap (λ (v : List ℕ). Some (Indented (ended_lines xs) v)) more
  go false true = refl
  go false false = ap (λ (v : List ℕ). Some (Indented v [])) whole

fence_is : (i mark len : ℕ) (info : List ℕ) (xs : List (List ℕ)) (closed : Bool) (col : ℕ) (t : List ℕ) → fence_on i mark len info (ended_lines xs) closed col t ≡ option_map leaf_of (grammar.fence_more i mark len info xs closed col t)
fence_is i mark len info xs true col t = refl
fence_is i mark len info xs false col t = go (closes_fence mark len col t) where
  go : (b : Bool)
      → cond b (Some (Fenced i mark len info (ended_lines xs) true)) (Some (Fenced i mark len info (ended_lines xs ++ ended (line_text (shifted i col t))) false))
      ≡ option_map leaf_of (cond b (Some (grammar.fenced_code i mark len info xs true)) (Some (grammar.fenced_code i mark len info (xs ++ line_text (shifted i col t) ∷ []) false)))
  go true = refl
  go false = ap (λ (u : List ℕ). Some (Fenced i mark len info u false)) (one_ended xs (line_text (shifted i col t)))

html_is : (kind : HtmlKind) (xs : List (List ℕ)) (closed : Bool) (t : List ℕ) → html_on kind (ended_lines xs) closed t ≡ option_map leaf_of (grammar.html_more kind xs closed t)
html_is kind xs true t = refl
html_is kind xs false t = go (ends_at_blank kind && is_blank t) (ends_html kind t) where
  go : (b e : Bool) → cond b None (Some (Html kind (ended_lines xs ++ ended t) e)) ≡ option_map leaf_of (cond b None (Some (grammar.html_block kind (xs ++ t ∷ []) e)))
  go true e = refl
  go false e = ap (λ (u : List ℕ). Some (Html kind u e)) (one_ended xs t)

-- a leaf takes a line, by its lines or by its text
pub more_is : (s : grammar.Leaf) (l : Line) → more_of (leaf_of s) l ≡ option_map leaf_of (grammar.more s l)
more_is (grammar.paragraph xs) (own_line col t) =
    ap (λ (b : Bool). prose_on (ended_lines xs) t (start_of (in_paragraph b) col t)) (holds_is xs) ∙ prose_is xs t (start_of (in_paragraph (grammar.has_text xs)) col t)
more_is (grammar.paragraph xs) (lazy_line t) = ap (λ (u : List ℕ). Some (Paragraph u)) (one_ended xs (trim_front t))
more_is (grammar.setext_heading level xs) (own_line col t) = refl
more_is (grammar.setext_heading level xs) (lazy_line t) = refl
more_is (grammar.atx_heading level u) (own_line col t) = refl
more_is (grammar.atx_heading level u) (lazy_line t) = refl
more_is grammar.thematic_break (own_line col t) = refl
more_is grammar.thematic_break (lazy_line t) = refl
more_is (grammar.indented_code xs ps) (own_line col t) = code_is xs ps col t
more_is (grammar.indented_code xs ps) (lazy_line t) = refl
more_is (grammar.fenced_code i mark len info xs closed) (own_line col t) = fence_is i mark len info xs closed col t
more_is (grammar.fenced_code i mark len info xs closed) (lazy_line t) = refl
more_is (grammar.html_block kind xs closed) (own_line col t) = html_is kind xs closed t
more_is (grammar.html_block kind xs closed) (lazy_line t) = refl
