-- Leaves that take one more line.
use Rattle.std.proofs.Common.{Bool, IsUtf8, List, IfSome, None, Option, Some, [], ap, arith, cond, drop, false, length, nat_lt, option_map, refl, subst, suc, sym, take, true, zero, ℕ, ◌++◌, ◌+◌, ◌-◌, ◌<◌, ◌∙◌, ◌∷◌, ◌≡◌, ◌≤◌}
use Rattle.std.specs.Str.{IsCharBoundary}
use Rattle.std.proofs.lemmas.Str.{IsCharBoundary-after_ascii}
use Rattle.markdown_grammar.specs.Columns.{indent}
use Rattle.markdown_grammar.specs.Lines.{is_blank, trim_front}
use Rattle.markdown_grammar.specs.Definitions.{Definition, after_definitions, definitions, front_definition, total_size}
use Rattle.markdown_grammar.proofs.TextRecursions.{definitions_is}
use Rattle.markdown_grammar.specs.Breaks.{break_at}
use Rattle.markdown_grammar.specs.Fences.{fence_at}
use Rattle.markdown_grammar.specs.Headings.{atx_at, underline_at, underline_of}
use Rattle.markdown_grammar.specs.HtmlStarts.{html_at}
use Rattle.markdown_grammar.specs.LineStarts.{mark_at, quote_at, start_of}
use Rattle.markdown_grammar.specs.ListMarks.{item_at}
use Rattle.markdown_grammar.specs.Places.{in_paragraph}
use Rattle.markdown_grammar.specs.Starts as starts
use Rattle.markdown_grammar.specs.Starts.{Start, ◌elsewise◌}
use Rattle.cm_blocks.specs.LineTexts.{ended}
use Rattle.cm_blocks.specs.Leaves.{prose_on}
use Rattle.cm_blocks.specs.Taking.{is_underline, next_of}
use Rattle.cm_blocks.specs.declared.kinds.Leaf.TheVariants as leaf
use Rattle.cm_blocks.specs.declared.leaf_more.Next.{Next}
use Rattle.cm_blocks.specs.declared.leaf_more.Next.TheVariants.{Other, Text, Underline}
use Rattle.cm_links.specs.Cuts.{IsFront}
use Rattle.cm_containers.specs.Spots.{IsSpot}
use Rattle.cm_containers.specs.declared.spots.Spot.{Spot}

-- behind a tab that is taken in part
pub behind_tab : (line : List ℕ) (s : Spot) → IsUtf8 line → IsSpot line s → s.start < s.column → IsCharBoundary line (s.at + 1)
behind_tab line s u h part = let tab = h.in_tab part in IsCharBoundary-after_ascii line s.at u tab.0 (omega (arith, tab.1))

-- the rest of a slice, as its range
pub whole_rest : (n : ℕ) (t : List ℕ) → take (length t - n) (drop n t) ≡ drop n t
whole_rest n t = go (drop n t) (length t - n) (drop_length n t) where
  drop_length : (n : ℕ) (t : List ℕ) → length (drop n t) ≡ length t - n
  drop_length zero t = omega arith
  drop_length (suc n) [] = omega arith
  drop_length (suc n) (c ∷ cs) = omega (arith, drop_length n cs)

  go : (u : List ℕ) (k : ℕ) → length u ≡ k → take k u ≡ u
  go [] zero e = refl
  go [] (suc k) e = refl
  go (c ∷ cs) zero e = absurd (omega (arith, e))
  go (c ∷ cs) (suc k) e = ap (λ (t : List ℕ). c ∷ t) (go cs k (omega (arith, e)))

-- ---- what a paragraph asks of a line

pub prose_text : (text t : List ℕ) (s : Start) → Text ≡ next_of s → prose_on text t s ≡ Some (leaf.Paragraph (text ++ ended (trim_front t)))
prose_text text t starts.text_start h = refl
prose_text text t (starts.underline_start level) h = absurd cc
prose_text text t starts.blank_start h = absurd cc
prose_text text t starts.quote_start h = absurd cc
prose_text text t (starts.atx_start level u) h = absurd cc
prose_text text t (starts.fence_start i mark len info) h = absurd cc
prose_text text t (starts.html_start kind) h = absurd cc
prose_text text t starts.break_start h = absurd cc
prose_text text t (starts.item_start kind number digits) h = absurd cc
prose_text text t starts.indented_start h = absurd cc

pub prose_underlined : (text t : List ℕ) (n : ℕ) (s : Start) → Underline n ≡ next_of s → prose_on text t s ≡ Some (leaf.Underlined n text)
prose_underlined text t n starts.text_start h = absurd cc
prose_underlined text t n (starts.underline_start level) h = let e : n ≡ level = cc in ap (λ (k : ℕ). Some (leaf.Underlined k text)) (sym e)
prose_underlined text t n starts.blank_start h = absurd cc
prose_underlined text t n starts.quote_start h = absurd cc
prose_underlined text t n (starts.atx_start level u) h = absurd cc
prose_underlined text t n (starts.fence_start i mark len info) h = absurd cc
prose_underlined text t n (starts.html_start kind) h = absurd cc
prose_underlined text t n starts.break_start h = absurd cc
prose_underlined text t n (starts.item_start kind number digits) h = absurd cc
prose_underlined text t n starts.indented_start h = absurd cc

pub prose_other : (text t : List ℕ) (s : Start) → Other ≡ next_of s → prose_on text t s ≡ None
prose_other text t starts.text_start h = absurd cc
prose_other text t (starts.underline_start level) h = absurd cc
prose_other text t starts.blank_start h = refl
prose_other text t starts.quote_start h = refl
prose_other text t (starts.atx_start level u) h = refl
prose_other text t (starts.fence_start i mark len info) h = refl
prose_other text t (starts.html_start kind) h = refl
prose_other text t starts.break_start h = refl
prose_other text t (starts.item_start kind number digits) h = refl
prose_other text t starts.indented_start h = refl

-- ---- only an underline asks whether the paragraph has text

abbrev Agree : Start → Start → Type 0
Agree s u = is_underline (next_of s) ≡ false → next_of s ≡ next_of u

behind_start : (a s u : Start) → Agree s u → Agree (a elsewise s) (a elsewise u)
behind_start starts.text_start s u h = h
behind_start (starts.underline_start level) s u h = λ e. refl
behind_start starts.blank_start s u h = λ e. refl
behind_start starts.quote_start s u h = λ e. refl
behind_start (starts.atx_start level v) s u h = λ e. refl
behind_start (starts.fence_start i mark len info) s u h = λ e. refl
behind_start (starts.html_start kind) s u h = λ e. refl
behind_start starts.break_start s u h = λ e. refl
behind_start (starts.item_start kind number digits) s u h = λ e. refl
behind_start starts.indented_start s u h = λ e. refl

underlines : (t : List ℕ) (rest : Start) → Agree (underline_at (in_paragraph true) t elsewise rest) (underline_at (in_paragraph false) t elsewise rest)
underlines t rest = go (underline_of 61 t) (underline_of 45 t) where
  go : (a b : Bool) → Agree (cond a (starts.underline_start 1) (cond b (starts.underline_start 2) starts.text_start) elsewise rest) rest
  go true b = λ e. absurd cc
  go false true = λ e. absurd cc
  go false false = λ e. refl

marks_agree : (i : ℕ) (t : List ℕ) → Agree (mark_at (in_paragraph true) i t) (mark_at (in_paragraph false) i t)
marks_agree i t =
    let items = item_at (in_paragraph true) t in
    let breaks = break_at t elsewise items in
    let on = underlines t breaks in
    let html = html_at (in_paragraph true) t in
    let a = underline_at (in_paragraph true) t elsewise breaks in
    let b = underline_at (in_paragraph false) t elsewise breaks in
    behind_start (quote_at t) (atx_at t elsewise (fence_at i t elsewise (html elsewise a))) (atx_at t elsewise (fence_at i t elsewise (html elsewise b)))
    (behind_start (atx_at t) (fence_at i t elsewise (html elsewise a)) (fence_at i t elsewise (html elsewise b)) (behind_start (fence_at i t) (html elsewise a) (html elsewise b) (behind_start html a b on)))

starts_agree : (col : ℕ) (t : List ℕ) → Agree (start_of (in_paragraph true) col t) (start_of (in_paragraph false) col t)
starts_agree col t = go (is_blank t) (nat_lt (indent col t) 4) where
  go : (b n : Bool) → Agree (cond b starts.blank_start (cond n (mark_at (in_paragraph true) (indent col t) (trim_front t)) starts.text_start)) (cond b starts.blank_start (cond n (mark_at (in_paragraph false) (indent col t) (trim_front t)) starts.text_start))
  go true n = λ e. refl
  go false true = marks_agree (indent col t) (trim_front t)
  go false false = λ e. refl

pub next_same : (b : Bool) (col : ℕ) (t : List ℕ) (n : Next) → n ≡ next_of (start_of (in_paragraph true) col t) → is_underline n ≡ false → n ≡ next_of (start_of (in_paragraph b) col t)
next_same true col t n e h = e
next_same false col t n e h = e ∙ starts_agree col t (sym (ap is_underline e) ∙ h)

-- ---- definitions at the front of a text

drop_none : (n : ℕ) → drop n (let e : List ℕ = [] in e) ≡ []
drop_none zero = refl
drop_none (suc n) = refl

drop_both : (a b : ℕ) (t : List ℕ) → drop b (drop a t) ≡ drop (a + b) t
drop_both zero b t = let e : b ≡ 0 + b = omega arith in ap (λ (n : ℕ). drop n t) e
drop_both (suc a) b [] = drop_none b ∙ sym (drop_none (suc a + b))
drop_both (suc a) b (c ∷ cs) = let e : suc (a + b) ≡ suc a + b = omega arith in drop_both a b cs ∙ ap (λ (n : ℕ). drop n (c ∷ cs)) e

abbrev ends_on : List ℕ → Option Definition → Option ℕ → Type 0
ends_on t o e = option_map (λ d. d.size) o ≡ e

pub after_none : (t : List ℕ) → None ≡ option_map (λ d. d.size) (front_definition t) → after_definitions t ≡ t
after_none [] h = ap (λ (ds : List Definition). drop (total_size ds) []) (definitions_is [])
after_none (c ∷ cs) h = ap (λ (ds : List Definition). drop (total_size ds) (c ∷ cs)) (definitions_is (c ∷ cs)) ∙ go (front_definition (c ∷ cs)) h where
  go : (o : Option Definition) → None ≡ option_map (λ d. d.size) o → drop (total_size (elim o as (λ x. List Definition) [ Some d ↦ d ∷ definitions (drop (d.size - 1) cs) | None ↦ [] ])) (c ∷ cs) ≡ c ∷ cs
  go None h = refl
  go (Some d) h = absurd cc

pub after_one : (t : List ℕ) (n : ℕ) → Some n ≡ option_map (λ d. d.size) (front_definition t) → 0 < n → n ≤ length t → after_definitions (drop n t) ≡ after_definitions t
after_one [] n h some lt = absurd (omega (arith, some, lt))
after_one (c ∷ cs) zero h some lt = absurd (omega (arith, some))
after_one (c ∷ cs) (suc n) h some lt = sym (ap (λ (ds : List Definition). drop (total_size ds) (c ∷ cs)) (definitions_is (c ∷ cs)) ∙ go (front_definition (c ∷ cs)) h) where
  go : (o : Option Definition) → Some (suc n) ≡ option_map (λ d. d.size) o
      → drop (total_size (elim o as (λ x. List Definition) [ Some d ↦ d ∷ definitions (drop (d.size - 1) cs) | None ↦ [] ])) (c ∷ cs) ≡ after_definitions (drop (suc n) (c ∷ cs))
  go None h = absurd cc
  go (Some d) h =
      let size : suc n ≡ d.size = cc in
      let less : d.size - 1 ≡ n = omega (arith, size) in
      ap (λ (k : ℕ). drop (k + total_size (definitions (drop (d.size - 1) cs))) (c ∷ cs)) (sym size) ∙ ap (λ (k : ℕ). drop (suc n + total_size (definitions (drop k cs))) (c ∷ cs)) less
      ∙ sym (drop_both (suc n) (total_size (definitions (drop n cs))) (c ∷ cs))

-- the definition's end that was found
pub found_end : (o : Option ℕ) (n : ℕ) (t : List ℕ) → o ≡ Some n → IfSome o (IsFront t) → IsFront t n
found_end None n t e h = absurd cc
found_end (Some k) n t e h = let same : k ≡ n = cc in subst (IsFront t) same h

pub shorter : (n : ℕ) (t u : List ℕ) → IsFront t n → u ≡ drop n t → length u < length t
shorter n t u h e = omega (arith, ap (λ (v : List ℕ). length v) e, drop_shorter n t, h.some, h.cut.0) where
  drop_shorter : (n : ℕ) (t : List ℕ) → length (drop n t) ≡ length t - n
  drop_shorter zero t = omega arith
  drop_shorter (suc n) [] = omega arith
  drop_shorter (suc n) (c ∷ cs) = omega (arith, drop_shorter n cs)

pub same_after : (n : ℕ) (t u : List ℕ) (o : Option ℕ) (whole : List ℕ) → o ≡ Some n → o ≡ option_map (λ d. d.size) (front_definition t) → IsFront t n → u ≡ drop n t → after_definitions t ≡ whole → after_definitions u ≡ whole
same_after n t u o whole e v h r w = ap (λ (x : List ℕ). after_definitions x) r ∙ after_one t n (sym e ∙ v) h.some h.cut.0 ∙ w

pub text_left : (t : List ℕ) (o : Option ℕ) (whole : List ℕ) → o ≡ None → o ≡ option_map (λ d. d.size) (front_definition t) → after_definitions t ≡ whole → t ≡ whole
text_left t o whole e v w = sym (after_none t (sym e ∙ v)) ∙ w
