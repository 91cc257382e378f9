-- Spans, and the grammar's spot behind them.
use Rattle.std.specs.Char.{encode_utf8}
use Rattle.std.proofs.Common.{codes, ◌≡◌, nat_lt, not, ◌&&◌, ◌||◌, ◌∙◌, Bool, List, None, Option, Some, [], ap, append-nil, append_assoc, arith, cond, drop, false, get_or, length, refl, reverse, subst, suc, sym, take, true, zero, ℕ, ◌++◌, ◌+◌, ◌-◌, ◌<◌, ◌==◌, ◌∷◌, ◌≤◌}
use Rattle.std.specs.Str.{IsCharBoundary}
use Rattle.std.proofs.lemmas.List.{drop-drop, drop_more, reverse-append}
use Rattle.std.proofs.lemmas.Str.{IsCharBoundary-from_rest}
use Rattle.markdown_grammar.proofs.TextRecursions.{pieces_is}
use Rattle.markdown_grammar.specs.Autolinks.{email, pointed, uri}
use Rattle.markdown_grammar.specs.CodeSpans as code
use Rattle.markdown_grammar.specs.CodeSpans.{before_run, code_at}
use Rattle.markdown_grammar.specs.Definitions.{Definition}
use Rattle.markdown_grammar.specs.Flanking.{char_after, char_before, is_unicode_punct, left_flanking, right_flanking}
use Rattle.site_text.specs.Bytes.{is_punct}
use Rattle.site_text.specs.Fronts.{first_byte, run_len}
use Rattle.markdown_grammar.specs.Inlines.{code_span, hard_break, no_inlines, raw_html, soft_break}
use Rattle.markdown_grammar.specs.Links.{close_bracket}
use Rattle.markdown_grammar.specs.Pieces.{Piece, delimiter_run, finished, open_bracket, run_at}
use Rattle.markdown_grammar.specs.Reading.{Spot, further, next_spot, pieces_at, pieces_from}
use Rattle.markdown_grammar.specs.References.{CharRef, front_reference}
use Rattle.markdown_grammar.specs.Spans.{between_ends, escape_at, piece_at, pointed_at, reference_at, spaces_at, textual_at, to_link}
use Rattle.markdown_grammar.specs.Tags.{html_tag}
use Rattle.cm_spans.specs.Cuts.{Ends}
use Rattle.cm_spans.specs.Pieces.{piece_of, taken_of}
use Rattle.cm_spans.specs.declared.spans.Span.{Span}
use Rattle.cm_spans.specs.declared.spans.Taken.{Taken}
use Rattle.cm_spans.specs.declared.spans.Span.TheVariants as span
use Rattle.cm_inlines.specs.Cells.{Cell, cells_in, cells_of, bracket_cell, run_cell}
use Rattle.cm_inlines.specs.Nodes.{cells}
use Rattle.cm_inlines.specs.States.{Closes, IsPlaced, Reads, Sound, spot_at, waiting}
use Rattle.cm_inlines.specs.Steps.{span_nodes}
use Rattle.cm_inlines.specs.declared.node.Node.{Node}
use Rattle.cm_inlines.proofs.CellLaws.{cells-append, cells_of-append}
use Rattle.cm_inlines.proofs.Closing.{placed-append, placed_later}
use Rattle.cm_spans.specs.Pieces.{mark_byte}
use Rattle.cm_inlines.proofs.Slots.{after, cells_gaps, gaps, waiting-append, waiting_gaps}

-- ---- the spot behind a piece

take_add : (a b : ℕ) (l : List ℕ) → take (a + b) l ≡ take a l ++ take b (drop a l)
take_add zero b l = let e : 0 + b ≡ b = omega arith in ap (λ (k : ℕ). take k l) e
take_add (suc a) b [] = nothing b (suc a + b) where
  nothing : (m n : ℕ) → take n (let e : List ℕ = [] in e) ≡ take m (let e : List ℕ = [] in e)
  nothing zero zero = refl
  nothing zero (suc n) = refl
  nothing (suc m) zero = refl
  nothing (suc m) (suc n) = refl
take_add (suc a) b (c ∷ cs) = let e : suc a + b ≡ suc (a + b) = omega arith in ap (λ (k : ℕ). take k (c ∷ cs)) e ∙ ap (λ (xs : List ℕ). c ∷ xs) (take_add a b cs)

pub further_is : (t : List ℕ) (at n : ℕ) (ps : List Piece) (c : ℕ) (cs : List ℕ) → drop at t ≡ c ∷ cs → 0 < n → further ps n (reverse (take at t)) c cs ≡ spot_at t ps (at + n)
further_is t at zero ps c cs d some = absurd (omega (arith, some))
further_is t at (suc m) ps c cs d some =
    let less : suc m - 1 ≡ m = omega arith in
    let done : reverse (take m cs) ++ c ∷ reverse (take at t) ≡ reverse (take (at + suc m) t) =
    sym (ap (λ (x : List ℕ). reverse x) (take_add at (suc m) t ∙ ap (λ (x : List ℕ). take at t ++ take (suc m) x) d) ∙ reverse-append (take at t) (c ∷ take m cs)
    ∙ ap (λ (x : List ℕ). x ++ reverse (take at t)) (reverse-append (c ∷ []) (take m cs)) ∙ append_assoc (reverse (take m cs)) (c ∷ []) (reverse (take at t))) in
    let left : drop m cs ≡ drop (at + suc m) t = sym (sym (drop-drop (suc m) at t) ∙ ap (drop (suc m)) d) in
    ap (λ (k : ℕ). record { before = ps; done = reverse (take k cs) ++ c ∷ reverse (take at t); left = drop k cs }) less
    ∙ ap (λ (x : List ℕ). record { before = ps; done = x; left = drop m cs }) done ∙ ap (λ (x : List ℕ). record { before = ps; done = reverse (take (at + suc m) t); left = x }) left

-- one step of the reading
pub step_at : (defs : List Definition) (t : List ℕ) (at : ℕ) (before : List Piece) (c : ℕ) (cs : List ℕ) → drop at t ≡ c ∷ cs → pieces_from defs (spot_at t before at) ≡ pieces_from defs (next_spot defs before (reverse (take at t)) c cs)
step_at defs t at before c cs d = pieces_is defs (spot_at t before at) ∙ ap (pieces_at defs (pieces_from defs) before (reverse (take at t))) d

pub end_at : (defs : List Definition) (t : List ℕ) (at : ℕ) (before : List Piece) → drop at t ≡ [] → pieces_from defs (spot_at t before at) ≡ before
end_at defs t at before d = pieces_is defs (spot_at t before at) ∙ ap (pieces_at defs (pieces_from defs) before (reverse (take at t))) d

-- ---- brackets take one byte or two

abbrev TakesFew : Piece → ℕ → Type 0
TakesFew (open_bracket true a b) n = n ≡ 2
TakesFew (open_bracket false a b) n = n ≡ 1
TakesFew (finished xs) n = Unit {0}
TakesFew (delimiter_run m l f o c) n = Unit {0}

abbrev Few : code.Taken → Type 0
Few x = TakesFew x.0 x.1

either : (b : Bool) (x y : code.Taken) → Few x → Few y → Few (cond b x y)
either true x y p q = p
either false x y p q = q

escape_few : (t : List ℕ) → Few (escape_at t)
escape_few t = go (first_byte (drop 1 t) == 10) (is_punct (first_byte (drop 1 t))) where
  go : (a b : Bool) → Few (cond a (finished (hard_break no_inlines), 2) (cond b (code.as_textual (first_byte (drop 1 t) ∷ []) 2) (code.as_textual (codes "\\") 1)))
  go true b = tt
  go false true = tt
  go false false = tt

reference_few : (t : List ℕ) → Few (reference_at t)
reference_few t = go (front_reference t) where
  go : (o : Option CharRef) → Few (elim o as (λ x. code.Taken) [ Some r ↦ code.as_textual (encode_utf8 r.0) r.1 | None ↦ code.as_textual (codes "&") 1 ])
  go (Some r) = tt
  go None = tt

code_few : (t : List ℕ) → Few (code_at t)
code_few t = go (run_len (λ c. c == 96) t) (before_run (run_len (λ c. c == 96) t) 0 (drop (run_len (λ c. c == 96) t) t)) where
  go : (n : ℕ) (o : Option ℕ) → Few (elim o as (λ x. code.Taken) [ Some k ↦ (finished (code_span (code.span_text (take (k - n) (drop n t))) no_inlines), n + k) | None ↦ code.as_textual (take n t) n ])
  go n (Some k) = tt
  go n None = tt

pointed_few : (t : List ℕ) → Few (pointed_at t)
pointed_few t = go (pointed uri t) (pointed email t) (html_tag t) where
  go : (a b c : Option ℕ) → Few (elim a as (λ x. code.Taken) [
    | Some n ↦ (to_link [] (between_ends n t), n)
    | None ↦ elim b as (λ x. code.Taken) [
      | Some n ↦ (to_link (codes "mailto:") (between_ends n t), n)
      | None ↦ elim c as (λ x. code.Taken) [ Some n ↦ (finished (raw_html (take n t) no_inlines), n) | None ↦ code.as_textual (codes "<") 1 ]
    ]
  ])
  go (Some n) b c = tt
  go None (Some n) c = tt
  go None None (Some n) = tt
  go None None None = tt

marks_few : (c n before after : ℕ) → Few (run_at c n before after, n)
marks_few c n before after = go (c == 42) (left_flanking before after) (right_flanking before after) where
  go : (b left right : Bool) → Few (cond b (delimiter_run c n n left right) (delimiter_run c n n (left && (not right || is_unicode_punct before)) (right && (not left || is_unicode_punct after))), n)
  go true left right = tt
  go false left right = tt

spaces_few : (t : List ℕ) → Few (spaces_at t)
spaces_few t = go (run_len (λ c. c == 32) t) (first_byte (drop (run_len (λ c. c == 32) t) t) == 10) where
  go : (n : ℕ) (b : Bool) → Few (cond b (finished (cond (nat_lt 1 n) (hard_break no_inlines) (soft_break no_inlines)), n + 1) (code.as_textual (take n t) n))
  go n true = tt
  go n false = tt

piece_few : (done t : List ℕ) → Few (piece_at done t)
piece_few done t =
    let c = first_byte t in
    let n = run_len (λ d. d == c) t in
    let run : code.Taken = (run_at c n (char_before done) (char_after (drop n t)), n) in
    let bracket : code.Taken = (open_bracket false true (drop 1 t), 1) in
    let image : code.Taken = (open_bracket true true (drop 2 t), 2) in
    let r1 : code.Taken = cond ((c == 32) || (c == 10)) (spaces_at t) (textual_at t) in
    let r2 : code.Taken = cond ((c == 33) && (first_byte (drop 1 t) == 91)) image r1 in
    let r3 : code.Taken = cond (c == 91) bracket r2 in
    let r4 : code.Taken = cond ((c == 42) || (c == 95)) run r3 in
    let r5 : code.Taken = cond (c == 60) (pointed_at t) r4 in
    let r6 : code.Taken = cond (c == 96) (code_at t) r5 in
    let r7 : code.Taken = cond (c == 38) (reference_at t) r6 in
    either (c == 92) (escape_at t) r7 (escape_few t)
    (either (c == 38) (reference_at t) r6 (reference_few t)
    (either (c == 96) (code_at t) r5 (code_few t)
    (either (c == 60) (pointed_at t) r4 (pointed_few t)
    (either ((c == 42) || (c == 95)) run r3 (marks_few c n (char_before done) (char_after (drop n t)))
    (either (c == 91) bracket r2 refl
    (either ((c == 33) && (first_byte (drop 1 t) == 91)) image r1 refl
    (either ((c == 32) || (c == 10)) (spaces_at t) (textual_at t) (spaces_few t) tt)))))))

taken_few : (done t : List ℕ) (taken : Taken) → taken_of taken t ≡ piece_at done t → TakesFew (piece_of taken.span t) taken.len
taken_few done t taken h = subst Few (sym h) (piece_few done t)

-- ---- the nodes of a span

span_cells : (t : List ℕ) (at : ℕ) (s : Span) → cells t (span_nodes s at) ≡ cells_in (piece_of s (drop at t))
span_cells t at (span.Run m) = ap (λ (cs : List Cell). run_cell (mark_byte m.mark) m.len m.len m.opens m.closes ∷ cs) (sym (ap (cells t) (append-nil (gaps (m.len - 1)))) ∙ cells_gaps t (m.len - 1) [])
span_cells t at span.Bracket = ap (λ (b : List ℕ). bracket_cell false true b ∷ []) (sym (drop-drop 1 at t))
span_cells t at span.ImageBracket = ap (λ (b : List ℕ). bracket_cell true true b ∷ []) (sym (drop-drop 2 at t))
span_cells t at s = refl

span_slots : (s : Span) (at : ℕ) → waiting 0 (span_nodes s at) ≡ Some 0
span_slots (span.Run m) at = ap (waiting (m.len - 1)) (sym (append-nil (gaps (m.len - 1)))) ∙ waiting_gaps (m.len - 1) (m.len - 1) [] (omega arith)
span_slots s at = refl

gaps_placed : (t : List ℕ) (at m : ℕ) → IsPlaced t at (gaps m)
gaps_placed t at zero = tt
gaps_placed t at (suc m) = (tt, gaps_placed t at m)

bracket_placed : (t : List ℕ) (at few n : ℕ) → n ≡ few → IsCharBoundary t (at + n) → (at + few ≤ at + n) × IsCharBoundary t (at + few)
bracket_placed t at few n e cut = (omega (arith, e), subst (λ (k : ℕ). IsCharBoundary t (at + k)) e cut)

span_placed : (t : List ℕ) (at n : ℕ) (s : Span) → TakesFew (piece_of s (drop at t)) n → IsCharBoundary t (at + n) → IsPlaced t (at + n) (span_nodes s at)
span_placed t at n (span.Run m) few cut = (tt, gaps_placed t (at + n) (m.len - 1))
span_placed t at n span.Bracket few cut = (bracket_placed t at 1 n few cut, tt)
span_placed t at n span.ImageBracket few cut = (bracket_placed t at 2 n few cut, tt)
span_placed t at n s few cut = (tt, tt)

-- ---- what a call reads

pub not_same : (c k : ℕ) → (c ≡ k → ⊥) → (c == k) ≡ false
not_same c k h = grind (arith, h)

same_as : (c k : ℕ) → c ≡ k → (c == k) ≡ true
same_as c k h = grind (arith, h)

abbrev pub next_case : List Definition → List Piece → List ℕ → ℕ → List ℕ → Bool → Spot
next_case defs before done c cs b = cond b (let r = close_bracket defs before cs in further r.0 (r.1 + 1) done c cs) (let r = piece_at done (c ∷ cs) in further (before ++ r.0 ∷ []) r.1 done c cs)

pub reads_span : (defs : List Definition) (t : List ℕ) (at : ℕ) (old new : List Node) (taken : Taken) → at < length t → (get_or t at 0 ≡ 93 → ⊥) → Sound t at old → taken_of taken (drop at t) ≡ piece_at (reverse (take at t)) (drop at t) → Ends (drop at t) taken.len
    → new ≡ old ++ span_nodes taken.span at → Reads defs t at old new taken.len
reads_span defs t at old new taken lt other s value ends e =
    let n = taken.len in
    let done = reverse (take at t) in
    let c = get_or t at 0 in
    let cs = drop (at + 1) t in
    let d : drop at t ≡ c ∷ cs = drop_more t at 0 lt in
    let cut : IsCharBoundary t (at + n) = IsCharBoundary-from_rest t at n (omega (arith, lt)) ends.cut in
    let few = taken_few done (drop at t) taken value in
    let le : at ≤ at + n = omega arith in
    let test : (c == 93) ≡ false = not_same c 93 other in
    let piece = piece_of taken.span (drop at t) in
    let is : (piece, n) ≡ piece_at done (c ∷ cs) = value ∙ ap (piece_at done) d in
    record {
      some = ends.some;
      within = cut.0;
      sound = λ before g. record {
        slots = ap (waiting 0) e ∙ waiting-append 0 old (span_nodes taken.span at) ∙ ap (λ (o : Option ℕ). after o (span_nodes taken.span at)) s.slots ∙ span_slots taken.span at;
        placed = subst (IsPlaced t (at + n)) (sym e) (placed-append t (at + n) old (span_nodes taken.span at) (placed_later t at (at + n) old le s.placed) (span_placed t at n taken.span few cut));
        cut = cut;
      };
      goes_on = λ before g. record {
        pieces = before ++ piece ∷ [];
        shown = ap (cells t) e ∙ cells-append t old (span_nodes taken.span at) ∙ ap (λ (xs : List Cell). xs ++ cells t (span_nodes taken.span at)) g
            ∙ ap (λ (xs : List Cell). cells_of before ++ xs) (span_cells t at taken.span ∙ sym (append-nil (cells_in piece))) ∙ sym (cells_of-append before (piece ∷ []));
        same = step_at defs t at before c cs d
            ∙ ap (λ (b : Bool). pieces_from defs (next_case defs before done c cs b)) test
            ∙ ap (λ (r : code.Taken). pieces_from defs (further (before ++ r.0 ∷ []) r.1 done c cs)) (sym is)
            ∙ ap (pieces_from defs) (further_is t at n (before ++ piece ∷ []) c cs d ends.some);
      };
    }

pub reads_bracket : (defs : List Definition) (t : List ℕ) (at : ℕ) (old new : List Node) (n : ℕ) → at < length t → get_or t at 0 ≡ 93 → Closes defs t at old new n → Reads defs t at old new (n + 1)
reads_bracket defs t at old new n lt is closes =
    let done = reverse (take at t) in
    let c = get_or t at 0 in
    let cs = drop (at + 1) t in
    let d : drop at t ≡ c ∷ cs = drop_more t at 0 lt in
    let test : (c == 93) ≡ true = same_as c 93 is in
    record {
      some = omega arith;
      within = closes.within;
      sound = closes.sound;
      goes_on = λ before g. record {
        pieces = (close_bracket defs before cs).0;
        shown = closes.shown before g;
        same = step_at defs t at before c cs d
            ∙ ap (λ (b : Bool). pieces_from defs (next_case defs before done c cs b)) test
            ∙ ap (λ (k : ℕ). pieces_from defs (further (close_bracket defs before cs).0 (k + 1) done c cs)) (sym (closes.taken before g))
            ∙ ap (pieces_from defs) (further_is t at (n + 1) (close_bracket defs before cs).0 c cs d (omega arith));
      };
    }
