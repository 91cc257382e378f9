-- Words and the spaces between them, read piece by piece.
use Rattle.std.proofs.Common.{◌≡◌, ◌∙◌, Bool, List, [], ap, append-nil, append_assoc, arith, cond, drop, false, length, map, not, refl, reverse, subst, Bor, Option, suc, sym, take, true, zero, ℕ, ◌++◌, ◌+◌, ◌-◌, ◌<◌, ◌==◌, ◌∷◌, ◌≤◌, ◌||◌, ◌&&◌}
use Rattle.std.specs.Str.{IsCharBoundary}
use Rattle.std.proofs.lemmas.List.{drop-drop, drop-take, length-take-le}
use Rattle.std.proofs.lemmas.Str.{IsCharBoundary-from_rest}
use Rattle.markdown_grammar.specs.CodeSpans.{Taken, as_textual, code_at}
use Rattle.markdown_grammar.specs.Definitions.{Definition}
use Rattle.markdown_grammar.specs.Flanking.{char_after, char_before}
use Rattle.site_text.specs.Bytes.{is_special}
use Rattle.site_text.specs.Fronts.{first_byte, run_len}
use Rattle.markdown_grammar.specs.Inlines.{no_inlines, textual}
use Rattle.markdown_grammar.specs.Pieces.{Piece, finished, open_bracket, run_at}
use Rattle.markdown_grammar.specs.Reading.{further, pieces_from}
use Rattle.markdown_grammar.specs.Spans.{escape_at, piece_at, pointed_at, reference_at, spaces_at, textual_at}
use Rattle.cm_spans.proofs.Runs.{same_is}
use Rattle.cm_spans.proofs.WordLaws.{line_space, words_within}
use Rattle.cm_spans.specs.Words.{is_line_end, is_word_at, words_len}
use Rattle.cm_inlines.specs.Cells.{Cell, cells_of, sealed}
use Rattle.cm_inlines.specs.Nodes.{cells}
use Rattle.cm_inlines.specs.States.{IsPlaced, Reads, Sound, spot_at, waiting}
use Rattle.cm_inlines.specs.Tokens.{text_token}
use Rattle.cm_inlines.specs.Words.{front_len, word_tokens, words, words_by}
use Rattle.cm_inlines.specs.declared.node.Node.{Node}
use Rattle.cm_inlines.specs.declared.node.Node.TheVariants as node
use Rattle.cm_inlines.proofs.CellLaws.{cells-append, cells_of-append}
use Rattle.cm_inlines.proofs.Closing.{placed-append, placed_later}
use Rattle.cm_inlines.proofs.Slots.{after, waiting-append}
use Rattle.cm_inlines.proofs.SpanLaws.{further_is, next_case, step_at}

abbrev is_text : ℕ → Bool
is_text c = not (is_special c)

abbrev is_space : ℕ → Bool
is_space c = c == 32

-- ---- the first piece

run_take : (p : ℕ → Bool) (u : List ℕ) (n : ℕ) → run_len p u ≤ n → run_len p (take n u) ≡ run_len p u
run_take p [] zero le = refl
run_take p [] (suc n) le = refl
run_take p (d ∷ ds) zero le = omega (arith, le)
run_take p (d ∷ ds) (suc n) le = go (p d) le (run_take p ds n) where
  size : Bool → ℕ → ℕ
  size b k = elim b as (λ x. ℕ) [ true ↦ suc k | false ↦ 0 ]

  go : (b : Bool) → size b (run_len p ds) ≤ suc n → (run_len p ds ≤ n → run_len p (take n ds) ≡ run_len p ds) → size b (run_len p (take n ds)) ≡ size b (run_len p ds)
  go true h k = ap suc (k (omega (arith, h)))
  go false h k = refl

take_take : (m n : ℕ) (u : List ℕ) → m ≤ n → take m (take n u) ≡ take m u
take_take zero n u le = refl
take_take (suc m) zero u le = absurd (omega (arith, le))
take_take (suc m) (suc n) [] le = refl
take_take (suc m) (suc n) (c ∷ cs) le = ap (λ (x : List ℕ). c ∷ x) (take_take m n cs (omega (arith, le)))

run_next : (p : ℕ → Bool) (d : ℕ) (ds : List ℕ) → p d ≡ true → run_len p (d ∷ ds) ≡ suc (run_len p ds)
run_next p d ds e = ap (λ (b : Bool). elim b as (λ x. ℕ) [ true ↦ suc (run_len p ds) | false ↦ 0 ]) e

run_none : (p : ℕ → Bool) (d : ℕ) (ds : List ℕ) → p d ≡ false → run_len p (d ∷ ds) ≡ 0
run_none p d ds e = ap (λ (b : Bool). elim b as (λ x. ℕ) [ true ↦ suc (run_len p ds) | false ↦ 0 ]) e

words_next : (d : ℕ) (ds : List ℕ) → is_word_at (d ∷ ds) ≡ true → words_len (d ∷ ds) ≡ suc (words_len ds)
words_next d ds e = ap (λ (b : Bool). cond b (suc (words_len ds)) 0) e

text_word : (d : ℕ) (ds : List ℕ) → is_special d ≡ false → is_word_at (d ∷ ds) ≡ true
text_word d ds e = ap (λ (a : Bool). not a || ((d == 32) && not (is_line_end (d ∷ ds)))) e

space_word : (d : ℕ) (ds : List ℕ) → (d == 32) ≡ true → is_line_end (d ∷ ds) ≡ false → is_word_at (d ∷ ds) ≡ true
space_word d ds e h = go (is_special d) ∙ ap (λ (x : Bool). not x) h where
  go : (a : Bool) → (not a || ((d == 32) && not (is_line_end (d ∷ ds)))) ≡ not (is_line_end (d ∷ ds))
  go true = ap (λ (b : Bool). b && not (is_line_end (d ∷ ds))) e
  go false = sym (ap (λ (x : Bool). not x) h)

other_than : (c k : ℕ) → is_special c ≡ false → is_special k ≡ true → (c == k) ≡ false
other_than c k h e = go (c == k) refl where
  go : (b : Bool) → (c == k) ≡ b → b ≡ false
  go false f = refl
  go true f = let same : is_special c ≡ is_special k = ap is_special (same_is c k f) in let clash : false ≡ true = sym h ∙ same ∙ e in absurd cc

-- behind so many bytes of a text its words go on
abbrev Goes : ℕ → List ℕ → Type 0
Goes k u = words_len u ≡ k + words_len (drop k u)

goes_at : (k m : ℕ) (u : List ℕ) → k ≡ m → Goes m u → Goes k u
goes_at k m u e h = subst (λ (j : ℕ). Goes j u) (sym e) h

goes_none : (u : List ℕ) → Goes 0 u
goes_none u = omega arith

goes_next : (d : ℕ) (ds : List ℕ) (k : ℕ) → is_word_at (d ∷ ds) ≡ true → Goes k ds → Goes (suc k) (d ∷ ds)
goes_next d ds k e h = omega (arith, words_next d ds e, h)

-- behind the rest of a word
text_run : (u : List ℕ) → Goes (run_len is_text u) u
text_run [] = refl
text_run (d ∷ ds) = go (is_special d) refl (text_run ds) where
  go : (a : Bool) → is_special d ≡ a → Goes (run_len is_text ds) ds → Goes (run_len is_text (d ∷ ds)) (d ∷ ds)
  go true e rest = goes_at (run_len is_text (d ∷ ds)) 0 (d ∷ ds) (run_none is_text d ds (ap (λ (x : Bool). not x) e)) (goes_none (d ∷ ds))
  go false e rest = goes_at (run_len is_text (d ∷ ds)) (suc (run_len is_text ds)) (d ∷ ds) (run_next is_text d ds (ap (λ (x : Bool). not x) e)) (goes_next d ds (run_len is_text ds) (text_word d ds e) rest)

-- and behind spaces that are not at the end of a line
space_run : (u : List ℕ) → is_line_end u ≡ false → Goes (run_len is_space u) u
space_run [] h = refl
space_run (d ∷ ds) h = go (d == 32) refl (space_run ds) where
  go : (b : Bool) → (d == 32) ≡ b → (is_line_end ds ≡ false → Goes (run_len is_space ds) ds) → Goes (run_len is_space (d ∷ ds)) (d ∷ ds)
  go true e rest =
      goes_at (run_len is_space (d ∷ ds)) (suc (run_len is_space ds)) (d ∷ ds) (run_next is_space d ds e) (goes_next d ds (run_len is_space ds) (space_word d ds e h) (rest (sym (line_space d ds e) ∙ h)))
  go false e rest = goes_at (run_len is_space (d ∷ ds)) 0 (d ∷ ds) (run_none is_space d ds e) (goes_none (d ∷ ds))

-- what stands at the front of a text, of which n bytes are words
record Front (u : List ℕ) (n : ℕ) : Type 0 where
  some : 0 < front_len u
  rest : n ≡ front_len u + words_len (drop (front_len u) u)
  piece : (done : List ℕ) → piece_at done u ≡ as_textual (take (front_len u) u) (front_len u)
  kept : front_len (take n u) ≡ front_len u

skip : (b : Bool) (x y : Taken) → b ≡ false → cond b x y ≡ y
skip b x y e = ap (λ (v : Bool). cond v x y) e

either_false : (a b : Bool) → a ≡ false → b ≡ false → (a || b) ≡ false
either_false a b e f = rw (e, f) refl

first_false : (a b : Bool) → a ≡ false → (a && b) ≡ false
first_false a b e = ap (λ (v : Bool). v && b) e

text_piece : (done : List ℕ) (c : ℕ) (cs : List ℕ) → is_special c ≡ false → piece_at done (c ∷ cs) ≡ textual_at (c ∷ cs)
text_piece done c cs e =
    let t = c ∷ cs in
    let n = run_len (λ d. d == c) t in
    let run : Taken = (run_at c n (char_before done) (char_after (drop n t)), n) in
    let bracket : Taken = (open_bracket false true (drop 1 t), 1) in
    let image : Taken = (open_bracket true true (drop 2 t), 2) in
    let r1 : Taken = cond ((c == 32) || (c == 10)) (spaces_at t) (textual_at t) in
    let r2 : Taken = cond ((c == 33) && (first_byte (drop 1 t) == 91)) image r1 in
    let r3 : Taken = cond (c == 91) bracket r2 in
    let r4 : Taken = cond ((c == 42) || (c == 95)) run r3 in
    let r5 : Taken = cond (c == 60) (pointed_at t) r4 in
    let r6 : Taken = cond (c == 96) (code_at t) r5 in
    let r7 : Taken = cond (c == 38) (reference_at t) r6 in
    skip (c == 92) (escape_at t) r7 (other_than c 92 e refl) ∙ skip (c == 38) (reference_at t) r6 (other_than c 38 e refl) ∙ skip (c == 96) (code_at t) r5 (other_than c 96 e refl)
    ∙ skip (c == 60) (pointed_at t) r4 (other_than c 60 e refl) ∙ skip ((c == 42) || (c == 95)) run r3 (either_false (c == 42) (c == 95) (other_than c 42 e refl) (other_than c 95 e refl))
    ∙ skip (c == 91) bracket r2 (other_than c 91 e refl) ∙ skip ((c == 33) && (first_byte (drop 1 t) == 91)) image r1 (first_false (c == 33) (first_byte (drop 1 t) == 91) (other_than c 33 e refl))
    ∙ skip ((c == 32) || (c == 10)) (spaces_at t) (textual_at t) (either_false (c == 32) (c == 10) (other_than c 32 e refl) (other_than c 10 e refl))

space_piece : (done : List ℕ) (c : ℕ) (cs : List ℕ) → c ≡ 32 → piece_at done (c ∷ cs) ≡ spaces_at (c ∷ cs)
space_piece done c cs e = let P : ℕ → Type 0 = λ k. piece_at done (k ∷ cs) ≡ spaces_at (k ∷ cs) in subst P (sym e) refl

front_text : (c : ℕ) (cs : List ℕ) → (c == 32) ≡ false → front_len (c ∷ cs) ≡ suc (run_len is_text cs)
front_text c cs e = ap (λ (b : Bool). cond b (run_len is_space (c ∷ cs)) (suc (run_len is_text cs))) e

front_space : (c : ℕ) (cs : List ℕ) → (c == 32) ≡ true → front_len (c ∷ cs) ≡ run_len is_space (c ∷ cs)
front_space c cs e = ap (λ (b : Bool). cond b (run_len is_space (c ∷ cs)) (suc (run_len is_text cs))) e

space_parts : (b l : Bool) → (b && not l) ≡ true → (b ≡ true) × (l ≡ false)
space_parts true false h = (refl, refl)
space_parts true true h = absurd cc
space_parts false l h = absurd cc

front : (c : ℕ) (cs : List ℕ) → is_word_at (c ∷ cs) ≡ true → Front (c ∷ cs) (words_len (c ∷ cs))
front c cs h = go (is_special c) refl where
  n : ℕ
  n = words_len (c ∷ cs)

  shape : take n (c ∷ cs) ≡ c ∷ take (words_len cs) cs
  shape = ap (λ (k : ℕ). take k (c ∷ cs)) (words_next c cs h)

  go : (a : Bool) → is_special c ≡ a → Front (c ∷ cs) n
  go false e =
      let other : (c == 32) ≡ false = other_than c 32 e refl in
      let len = front_text c cs other in
      let rest : Goes (front_len (c ∷ cs)) (c ∷ cs) = goes_at (front_len (c ∷ cs)) (suc (run_len is_text cs)) (c ∷ cs) len (goes_next c cs (run_len is_text cs) h (text_run cs)) in
      record {
        some = omega (arith, len);
        rest = rest;
        piece = λ done. text_piece done c cs e ∙ ap (λ (k : ℕ). as_textual (take k (c ∷ cs)) k) (sym len);
        kept = ap front_len shape ∙ front_text c (take (words_len cs) cs) other ∙ ap suc (run_take is_text cs (words_len cs) (omega (arith, text_run cs))) ∙ sym len;
      }
  go true e =
      let parts = space_parts (c == 32) (is_line_end (c ∷ cs)) (sym (ap (λ (a : Bool). not a || ((c == 32) && not (is_line_end (c ∷ cs)))) e) ∙ h) in
      let len = front_space c cs parts.0 in
      let all = space_run (c ∷ cs) parts.1 in
      record {
        some = omega (arith, len, run_next is_space c cs parts.0);
        rest = goes_at (front_len (c ∷ cs)) (run_len is_space (c ∷ cs)) (c ∷ cs) len all;
        piece = λ done. space_piece done c cs (same_is c 32 parts.0)
            ∙ skip (is_line_end (c ∷ cs)) _ (as_textual (take (run_len is_space (c ∷ cs)) (c ∷ cs)) (run_len is_space (c ∷ cs))) parts.1 ∙ ap (λ (k : ℕ). as_textual (take k (c ∷ cs)) k) (sym len);
        kept = ap front_len shape ∙ front_space c (take (words_len cs) cs) parts.0 ∙ ap (run_len is_space) (sym shape) ∙ run_take is_space (c ∷ cs) n (omega (arith, all)) ∙ sym len;
      }

-- ---- one piece after another

abbrev word_piece : List ℕ → Piece
word_piece w = finished (textual w no_inlines)

first_words : (k : ℕ) (v : List ℕ) → 0 < length v → words_by (suc k) v ≡ take (front_len v) v ∷ words_by k (drop (front_len v) v)
first_words k [] some = absurd (omega (arith, some))
first_words k (c ∷ cs) some = refl

words_split : (k n j : ℕ) (u : List ℕ) → 0 < length (take n u) → front_len (take n u) ≡ front_len u → n ≡ front_len u + j → words_by (suc k) (take n u) ≡ take (front_len u) u ∷ words_by k (take j (drop (front_len u) u))
words_split k n j u some kept e =
    first_words k (take n u) some ∙ ap (λ (m : ℕ). take m (take n u) ∷ words_by k (drop m (take n u))) kept
    ∙ ap (λ (w : List ℕ). w ∷ words_by k (drop (front_len u) (take n u))) (take_take (front_len u) n u (omega (arith, e)))
    ∙ ap (λ (w : List ℕ). take (front_len u) u ∷ words_by k w) (ap (λ (m : ℕ). drop (front_len u) (take m u)) e ∙ drop-take (front_len u) j u)

no_bracket : (c : ℕ) (cs : List ℕ) → is_word_at (c ∷ cs) ≡ true → (c == 93) ≡ false
no_bracket c cs h = go (c == 93) refl where
  go : (b : Bool) → (c == 93) ≡ b → b ≡ false
  go false e = refl
  go true e = let clash : false ≡ true = subst (λ (k : ℕ). is_word_at (k ∷ cs) ≡ true) (same_is c 93 e) h in absurd cc

-- where no word stands
none_read : (defs : List Definition) (t : List ℕ) (k at n : ℕ) (before : List Piece) (u : List ℕ) → n ≡ 0 → pieces_from defs (spot_at t before at) ≡ pieces_from defs (spot_at t (before ++ map word_piece (words_by k (take n u))) (at + n))
none_read defs t k at n before u e =
    let here : at ≡ at + n = omega (arith, e) in
    ap (λ (ps : List Piece). pieces_from defs (spot_at t ps at)) (sym (append-nil before) ∙ ap (λ (w : List (List ℕ)). before ++ map word_piece w) (sym (ap (λ (m : ℕ). words_by k (take m u)) e ∙ nothing k)))
    ∙ ap (λ (m : ℕ). pieces_from defs (spot_at t (before ++ map word_piece (words_by k (take n u))) m)) here
  where
    nothing : (m : ℕ) → words_by m [] ≡ []
    nothing zero = refl
    nothing (suc m) = refl

-- the first piece, and those that follow
one_read : (defs : List Definition) (t : List ℕ) (k at n : ℕ) (before : List Piece) (c : ℕ) (cs : List ℕ) → n ≤ suc k → drop at t ≡ c ∷ cs → is_word_at (c ∷ cs) ≡ true → n ≡ words_len (c ∷ cs)
    → ((at j : ℕ) (before : List Piece) → j ≤ k → j ≡ words_len (drop at t) → pieces_from defs (spot_at t before at) ≡ pieces_from defs (spot_at t (before ++ map word_piece (words_by k (take j (drop at t)))) (at + j)))
    → pieces_from defs (spot_at t before at) ≡ pieces_from defs (spot_at t (before ++ map word_piece (words_by (suc k) (take n (c ∷ cs)))) (at + n))
one_read defs t k at n before c cs le d h e rest =
    let u = c ∷ cs in
    let f = front c cs h in
    let m = front_len u in
    let j = words_len (drop m u) in
    let size : n ≡ m + j = e ∙ f.rest in
    let done = reverse (take at t) in
    let piece = word_piece (take m u) in
    let behind : drop m u ≡ drop (at + m) t = sym (sym (drop-drop m at t) ∙ ap (drop m) d) in
    let shape : take n u ≡ c ∷ take (words_len cs) cs = ap (λ (i : ℕ). take i u) (e ∙ words_next c cs h) in
    let some : 0 < length (take n u) = omega (arith, ap (λ (v : List ℕ). length v) shape) in
    let kept : front_len (take n u) ≡ m = ap (λ (i : ℕ). front_len (take i u)) e ∙ f.kept in
    let split : words_by (suc k) (take n u) ≡ take m u ∷ words_by k (take j (drop (at + m) t)) = words_split k n j u some kept size ∙ ap (λ (v : List ℕ). take m u ∷ words_by k (take j v)) behind in
    let place : at + m + j ≡ at + n = omega (arith, size) in
    step_at defs t at before c cs d
    ∙ ap (λ (b : Bool). pieces_from defs (next_case defs before done c cs b)) (no_bracket c cs h)
    ∙ ap (λ (r : Taken). pieces_from defs (further (before ++ r.0 ∷ []) r.1 done c cs)) (f.piece done)
    ∙ ap (pieces_from defs) (further_is t at m (before ++ piece ∷ []) c cs d f.some)
    ∙ rest (at + m) j (before ++ piece ∷ []) (omega (arith, size, f.some, le)) (ap words_len behind)
    ∙ ap (λ (ps : List Piece). pieces_from defs (spot_at t ps (at + m + j))) (append_assoc before (piece ∷ []) (map word_piece (words_by k (take j (drop (at + m) t)))) ∙ ap (λ (ws : List (List ℕ)). before ++ map word_piece ws) (sym split))
    ∙ ap (λ (i : ℕ). pieces_from defs (spot_at t (before ++ map word_piece (words_by (suc k) (take n u))) i)) place

words_read : (defs : List Definition) (t : List ℕ) (k at n : ℕ) (before : List Piece) → n ≤ k → n ≡ words_len (drop at t)
    → pieces_from defs (spot_at t before at) ≡ pieces_from defs (spot_at t (before ++ map word_piece (words_by k (take n (drop at t)))) (at + n))
words_read defs t zero at n before le e = none_read defs t zero at n before (drop at t) (omega (arith, le))
words_read defs t (suc k) at n before le e = go (drop at t) refl e (λ i j ps. words_read defs t k i j ps) where
  go : (u : List ℕ) → drop at t ≡ u → n ≡ words_len u
      → ((at j : ℕ) (before : List Piece) → j ≤ k → j ≡ words_len (drop at t) → pieces_from defs (spot_at t before at) ≡ pieces_from defs (spot_at t (before ++ map word_piece (words_by k (take j (drop at t)))) (at + j)))
      → pieces_from defs (spot_at t before at) ≡ pieces_from defs (spot_at t (before ++ map word_piece (words_by (suc k) (take n u))) (at + n))
  go [] d e rest = none_read defs t (suc k) at n before [] e
  go (c ∷ cs) d e rest = word (is_word_at (c ∷ cs)) refl where
    word : (b : Bool) → is_word_at (c ∷ cs) ≡ b → pieces_from defs (spot_at t before at) ≡ pieces_from defs (spot_at t (before ++ map word_piece (words_by (suc k) (take n (c ∷ cs)))) (at + n))
    word true h = one_read defs t k at n before c cs le d h e rest
    word false h = none_read defs t (suc k) at n before (c ∷ cs) (e ∙ ap (λ (b : Bool). cond b (suc (words_len cs)) 0) h)

-- ---- what a call reads

word_cells : (ws : List (List ℕ)) → map sealed (map text_token ws) ≡ cells_of (map word_piece ws)
word_cells [] = refl
word_cells (w ∷ ws) = ap (λ (cs : List Cell). sealed (text_token w) ∷ cs) (word_cells ws)

pub reads_words : (defs : List Definition) (t : List ℕ) (at n : ℕ) (old new : List Node) (s : Bor (List ℕ)) → at < length t → 0 < n → n ≡ words_len (drop at t) → IsCharBoundary (drop at t) n → Sound t at old
    → s.now ≡ take (at + n - at) (drop at t) → new ≡ old ++ node.Words s ∷ [] → Reads defs t at old new n
reads_words defs t at n old new s lt some size ends sound text e =
    let u = drop at t in
    let cut : IsCharBoundary t (at + n) = IsCharBoundary-from_rest t at n (omega (arith, lt)) ends in
    let le : at ≤ at + n = omega arith in
    let same : at + n - at ≡ n = omega arith in
    let is : s.now ≡ take n u = text ∙ ap (λ (k : ℕ). take k u) same in
    let long : length (take n u) ≡ n = length-take-le n u (omega (arith, size, words_within u)) in
    let fits : n ≤ length (take n u) = omega (arith, long) in
    let ns = node.Words s ∷ [] in
    record {
      some = some;
      within = cut.0;
      sound = λ before g. record {
        slots = ap (waiting 0) e ∙ waiting-append 0 old ns ∙ ap (λ (o : Option ℕ). after o ns) sound.slots;
        placed = subst (IsPlaced t (at + n)) (sym e) (placed-append t (at + n) old ns (placed_later t at (at + n) old le sound.placed) (tt, tt));
        cut = cut;
      };
      goes_on = λ before g. record {
        pieces = before ++ map word_piece (words s.now);
        shown = ap (cells t) e ∙ cells-append t old ns ∙ ap (λ (xs : List Cell). xs ++ cells t ns) g
            ∙ ap (λ (xs : List Cell). cells_of before ++ xs) (append-nil (map sealed (word_tokens s.now)) ∙ word_cells (words s.now)) ∙ sym (cells_of-append before (map word_piece (words s.now)));
        same = words_read defs t (length (take n u)) at n before fits size ∙ ap (λ (v : List ℕ). pieces_from defs (spot_at t (before ++ map word_piece (words v)) (at + n))) (sym is);
      };
    }
