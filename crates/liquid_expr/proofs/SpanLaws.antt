-- The insides of pieces lie between characters.
use Rattle.std.proofs.Common.{◌≡◌, ℕ, zero, suc, ◌+◌, ◌-◌, ◌<◌, ◌≤◌, max, Bool, true, false, cond, ltb, eqb, ◌&&◌, List, [], ◌∷◌, ◌++◌, length, take, drop, get_or, refl, sym, ap, subst, ◌∙◌, arith, inl, inr, codes, reverse, Option, Some, None}
use Rattle.std.specs.List.{suffix_len}
use Rattle.std.specs.Str.{IsUtf8, IsCharBoundary}
use Rattle.std.specs.Cmp.Lexicographic.{same_text}
use Rattle.std.proofs.lemmas.Bool.{ltb-true, ltb-false, eqb-true, eq-eqb, cond_both, or_cases}
use Rattle.std.proofs.lemmas.List.{drop-drop, length-drop, length-take, length-reverse, get_or-drop, get_or-take, get_or-reverse}
use Rattle.std.proofs.lemmas.List.Sums.{prefix_len_passes, prefix_len-le-length}
use Rattle.std.proofs.lemmas.Str.{IsCharBoundary-start, IsCharBoundary-end, IsCharBoundary-before_ascii, IsCharBoundary-after_ascii}
use Rattle.liquid_grammar.specs.declared.piece.Piece.{Piece}
use Rattle.liquid_grammar.specs.declared.piece.Front.{Front}
use Rattle.liquid_grammar.specs.declared.piece.Front.TheVariants.{Text, Output, Tag, Raw, Comment, Unclosed}
use Rattle.liquid_grammar.specs.Pieces.{first_place, begins, opens, is_tag, is_white, white_len, tag_place, tag_at, markup_at, front_of, has_first_dash, has_last_dash, span, inside_at, stripped_at, Rest, Cut, past, pieces_of, trims_after, raw_text, dropped_text, cut_is, with_front, cut_from, cut_of, line_ends}
use Rattle.liquid_expr.specs.Spans.{IsSpanOf}
use Rattle.liquid_expr.specs.CutSteps.{AreSpans}
use Rattle.liquid_expr.specs.Fits.{Fits, found_len}
use Rattle.liquid_expr.proofs.PlacesLaws.{place_le, place_at}
use Rattle.liquid_expr.proofs.FrontFits.{mark_fits, front_fits}
use Rattle.liquid_expr.proofs.TokenLaws.{white_ascii}
use Rattle.liquid_expr.proofs.CutLoop.{rest_at, at_some, past_is, then_found, then_none, cut_from_is}

abbrev pub EachOf : {X : Type 0} → (X → Type 0) → List X → Type 0
EachOf P [] = Unit {0}
EachOf P (x ∷ xs) = P x × EachOf P xs

each-append : {X : Type 0} (P : X → Type 0) (xs ys : List X) → EachOf P xs → EachOf P ys → EachOf P (xs ++ ys)
each-append P [] ys a b = b
each-append P (x ∷ xs) ys a b = (a.0, each-append P xs ys a.1 b)

pub each_at : {X : Type 0} (P : X → Type 0) (xs : List X) (i : ℕ) (d : X) → i < length xs → EachOf P xs → P (get_or xs i d)
each_at P [] i d lt a = absurd (omega arith)
each_at P (x ∷ xs) zero d lt a = a.0
each_at P (x ∷ xs) (suc i) d lt a = each_at P xs i d (omega arith) a.1

-- ---- The bytes of marks

-- an output or a tag, with its marks
record IsMarkup (xs : List ℕ) (n : ℕ) : Type 0 where
  long : 4 ≤ n
  within : n ≤ length xs
  first : get_or xs 1 0 < 128
  end_mark : get_or xs (n - 2) 0 < 128
  last : get_or xs (n - 1) 0 < 128

abbrev EndsWell : List ℕ → ℕ → Type 0
EndsWell xs n = (n ≤ length xs) × (n < length xs → get_or xs n 0 < 128)

-- what is known of the front of a text
abbrev IsFront : List ℕ → Front → Type 0
IsFront xs (Text n) = EndsWell xs n
IsFront xs (Output n) = IsMarkup xs n
IsFront xs (Tag n) = IsMarkup xs n
IsFront xs (Raw n m) = IsMarkup xs n × EndsWell xs (n + m)
IsFront xs (Comment n m) = IsMarkup xs n × EndsWell xs (n + m)
IsFront xs Unclosed = Unit {0}

two_bytes : (a b : ℕ) (xs : List ℕ) → begins (a ∷ b ∷ []) xs ≡ true → (get_or xs 0 0 ≡ a) × (get_or xs 1 0 ≡ b)
two_bytes a b xs e = at xs (same_text (a ∷ b ∷ []) (take 2 xs) (sym e)) where
  at : (ys : List ℕ) → a ∷ b ∷ [] ≡ take 2 ys → (get_or ys 0 0 ≡ a) × (get_or ys 1 0 ≡ b)
  at [] h = absurd cc
  at (x ∷ []) h = absurd cc
  at (x ∷ y ∷ ys) h = (cc, cc)

opens_ascii : (xs : List ℕ) → opens xs ≡ true → (get_or xs 0 0 < 128) × (get_or xs 1 0 < 128)
opens_ascii xs e = elim (or_cases (begins (codes "{{") xs) (begins (codes "{%") xs) e) [
  | inl h ↦ let t = two_bytes 123 123 xs h in (omega (arith, t.0), omega (arith, t.1))
  | inr h ↦ let t = two_bytes 123 37 xs h in (omega (arith, t.0), omega (arith, t.1))
]

and_left : (a b : Bool) → (a && b) ≡ true → a ≡ true
and_left true b e = refl
and_left false b e = absurd cc

tag_ascii : (word xs : List ℕ) → is_tag word xs ≡ true → get_or xs 0 0 < 128
tag_ascii word xs e = let t = two_bytes 123 37 xs (and_left (begins (codes "{%") xs) _ (and_left _ _ e)) in omega (arith, t.0)

-- a text that ends where a test holds, or at the end
place_ends : (p : List ℕ → Bool) (xs : List ℕ) (n : ℕ) → n ≤ length xs → ((ys : List ℕ) → p ys ≡ true → get_or ys 0 0 < 128) → EndsWell xs (n + first_place p (drop n xs))
place_ends p xs n le ascii =
    let m = first_place p (drop n xs) in
    let len : length (drop n xs) ≡ length xs - n = length-drop n xs in (
      omega (arith, place_le p (drop n xs)),
      λ lt.
          let here : get_or (drop m (drop n xs)) 0 0 < 128 = ascii (drop m (drop n xs)) (place_at p (drop n xs) (omega arith)) in
          let e : get_or (drop m (drop n xs)) 0 0 ≡ get_or xs (n + m) 0 = get_or-drop m (drop n xs) 0 0 ∙ get_or-drop n xs (m + 0) 0 ∙ ap (λ i. get_or xs i 0) (let k : n + (m + 0) ≡ n + m = omega arith in k) in
          subst (λ c. c < 128) e here,
    )

markup_of : (a b : ℕ) (xs : List ℕ) → a < 128 → b < 128 → get_or xs 1 0 < 128 → first_place (begins (a ∷ b ∷ [])) (drop 2 xs) < length (drop 2 xs) → IsMarkup xs (first_place (begins (a ∷ b ∷ [])) (drop 2 xs) + 4)
markup_of a b xs la lb one lt =
    let p = begins (a ∷ b ∷ []) in
    let o = first_place p (drop 2 xs) in
    let t = two_bytes a b (drop o (drop 2 xs)) (place_at p (drop 2 xs) lt) in
    let e0 : get_or (drop o (drop 2 xs)) 0 0 ≡ get_or xs (o + 4 - 2) 0 = get_or-drop o (drop 2 xs) 0 0 ∙ get_or-drop 2 xs (o + 0) 0 ∙ ap (λ i. get_or xs i 0) (let k : 2 + (o + 0) ≡ o + 4 - 2 = omega arith in k) in
    let e1 : get_or (drop o (drop 2 xs)) 1 0 ≡ get_or xs (o + 4 - 1) 0 = get_or-drop o (drop 2 xs) 1 0 ∙ get_or-drop 2 xs (o + 1) 0 ∙ ap (λ i. get_or xs i 0) (let k : 2 + (o + 1) ≡ o + 4 - 1 = omega arith in k) in
    record {
      long = omega arith;
      within = omega (arith, mark_fits a b (drop 2 xs) lt, length-drop 2 xs);
      first = one;
      end_mark = omega (arith, e0, t.0);
      last = omega (arith, e1, t.1);
    }

tag_front : (xs : List ℕ) (n : ℕ) → IsMarkup xs n → IsFront xs (tag_at xs n)
tag_front xs n mk =
    let rest = drop n xs in
    let m = tag_place (codes "endraw") rest in
    let k = tag_place (codes "endcomment") rest in
    cond_both (is_tag (codes "raw") xs) (cond (ltb m (length rest)) (Raw n m) Unclosed) (cond (is_tag (codes "comment") xs) (Comment n k) (Tag n)) (IsFront xs)
    (λ _. cond_both (ltb m (length rest)) (Raw n m) Unclosed (IsFront xs) (λ _. (mk, place_ends (is_tag (codes "endraw")) xs n mk.within (tag_ascii (codes "endraw")))) (λ _. tt))
    (λ _. cond_both (is_tag (codes "comment") xs) (Comment n k) (Tag n) (IsFront xs) (λ _. (mk, place_ends (is_tag (codes "endcomment")) xs n mk.within (tag_ascii (codes "endcomment")))) (λ _. mk))

markup_front : (xs : List ℕ) → get_or xs 1 0 < 128 → IsFront xs (markup_at xs)
markup_front xs one =
    let inside = drop 2 xs in
    let o = first_place (begins (codes "}}")) inside in
    let t = first_place (begins (codes "%}")) inside in
    cond_both (begins (codes "{{") xs) (cond (ltb o (length inside)) (Output (o + 4)) Unclosed) (cond (ltb t (length inside)) (tag_at xs (t + 4)) Unclosed) (IsFront xs)
    (λ _. cond_both (ltb o (length inside)) (Output (o + 4)) Unclosed (IsFront xs) (λ h. markup_of 125 125 xs (omega arith) (omega arith) one (ltb-true o (length inside) h)) (λ _. tt))
    (λ _. cond_both (ltb t (length inside)) (tag_at xs (t + 4)) Unclosed (IsFront xs) (λ h. tag_front xs (t + 4) (markup_of 37 125 xs (omega arith) (omega arith) one (ltb-true t (length inside) h))) (λ _. tt))

zero_place : (n : ℕ) → ltb 0 n ≡ false → n ≡ 0
zero_place n e = omega (arith, ltb-false 0 n e)

front_front : (xs : List ℕ) → 0 < length xs → IsFront xs (front_of xs)
front_front xs some =
    let n = first_place opens xs in
    cond_both (ltb 0 n) (Text n) (markup_at xs) (IsFront xs) (λ _. subst (EndsWell xs) (let k : 0 + n ≡ n = omega arith in k) (place_ends opens xs 0 (omega arith) (λ ys h. (opens_ascii ys h).0)))
    (λ h. let z : n ≡ 0 = zero_place n h in
    markup_front xs (subst (λ k. get_or (drop k xs) 1 0 < 128) z (opens_ascii (drop n xs) (place_at opens xs (omega arith))).1))

-- ---- Spans

module _ (text : List ℕ) (u : IsUtf8 text) where
  abbrev IsCutAt : ℕ → Type 0
  IsCutAt i = IsCharBoundary text i

  byte_at : (at k : ℕ) → get_or (drop at text) k 0 < 128 → get_or text (at + k) 0 < 128
  byte_at at k h = subst (λ c. c < 128) (get_or-drop at text k 0) h

  before_byte : (at k i : ℕ) → get_or (drop at text) k 0 < 128 → k < length (drop at text) → i ≡ at + k → IsCutAt i
  before_byte at k i h lt e = subst IsCutAt (sym e) (IsCharBoundary-before_ascii text (at + k) (omega (arith, length-drop at text)) (byte_at at k h))

  after_byte : (at k i : ℕ) → get_or (drop at text) k 0 < 128 → k < length (drop at text) → i ≡ at + k + 1 → IsCutAt i
  after_byte at k i h lt e = subst IsCutAt (sym e) (IsCharBoundary-after_ascii text (at + k) u (omega (arith, length-drop at text)) (byte_at at k h))

  max_cut : (a b : ℕ) → IsCutAt a → IsCutAt b → IsCutAt (max a b)
  max_cut a b p q = at (ltb a b) refl where
    at : (t : Bool) → ltb a b ≡ t → IsCutAt (max a b)
    at true e = subst IsCutAt (let k : b ≡ max a b = omega (arith, ltb-true a b e) in k) q
    at false e = subst IsCutAt (let k : a ≡ max a b = omega (arith, ltb-false a b e) in k) p

  span_of : (a b : ℕ) → IsCutAt a → IsCutAt b → IsSpanOf text (span a (max a b))
  span_of a b p q = record { order = omega arith; starts = p; ends = max_cut a b p q }

  markup_span : (at n : ℕ) → IsMarkup (drop at text) n → IsSpanOf text (inside_at at (drop at text) n)
  markup_span at n mk =
      let xs = drop at text in
      span_of (at + cond (has_first_dash xs) 3 2) (at + n - cond (has_last_dash xs n) 3 2) (starts (has_first_dash xs) refl) (ends (has_last_dash xs n) refl) where
        starts : (b : Bool) → has_first_dash (drop at text) ≡ b → IsCutAt (at + cond b 3 2)
        starts true e = let dash : get_or (drop at text) 2 0 ≡ 45 = eqb-true (get_or (drop at text) 2 0) 45 e in after_byte at 2 (at + 3) (omega (arith, dash)) (omega (arith, mk.long, mk.within)) (omega arith)
        starts false e = after_byte at 1 (at + 2) mk.first (omega (arith, mk.long, mk.within)) (omega arith)

        ends : (b : Bool) → has_last_dash (drop at text) n ≡ b → IsCutAt (at + n - cond b 3 2)
        ends true e = let dash : get_or (drop at text) (n - 3) 0 ≡ 45 = eqb-true (get_or (drop at text) (n - 3) 0) 45 e in before_byte at (n - 3) (at + n - 3) (omega (arith, dash)) (omega (arith, mk.long, mk.within)) (omega (arith, mk.long))
        ends false e = before_byte at (n - 2) (at + n - 2) mk.end_mark (omega (arith, mk.long, mk.within)) (omega (arith, mk.long))

  -- what is written of a text
  text_span : (at n : ℕ) (trims : Bool) → IsCutAt at → EndsWell (drop at text) n → at ≤ length text → IsSpanOf text (stripped_at at trims (drop at text) n)
  text_span at n trims here ends le =
      let xs = drop at text in
      let shown = take n xs in
      span_of (at + cond trims (white_len shown) 0) (at + n - cond (has_first_dash (drop n xs)) (suffix_len is_white shown) 0) (starts trims) (stops (has_first_dash (drop n xs))) where
        shown_len : length (take n (drop at text)) ≡ n
        shown_len = omega (arith, length-take n (drop at text), ends.0)

        behind : IsCutAt (at + n)
        behind = at_or (ltb n (length (drop at text))) refl where
          at_or : (b : Bool) → ltb n (length (drop at text)) ≡ b → IsCutAt (at + n)
          at_or true e = before_byte at n (at + n) (ends.1 (ltb-true n (length (drop at text)) e)) (ltb-true n (length (drop at text)) e) refl
          at_or false e = subst IsCutAt (let k : length text ≡ at + n = omega (arith, ltb-false n (length (drop at text)) e, ends.0, length-drop at text, le) in k) (IsCharBoundary-end text)

        front_byte : (w : ℕ) → w ≡ white_len (take n (drop at text)) → IsCutAt (at + w)
        front_byte zero e = subst IsCutAt (let k : at ≡ at + 0 = omega arith in k) here
        front_byte (suc w) e =
            let lt : w < n = omega (arith, e, prefix_len-le-length is_white (take n (drop at text)), shown_len) in
            let white : is_white (get_or (take n (drop at text)) w 0) ≡ true = prefix_len_passes is_white (take n (drop at text)) w 0 (omega (arith, e)) in
            let ascii : get_or (drop at text) w 0 < 128 = subst (λ c. c < 128) (get_or-take n (drop at text) w 0 lt) (white_ascii _ white) in
            after_byte at w (at + suc w) ascii (omega (arith, ends.0)) (omega arith)

        starts : (b : Bool) → IsCutAt (at + cond b (white_len (take n (drop at text))) 0)
        starts true = front_byte (white_len (take n (drop at text))) refl
        starts false = front_byte_zero where
          front_byte_zero : IsCutAt (at + 0)
          front_byte_zero = subst IsCutAt (let k : at ≡ at + 0 = omega arith in k) here

        last_byte : (w : ℕ) → w ≡ suffix_len is_white (take n (drop at text)) → IsCutAt (at + n - w)
        last_byte zero e = subst IsCutAt (let k : at + n ≡ at + n - 0 = omega arith in k) behind
        last_byte (suc w) e =
            let shown = take n (drop at text) in
            let le_n : suc w ≤ n = omega (arith, e, prefix_len-le-length is_white (reverse shown), length-reverse shown, shown_len) in
            let white : is_white (get_or (reverse shown) w 0) ≡ true = prefix_len_passes is_white (reverse shown) w 0 (omega (arith, e)) in
            let place : length shown - 1 - w ≡ n - suc w = omega (arith, shown_len) in
            let back : get_or (reverse shown) w 0 ≡ get_or (drop at text) (n - suc w) 0 = get_or-reverse shown w 0 (omega (arith, shown_len)) ∙ ap (λ i. get_or shown i 0) place ∙ get_or-take n (drop at text) (n - suc w) 0 (omega arith) in
            before_byte at (n - suc w) (at + n - suc w) (subst (λ c. c < 128) back (white_ascii _ white)) (omega (arith, ends.0)) (omega arith)

        stops : (b : Bool) → IsCutAt (at + n - cond b (suffix_len is_white (take n (drop at text))) 0)
        stops true = last_byte (suffix_len is_white (take n (drop at text))) refl
        stops false = subst IsCutAt (let k : at + n ≡ at + n - 0 = omega arith in k) behind

  -- ---- The pieces of a front

  abbrev HasSpan : Piece → Type 0
  HasSpan p = IsSpanOf text p.inner

  markup_end : (at n : ℕ) → IsMarkup (drop at text) n → IsCutAt (at + n)
  markup_end at n mk = after_byte at (n - 1) (at + n) mk.last (omega (arith, mk.long, mk.within)) (omega (arith, mk.long))

  ends_later : (at n m : ℕ) → EndsWell (drop at text) (n + m) → EndsWell (drop (at + n) text) m
  ends_later at n m e =
      let same : get_or (drop at text) (n + m) 0 ≡ get_or (drop (at + n) text) m 0 = get_or-drop at text (n + m) 0 ∙ ap (λ i. get_or text i 0) (let k : at + (n + m) ≡ at + n + m = omega arith in k) ∙ sym (get_or-drop (at + n) text m 0) in
      (omega (arith, e.0, length-drop at text, length-drop (at + n) text), λ lt. subst (λ c. c < 128) same (e.1 (omega (arith, lt, length-drop at text, length-drop (at + n) text))))

  raw_spans : (at n m line : ℕ) (trims later : Bool) → at ≤ length text → IsMarkup (drop at text) n → EndsWell (drop at text) (n + m) → EachOf HasSpan (raw_text m (past n later (rest_at text at line trims)))
  raw_spans at n zero line trims later le mk e = tt
  raw_spans at n (suc m) line trims later le mk e =
      let there : at + n ≤ length text = omega (arith, mk.within, length-drop at text) in
      (subst (λ xs. IsSpanOf text (stripped_at (at + n) later xs (suc m))) (sym (drop-drop n at text)) (text_span (at + n) (suc m) later (markup_end at n mk) (ends_later at n (suc m) e) there), tt)

  dropped_spans : (at n m line : ℕ) (trims : Bool) → IsMarkup (drop at text) n → EachOf HasSpan (dropped_text m (past n false (rest_at text at line trims)))
  dropped_spans at n zero line trims mk = tt
  dropped_spans at n (suc m) line trims mk = (record { order = omega arith; starts = markup_end at n mk; ends = markup_end at n mk }, tt)

  piece_spans : (f : Front) (at line : ℕ) (trims : Bool) → at ≤ length text → IsCutAt at → IsFront (drop at text) f → EachOf HasSpan (pieces_of f (rest_at text at line trims))
  piece_spans (Text n) at line trims le here e = (text_span at n trims here e le, tt)
  piece_spans (Output n) at line trims le here mk = (markup_span at n mk, tt)
  piece_spans (Tag n) at line trims le here mk = (markup_span at n mk, tt)
  piece_spans (Raw n m) at line trims le here e = (markup_span at n e.0, raw_spans at n m line trims (has_last_dash (drop at text) n) le e.0 e.1)
  piece_spans (Comment n m) at line trims le here e = (markup_span at n e.0, dropped_spans at n m line trims e.0)
  piece_spans Unclosed at line trims le here e = tt

  end_cut : (at n : ℕ) → at ≤ length text → EndsWell (drop at text) n → IsCutAt (at + n)
  end_cut at n le ends = at_or (ltb n (length (drop at text))) refl where
    at_or : (b : Bool) → ltb n (length (drop at text)) ≡ b → IsCutAt (at + n)
    at_or true e = before_byte at n (at + n) (ends.1 (ltb-true n (length (drop at text)) e)) (ltb-true n (length (drop at text)) e) refl
    at_or false e = subst IsCutAt (let k : length text ≡ at + n = omega (arith, ltb-false n (length (drop at text)) e, ends.0, length-drop at text, le) in k) (IsCharBoundary-end text)

  -- what follows the front begins between characters
  next_cut : (f : Front) (at len : ℕ) → at ≤ length text → IsFront (drop at text) f → found_len f ≡ Some len → IsCutAt (at + len)
  next_cut (Text n) at len le e is = let k : n ≡ len = cc in subst (λ i. IsCutAt (at + i)) k (end_cut at n le e)
  next_cut (Output n) at len le mk is = let k : n ≡ len = cc in subst (λ i. IsCutAt (at + i)) k (markup_end at n mk)
  next_cut (Tag n) at len le mk is = let k : n ≡ len = cc in subst (λ i. IsCutAt (at + i)) k (markup_end at n mk)
  next_cut (Raw n m) at len le e is = let k : n + m ≡ len = cc in subst (λ i. IsCutAt (at + i)) k (end_cut at (n + m) le e.1)
  next_cut (Comment n m) at len le e is = let k : n + m ≡ len = cc in subst (λ i. IsCutAt (at + i)) k (end_cut at (n + m) le e.1)
  next_cut Unclosed at len le e is = absurd cc

  next_len : (f : Front) (at len : ℕ) → Fits (length (drop at text)) f → found_len f ≡ Some len → (0 < len) × (len ≤ length (drop at text))
  next_len (Text n) at len e is = let k : n ≡ len = cc in (omega (arith, e.0, k), omega (arith, e.1, k))
  next_len (Output n) at len e is = let k : n ≡ len = cc in (omega (arith, e.0, k), omega (arith, e.1, k))
  next_len (Tag n) at len e is = let k : n ≡ len = cc in (omega (arith, e.0, k), omega (arith, e.1, k))
  next_len (Raw n m) at len e is = let k : n + m ≡ len = cc in (omega (arith, e.0, k), omega (arith, e.1, k))
  next_len (Comment n m) at len e is = let k : n + m ≡ len = cc in (omega (arith, e.0, k), omega (arith, e.1, k))
  next_len Unclosed at len e is = absurd cc

  -- ---- All pieces

  abbrev SpansBelow : ℕ → Type 0
  SpansBelow k = (at line : ℕ) (trims : Bool) → length text - at < k → at ≤ length text → IsCutAt at → EachOf HasSpan (cut_from (rest_at text at line trims)).pieces

  no_spans : (at line : ℕ) (trims : Bool) → length text ≤ at → EachOf HasSpan (cut_from (rest_at text at line trims)).pieces
  no_spans at line trims le =
      let none : eqb (length (drop at text)) 0 ≡ true = eq-eqb (length (drop at text)) 0 (omega (arith, length-drop at text)) in
      let nothing : cut_from (rest_at text at line trims) ≡ cut_is [] None = cut_from_is (rest_at text at line trims) ∙ rw none refl in
      subst (λ (c : Cut). EachOf HasSpan c.pieces) (sym nothing) tt

  spans_step : (k at line : ℕ) (trims : Bool) (len : Option ℕ) → SpansBelow k → length text - at < suc k → at < length text → IsCutAt at → found_len (front_of (drop at text)) ≡ len → EachOf HasSpan (cut_from (rest_at text at line trims)).pieces
  spans_step k at line trims None below less lt here e =
      let stops : cut_from (rest_at text at line trims) ≡ cut_is [] (Some line) = at_some text at line trims lt ∙ then_none (front_of (drop at text)) (rest_at text at line trims) e in
      subst (λ (c : Cut). EachOf HasSpan c.pieces) (sym stops) tt
  spans_step k at line trims (Some len) below less lt here e =
      let f = front_of (drop at text) in
      let later = trims_after f (drop at text) in
      let r : Rest = rest_at text at line trims in
      let some : 0 < length (drop at text) = omega (arith, length-drop at text) in
      let front : IsFront (drop at text) f = front_front (drop at text) some in
      let sizes = next_len f at len (front_fits (drop at text)) e in
      let line' = line + line_ends (take len (drop at text)) in
      let is : cut_from r ≡ with_front (pieces_of f r) (cut_from (rest_at text (at + len) line' later)) = at_some text at line trims lt ∙ then_found f len r e ∙ ap (λ x. with_front (pieces_of f r) (cut_from x)) (past_is text at line len trims later) in
      let rest : EachOf HasSpan (cut_from (rest_at text (at + len) line' later)).pieces = below (at + len) line' later (omega (arith, sizes.0, sizes.1, length-drop at text)) (omega (arith, sizes.1, length-drop at text)) (next_cut f at len (omega arith) front e) in
      subst (λ (c : Cut). EachOf HasSpan c.pieces) (sym is) (each-append HasSpan (pieces_of f r) (cut_from (rest_at text (at + len) line' later)).pieces (piece_spans f at line trims (omega arith) here front) rest)

  spans_at : (k at line : ℕ) (trims b : Bool) → SpansBelow k → length text - at < suc k → IsCutAt at → ltb at (length text) ≡ b → EachOf HasSpan (cut_from (rest_at text at line trims)).pieces
  spans_at k at line trims true below less here e = spans_step k at line trims (found_len (front_of (drop at text))) below less (ltb-true at (length text) e) here refl
  spans_at k at line trims false below less here e = no_spans at line trims (ltb-false at (length text) e)

  spans_from : (k : ℕ) → SpansBelow k
  spans_from zero = λ at line trims less le here. absurd (omega arith)
  spans_from (suc k) = λ at line trims less le here. spans_at k at line trims (ltb at (length text)) (spans_from k) less here refl

  pub spans_of : EachOf HasSpan (cut_of text).pieces
  spans_of = spans_from (suc (length text)) 0 1 false (omega arith) (omega arith) (IsCharBoundary-start text u)

  -- a piece of the text
  pub span_at : (ps : List Piece) (unclosed : Option ℕ) (i : ℕ) (d : Piece) → cut_is ps unclosed ≡ cut_of text → i < length ps → IsSpanOf text (get_or ps i d).inner
  span_at ps unclosed i d e lt = each_at HasSpan ps i d lt (subst (λ (c : Cut). EachOf HasSpan c.pieces) (sym e) spans_of)

-- some of the pieces of a text, one after another
spans_last : (text : List ℕ) (ps more : List Piece) → EachOf (λ (p : Piece). IsSpanOf text p.inner) (ps ++ more) → AreSpans text ps
spans_last text [] more a = tt
spans_last text (p ∷ ps) more a = (a.0, spans_last text ps more a.1)

spans_middle : (text : List ℕ) (front ps more : List Piece) → EachOf (λ (p : Piece). IsSpanOf text p.inner) (front ++ (ps ++ more)) → AreSpans text ps
spans_middle text [] ps more a = spans_last text ps more a
spans_middle text (p ∷ front) ps more a = spans_middle text front ps more a.1

pub spans_between : (text : List ℕ) → IsUtf8 text → (front ps more : List Piece) (unclosed : Option ℕ) → cut_is (front ++ (ps ++ more)) unclosed ≡ cut_of text → AreSpans text ps
spans_between text u front ps more unclosed e = spans_middle text front ps more (subst (λ (c : Cut). EachOf (λ (p : Piece). IsSpanOf text p.inner) c.pieces) (sym e) (spans_of text u))

pub span_there : (text : List ℕ) (ps : List Piece) (i : ℕ) (d : Piece) → i < length ps → AreSpans text ps → IsSpanOf text (get_or ps i d).inner
span_there text [] i d lt a = absurd (omega arith)
span_there text (p ∷ ps) zero d lt a = a.0
span_there text (p ∷ ps) (suc i) d lt a = span_there text ps i d (omega arith) a.1
