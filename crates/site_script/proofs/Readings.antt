-- Reading a line byte by byte, and a body block by block.
use Rattle.std.proofs.Common.{zero, suc, ◌≡◌, inl, inr, ℕ, ◌+◌, ◌-◌, ◌≤◌, ◌<◌, Bool, true, false, cond, List, [], ◌∷◌, ◌++◌, length, take, drop, get_or, refl, sym, ◌∙◌, ap, subst, Option, Some, None, append_assoc, length-append, arith, zero-add}
use Rattle.std.specs.Prelude.{◌==◌, ◌||◌, not, nat_lt, if◌then◌else◌}
use Rattle.std.specs.List.{list_any, position_or_len}
use Rattle.std.specs.Io.BufRead.{strip_last, ends_with_byte}
use Rattle.std.proofs.Math.Seq.{take-append_seam, drop-append_seam, take-append-add, drop-append-add}
use Rattle.std.proofs.lemmas.Bool.{lt-ltb, le-ltb, eqb-true}
use Rattle.std.proofs.lemmas.List.{append-nil, take-append-drop, length-take-le}
use Rattle.std.proofs.lemmas.List.Folds.{list_any-append}
use Rattle.site_script.specs.Script.{is_lf, front_line, has_end, after_line, head_of, content, first_line, whole_line, lacks_body, is_cut_off, HasRead, IsCutOff, Spares, IsFirst, ReadsFirst}
use Rattle.site_script.specs.Reading.{IsNext, AddsFrom, IsBody, TakesLine, StaysInLine, ReadsRest, line_end}
use Rattle.site_script.specs.declared.line.Line.{Line}
use Rattle.site_script.specs.declared.line.Line.TheVariants as line
use Rattle.site_script.specs.declared.line.ScriptKind.TheVariants as kind
use Rattle.site_script.specs.declared.line.ScriptKind.{ScriptKind}
use Rattle.site_script.specs.declared.head.Head.{Head}
use Rattle.site_script.specs.declared.head.Head.TheVariants as head

some_same : (x y : List ℕ) → Some x ≡ Some y → x ≡ y
some_same x y e = cc (e)

empty_drop : (n : ℕ) → drop n (let none : List ℕ = [] in none) ≡ []
empty_drop zero = refl
empty_drop (suc n) = refl

pub nothing_left : (n : ℕ) (text : List ℕ) → text ≡ [] → drop n text ≡ []
nothing_left n [] is = empty_drop n
nothing_left n (b ∷ text) is = absurd (cc (is))

pub one_byte : (n : ℕ) (text into : List ℕ) (after : Option (List ℕ)) → n ≤ length into → (n ≡ 0 → ⊥) → length into ≡ 1 → take n into ≡ take n text → n ≤ length text → after ≡ Some (drop n text)
    → (rest : List ℕ) × (text ≡ get_or into 0 0 ∷ rest) × (after ≡ Some rest)
one_byte n [] into after bound some one front many left = absurd (some (omega arith))
one_byte n (b ∷ rest) [] after bound some one front many left = absurd (omega arith)
one_byte n (b ∷ rest) (x ∷ into) after bound some one front many left =
    let is : n ≡ 1 = omega arith in
    let first : take 1 (x ∷ into) ≡ take 1 (b ∷ rest) = subst (λ m. take m (x ∷ into) ≡ take m (b ∷ rest)) is front in
    let same : x ≡ b = ap (λ l. get_or l 0 0) first in
    (rest, ap (λ y. y ∷ rest) (sym same), left ∙ ap (λ m. Some (drop m (b ∷ rest))) is)

or_false : (a b : Bool) → (a || b) ≡ false → (a ≡ false) × (b ≡ false)
or_false true b is = absurd (cc (is))
or_false false b is = (refl, is)

-- the first LF stands after bytes that have none
place_after : (bytes rest : List ℕ) → list_any is_lf bytes ≡ false → position_or_len is_lf (bytes ++ rest) ≡ length bytes + position_or_len is_lf rest
place_after [] rest none = sym (zero-add (position_or_len is_lf rest))
place_after (b ∷ bytes) rest none =
    let parts = or_false (is_lf b) (list_any is_lf bytes) none in
    let more : position_or_len is_lf (bytes ++ rest) ≡ length bytes + position_or_len is_lf rest = place_after bytes rest parts.1 in
    let first : position_or_len is_lf (b ∷ bytes ++ rest) ≡ 1 + position_or_len is_lf (bytes ++ rest) = ap (λ c. cond (not c) (1 + position_or_len is_lf (bytes ++ rest)) 0) parts.0 in
    omega (arith, more, first)

front_after : (bytes rest : List ℕ) → list_any is_lf bytes ≡ false → front_line (bytes ++ rest) ≡ bytes ++ front_line rest
front_after bytes rest none = ap (λ n. take n (bytes ++ rest)) (place_after bytes rest none) ∙ take-append-add bytes rest (position_or_len is_lf rest)

ended_after : (bytes rest : List ℕ) → list_any is_lf bytes ≡ false → has_end (bytes ++ rest) ≡ has_end rest
ended_after bytes rest none = list_any-append is_lf bytes rest ∙ ap (λ b. b || has_end rest) none

left_after : (bytes rest : List ℕ) → list_any is_lf bytes ≡ false → after_line (bytes ++ rest) ≡ after_line rest
left_after bytes rest none =
    let place : position_or_len is_lf (bytes ++ rest) + 1 ≡ length bytes + (position_or_len is_lf rest + 1) = omega (arith, place_after bytes rest none) in
    ap (λ n. drop n (bytes ++ rest)) place ∙ drop-append-add bytes rest (position_or_len is_lf rest + 1)

pub filled_byte : (text bytes : List ℕ) (b : ℕ) (old new : Option (List ℕ)) (r : HasRead text bytes old) → IsNext r.rest (Some b) new → HasRead text (bytes ++ b ∷ []) new
filled_byte text bytes b old new r next = record {
  rest = next.0;
  left = next.2;
  whole = r.whole ∙ ap (λ t. bytes ++ t) next.1 ∙ sym (append_assoc bytes (b ∷ []) next.0);
}

pub no_lf_more : (bytes : List ℕ) (b : ℕ) → list_any is_lf bytes ≡ false → (b == 10) ≡ false → list_any is_lf (bytes ++ b ∷ []) ≡ false
no_lf_more bytes b none other = list_any-append is_lf bytes (b ∷ []) ∙ rw (none, other) refl

-- what is read behind what was read
pub read_on : (text one more : List ℕ) (before after : Option (List ℕ)) (r : HasRead text one before) → HasRead r.rest more after → HasRead text (one ++ more) after
read_on text one more before after r m = record {
  rest = m.rest;
  left = m.left;
  whole = r.whole ∙ ap (λ t. one ++ t) m.whole ∙ sym (append_assoc one more m.rest);
}

pub read_none : (text : List ℕ) (after : Option (List ℕ)) → after ≡ Some text → HasRead text [] after
read_none text after left = record { rest = text; left = left; whole = refl }

-- a read that failed took nothing
pub read_still : (text bytes : List ℕ) (before after : Option (List ℕ)) → after ≡ before → HasRead text bytes before → HasRead text bytes after
read_still text bytes before after same r = record { rest = r.rest; left = same ∙ r.left; whole = r.whole }

pub line_ends : (text bytes : List ℕ) (b : ℕ) (old new : Option (List ℕ)) (r : HasRead text bytes old) → list_any is_lf bytes ≡ false → length bytes ≤ 2049 → b ≡ 10 → IsNext r.rest (Some b) new
    → (bytes ≡ front_line text) × (true ≡ has_end text) × (new ≡ Some (after_line text)) × TakesLine text bytes true new
line_ends text bytes b old new r none short end next =
    let is : text ≡ bytes ++ (10 ∷ next.0) = r.whole ∙ ap (λ t. bytes ++ t) (next.1 ∙ ap (λ x. x ∷ next.0) end) in (
      sym (ap front_line is ∙ front_after bytes (10 ∷ next.0) none ∙ append-nil bytes),
      sym (ap has_end is ∙ ended_after bytes (10 ∷ next.0) none),
      next.2 ∙ ap Some (sym (ap after_line is ∙ left_after bytes (10 ∷ next.0) none)),
      record {
        read = record { rest = next.0; left = next.2; whole = is ∙ sym (append_assoc bytes (10 ∷ []) next.0) };
        no_end = none;
        short = short;
        last = λ e. absurd (cc (e));
      },
    )

pub text_ends : (text bytes : List ℕ) (old new : Option (List ℕ)) (r : HasRead text bytes old) → list_any is_lf bytes ≡ false → length bytes ≤ 2049 → IsNext r.rest None new
    → (bytes ≡ front_line text) × (false ≡ has_end text) × (new ≡ Some (after_line text)) × TakesLine text bytes false new
text_ends text bytes old new r none short next =
    let is : text ≡ bytes ++ [] = r.whole ∙ ap (λ t. bytes ++ t) next.0 in (
      sym (ap front_line is ∙ front_after bytes [] none ∙ append-nil bytes),
      sym (ap has_end is ∙ ended_after bytes [] none),
      next.1 ∙ ap Some (sym (ap after_line is ∙ left_after bytes [] none)),
      record {
        read = record { rest = []; left = next.1; whole = is ∙ ap (λ t. t ++ []) (sym (append-nil bytes)) };
        no_end = none;
        short = short;
        last = λ _. next.1;
      },
    )

pub line_goes_on : (text bytes : List ℕ) (old : Option (List ℕ)) → HasRead text bytes old → list_any is_lf bytes ≡ false → length bytes ≤ length (front_line text)
line_goes_on text bytes old r none = omega (arith, ap length (ap front_line r.whole ∙ front_after bytes r.rest none), length-append bytes (front_line r.rest))

pub nothing_read : (bytes : List ℕ) (ended : Bool) → (if ended then false else (length bytes == 0)) ≡ true → (ended ≡ false) × (length bytes ≡ 0)
nothing_read bytes true is = absurd (cc (is))
nothing_read bytes false is = (refl, eqb-true (length bytes) 0 is)

-- an empty line without an end is the end of the text
pub no_line : (text bytes : List ℕ) → bytes ≡ front_line text → false ≡ has_end text → length bytes ≡ 0 → text ≡ []
no_line [] bytes front end none = refl
no_line (b ∷ text) bytes front end none =
    let parts = or_false (is_lf b) (has_end text) (sym end) in
    let first : position_or_len is_lf (b ∷ text) ≡ 1 + position_or_len is_lf text = ap (λ c. cond (not c) (1 + position_or_len is_lf text) 0) parts.0 in
    let next : position_or_len is_lf (b ∷ text) ≡ suc (position_or_len is_lf text) = omega (arith, first) in
    let front_is : front_line (b ∷ text) ≡ b ∷ front_line text = ap (λ n. take n (b ∷ text)) next in
    absurd (omega (arith, ap length (front ∙ front_is)))

-- a line that is not the end
pub some_line : (number : ℕ) (text bytes : List ℕ) (ended : Bool) → bytes ≡ front_line text → ended ≡ has_end text → (if ended then false else (length bytes == 0)) ≡ false
    → first_line number text ≡ whole_line number (head_of (if ended then strip_last 13 bytes else bytes)) (after_line text)
some_line number [] bytes ended front end some = absurd (cc (sym some ∙ ap (λ e. if e then false else (length bytes == 0)) end ∙ ap (λ l. length l == 0) front))
some_line number (b ∷ text) bytes ended front end some = λ i. whole_line number (head_of (if sym end i then strip_last 13 (sym front i) else sym front i)) (after_line (b ∷ text))

cr_length : (l : List ℕ) → length l ≤ length (strip_last 13 l) + 1
cr_length l = by (ends_with_byte 13 l)
  where
    by : (b : Bool) → length l ≤ length (if b then take (length l - 1) l else l) + 1
    by true = omega (arith, length-take-le (length l - 1) l (omega arith))
    by false = omega arith

content_length : (text : List ℕ) → length (front_line text) ≤ length (content text) + 1
content_length text = by (has_end text)
  where
    by : (b : Bool) → length (front_line text) ≤ length (if b then strip_last 13 (front_line text) else front_line text) + 1
    by true = cr_length (front_line text)
    by false = omega arith

length_drop : (n : ℕ) (l : List ℕ) → length (drop n l) ≤ length l
length_drop zero l = omega arith
length_drop (suc n) [] = omega arith
length_drop (suc n) (x ∷ l) = let less : length (drop n l) ≤ length l = length_drop n l in omega (arith, less)

-- what is left after a line, and what is left after the line's own bytes
rest_length : (number : ℕ) (h : Head) (rest : List ℕ) → length (whole_line number h rest).1 ≤ length rest
rest_length number head.Scan rest = omega arith
rest_length number head.Build rest = omega arith
rest_length number head.Links rest = omega arith
rest_length number head.End rest = omega arith
rest_length number (head.Delete path) rest = omega arith
rest_length number (head.Time seconds) rest = omega arith
rest_length number (head.Bad kind) rest = omega arith
rest_length number (head.Put path count) rest = by (nat_lt (length rest) count)
  where
    by : (b : Bool) → length (let made : Line × List ℕ = if b then (line.Bad number kind.Cut, []) else (line.Put path (take count rest), drop count rest) in made.1) ≤ length rest
    by true = omega arith
    by false = length_drop count rest

first_length : (number : ℕ) (text : List ℕ) → length (first_line number text).1 ≤ length (after_line text)
first_length number [] = omega arith
first_length number (b ∷ text) = rest_length number (head_of (content (b ∷ text))) (after_line (b ∷ text))

-- a front of the first line was taken
pub part_spares : (number : ℕ) (text bytes : List ℕ) (after : Option (List ℕ)) → HasRead text bytes after → has_end bytes ≡ false → Spares (first_line number text).1 text after
part_spares number text bytes after r none =
    let behind : after_line text ≡ after_line r.rest = ap after_line r.whole ∙ left_after bytes r.rest none in
    let less : length (after_line r.rest) ≤ length r.rest = length_drop _ r.rest in
    let all : length text ≡ length bytes + length r.rest = ap length r.whole ∙ length-append bytes r.rest in
    (bytes, r, omega (arith, first_length number text, ap length behind, less, all))

-- the whole first line was taken, but for its body
pub line_spares : (number : ℕ) (text bytes : List ℕ) (ended : Bool) (after : Option (List ℕ)) → after ≡ Some (after_line text) → TakesLine text bytes ended after → Spares (first_line number text).1 text after
line_spares number text bytes ended after left t =
    let rest : t.read.rest ≡ after_line text = some_same t.read.rest (after_line text) (sym t.read.left ∙ left) in
    let all : length text ≡ length (bytes ++ line_end ended) + length t.read.rest = ap length t.read.whole ∙ length-append (bytes ++ line_end ended) t.read.rest in
    (bytes ++ line_end ended, t.read, omega (arith, first_length number text, ap length rest, all))

-- a front of the first line that may still be one
pub cut_line : (text bytes : List ℕ) (after : Option (List ℕ)) → HasRead text bytes after → has_end bytes ≡ false → length bytes ≤ 2049 → IsCutOff text after
cut_line text bytes after r none short = (bytes, r, rw (none, le-ltb _ _ short) refl)

-- a line whose body was not taken whole
cut_ended : (bytes body : List ℕ) → has_end bytes ≡ false → lacks_body (head_of (strip_last 13 bytes)) body ≡ true → is_cut_off ((bytes ++ 10 ∷ []) ++ body) ≡ true
cut_ended bytes body none lacks =
    let is : (bytes ++ 10 ∷ []) ++ body ≡ bytes ++ (10 ∷ body) = append_assoc bytes (10 ∷ []) body in
    let ended : has_end (bytes ++ (10 ∷ body)) ≡ true = ended_after bytes (10 ∷ body) none in
    let front : front_line (bytes ++ (10 ∷ body)) ≡ bytes = front_after bytes (10 ∷ body) none ∙ append-nil bytes in
    let behind : after_line (bytes ++ (10 ∷ body)) ≡ body = left_after bytes (10 ∷ body) none in
    ap is_cut_off is
    ∙ (λ i. if ended i then lacks_body (head_of (if ended i then strip_last 13 (front i) else front i)) (behind i) else not (nat_lt 2049 (length (bytes ++ (10 ∷ body)))))
    ∙ lacks

no_body : (body rest : List ℕ) → [] ≡ body ++ rest → body ≡ []
no_body [] rest is = refl
no_body (b ∷ body) rest is = absurd (cc (is))

pub cut_body : (text bytes body : List ℕ) (ended : Bool) (h : Head) (before after : Option (List ℕ)) → before ≡ Some (after_line text) → TakesLine text bytes ended before
    → h ≡ head_of (if ended then strip_last 13 bytes else bytes) → HasRead (after_line text) body after → lacks_body h body ≡ true → IsCutOff text after
cut_body text bytes body true h before after left t is r lacks =
    let rest : after_line text ≡ t.read.rest = some_same (after_line text) t.read.rest (sym left ∙ t.read.left) in
    ((bytes ++ 10 ∷ []) ++ body, read_on text (bytes ++ 10 ∷ []) body before after t.read (subst (λ (x : List ℕ). HasRead x body after) rest r), cut_ended bytes body t.no_end (ap (λ x. lacks_body x body) (sym is) ∙ lacks))
cut_body text bytes body false h before after left t is r lacks =
    let rest : after_line text ≡ [] = some_same (after_line text) [] (sym left ∙ t.last refl) in
    let none : body ≡ [] = no_body body r.rest (sym rest ∙ r.whole) in
    let here : after_line text ≡ t.read.rest = some_same (after_line text) t.read.rest (sym left ∙ t.read.left) in
    let whole = read_on text (bytes ++ []) body before after t.read (subst (λ (x : List ℕ). HasRead x body after) here r) in
    let same : (bytes ++ []) ++ body ≡ bytes = (λ i. append-nil bytes i ++ none i) ∙ append-nil bytes in
    cut_line text bytes after (subst (λ (x : List ℕ). HasRead text x after) same whole) t.no_end t.short

-- what stays in the bytes that follow the first line stays in the text
pub spares_on : (end text bytes : List ℕ) (ended : Bool) (before after : Option (List ℕ)) → before ≡ Some (after_line text) → TakesLine text bytes ended before
    → Spares end (after_line text) after → Spares end text after
spares_on end text bytes ended before after left t s =
    let rest : after_line text ≡ t.read.rest = some_same (after_line text) t.read.rest (sym left ∙ t.read.left) in
    let all : length text ≡ length (bytes ++ line_end ended) + length t.read.rest = ap length t.read.whole ∙ length-append (bytes ++ line_end ended) t.read.rest in (
      (bytes ++ line_end ended) ++ s.0,
      read_on text (bytes ++ line_end ended) s.0 before after t.read (subst (λ (x : List ℕ). HasRead x s.0 after) rest s.1),
      omega (arith, s.2, all, ap length rest, length-append (bytes ++ line_end ended) s.0),
    )

-- the first line of a text, from its head and what follows
pub rest_first : (number : ℕ) (text bytes : List ℕ) (ended : Bool) (h : Head) (at : Line) (before after : Option (List ℕ)) → before ≡ Some (after_line text) → TakesLine text bytes ended before
    → h ≡ head_of (if ended then strip_last 13 bytes else bytes) → first_line number text ≡ whole_line number h (after_line text) → ReadsRest number h (after_line text) at after → ReadsFirst number text at after
rest_first number text bytes ended h at before after left t is first (inl failed) = inl (failed.0, cut_body text bytes failed.1.0 ended h before after left t is failed.1.1 failed.1.2)
rest_first number text bytes ended h at before after left t is first (inr (inl memory)) =
    inr (inl (memory.0, subst (λ (f : Line × List ℕ). Spares f.1 text after) (sym first) (spares_on (whole_line number h (after_line text)).1 text bytes ended before after left t memory.1)))
rest_first number text bytes ended h at before after left t is first (inr (inr f)) = inr (inr (record {
  is = ap (λ (x : Line × List ℕ). x.0) first ∙ f.is;
  whole = λ good. f.whole good ∙ ap (λ (x : Line × List ℕ). Some x.1) (sym first);
  part = λ bad. subst (λ (x : Line × List ℕ). Spares x.1 text after) (sym first) (spares_on (whole_line number h (after_line text)).1 text bytes ended before after left t (f.part bad));
}))

pub long_first : (number : ℕ) (text : List ℕ) (after : Option (List ℕ)) → (2049 < length (front_line text)) × StaysInLine text after → IsFirst (first_line number text) text (line.Bad number kind.LongLine) after
long_first number [] after long = absurd (omega (arith, long.0))
long_first number (b ∷ text) after long =
    let more : 2048 < length (content (b ∷ text)) = omega (arith, content_length (b ∷ text), long.0) in
    let is : head_of (content (b ∷ text)) ≡ head.Bad kind.LongLine = rw (lt-ltb _ _ more) refl in
    record {
      is = ap (λ h. (whole_line number h (after_line (b ∷ text))).0) is;
      whole = λ good. absurd (cc (good));
      part = λ _. part_spares number (b ∷ text) long.1.0 after long.1.1 long.1.2;
    }

pub end_first : (number : ℕ) (text : List ℕ) (after : Option (List ℕ)) → text ≡ [] → after ≡ Some (after_line text) → IsFirst (first_line number text) text line.Eof after
end_first number text after none left =
    let is : first_line number text ≡ (line.Eof, []) = ap (first_line number) none in
    record {
      is = ap (λ (p : Line × List ℕ). p.0) is;
      whole = λ _. left ∙ ap (λ t. Some (after_line t)) none ∙ ap (λ (p : Line × List ℕ). Some p.1) (sym is);
      part = λ bad. absurd (cc (bad));
    }

pub filled_more : (text old more : List ℕ) (count : ℕ) (before after : Option (List ℕ)) (r : HasRead text old before) → AddsFrom r.rest old more count after → HasRead text more after
filled_more text old more count before after r adds = record {
  rest = drop count r.rest;
  left = adds.left;
  whole = r.whole ∙ ap (λ t. old ++ t) (sym (take-append-drop count r.rest)) ∙ sym (append_assoc old (take count r.rest) (drop count r.rest)) ∙ ap (λ t. t ++ drop count r.rest) (sym adds.added);
}

pub body_whole : (count : ℕ) (text bytes : List ℕ) (after : Option (List ℕ)) → HasRead text bytes after → length bytes ≡ count → IsBody count text (Some bytes) after
body_whole count text bytes after r long = (
  sym (ap (λ t. take count t) r.whole ∙ ap (λ n. take n (bytes ++ r.rest)) (sym long) ∙ take-append_seam bytes r.rest),
  (let all : length text ≡ length bytes + length r.rest = ap length r.whole ∙ length-append bytes r.rest in omega arith),
  r.left ∙ ap Some (sym (ap (λ t. drop count t) r.whole ∙ ap (λ n. drop n (bytes ++ r.rest)) (sym long) ∙ drop-append_seam bytes r.rest)),
)

pub body_cut : (count : ℕ) (text old more : List ℕ) (before after : Option (List ℕ)) (r : HasRead text old before) → length old < count → AddsFrom r.rest old more 0 after → IsBody count text None after
body_cut count text old more before after r short adds =
    let none : r.rest ≡ [] = adds.none_at_end refl in (
      (let all : length text ≡ length old = ap length (r.whole ∙ ap (λ t. old ++ t) none ∙ append-nil old) in omega arith),
      adds.left ∙ ap Some none,
    )

-- a put with all its bytes, and one that the input's end cuts
pub put_whole : (number count : ℕ) (path text bytes : List ℕ) (after : Option (List ℕ)) → IsBody count text (Some bytes) after → IsFirst (whole_line number (head.Put path count) text) text (line.Put path bytes) after
put_whole number count path text bytes after body =
    let enough : nat_lt (length text) count ≡ false = le-ltb _ _ body.1 in
    let is : whole_line number (head.Put path count) text ≡ (line.Put path (take count text), drop count text) = ap (λ b. if b then (line.Bad number kind.Cut, []) else (line.Put path (take count text), drop count text)) enough in
    record {
      is = ap (λ (p : Line × List ℕ). p.0) is ∙ ap (λ b. line.Put path b) (sym body.0);
      whole = λ _. body.2 ∙ ap (λ (p : Line × List ℕ). Some p.1) (sym is);
      part = λ bad. absurd (cc (bad));
    }

pub put_cut : (number count : ℕ) (path text : List ℕ) (after : Option (List ℕ)) → IsBody count text None after → IsFirst (whole_line number (head.Put path count) text) text (line.Bad number kind.Cut) after
put_cut number count path text after body =
    let short : nat_lt (length text) count ≡ true = lt-ltb _ _ body.0 in
    let is : whole_line number (head.Put path count) text ≡ (line.Bad number kind.Cut, []) = ap (λ b. if b then (line.Bad number kind.Cut, []) else (line.Put path (take count text), drop count text)) short in
    record {
      is = ap (λ (p : Line × List ℕ). p.0) is;
      whole = λ good. absurd (cc (good));
      part = λ _. subst (λ (p : Line × List ℕ). Spares p.1 text after) (sym is) (text, record { rest = []; left = body.1; whole = sym (append-nil text) }, omega arith);
    }

-- a bad head: nothing behind its line was taken
pub bad_first : (number : ℕ) (k : ScriptKind) (text : List ℕ) (after : Option (List ℕ)) → after ≡ Some text → IsFirst (whole_line number (head.Bad k) text) text (line.Bad number k) after
bad_first number k text after left = record { is = refl; whole = λ good. absurd (cc (good)); part = λ _. ([], read_none text after left, omega arith) }

-- a body that was not taken whole: the input failed, or memory was wanting
pub failed_rest : (number count : ℕ) (path text bytes : List ℕ) (after : Option (List ℕ)) → HasRead text bytes after → length bytes < count → ReadsRest number (head.Put path count) text line.Failed after
failed_rest number count path text bytes after r few = inl (refl, (bytes, r, lt-ltb _ _ few))

pub memory_rest : (number count : ℕ) (path text bytes : List ℕ) (after : Option (List ℕ)) → HasRead text bytes after → length bytes ≤ count → ReadsRest number (head.Put path count) text line.Memory after
memory_rest number count path text bytes after r few =
    let all : length text ≡ length bytes + length r.rest = ap length r.whole ∙ length-append bytes r.rest in
    inr (inl (refl, (bytes, r, by (nat_lt (length text) count) (let within : length bytes ≤ length text = omega (arith, all) in within))))
  where
    dropped : (n : ℕ) (l : List ℕ) → length (drop n l) ≡ length l - n
    dropped zero l = omega arith
    dropped (suc n) [] = omega arith
    dropped (suc n) (x ∷ l) = let less : length (drop n l) ≡ length l - n = dropped n l in omega (arith, less)

    by : (b : Bool) → length bytes ≤ length text → length bytes + length (let made : Line × List ℕ = if b then (line.Bad number kind.Cut, []) else (line.Put path (take count text), drop count text) in made.1) ≤ length text
    by true all = omega (arith, all)
    by false all = let d : length (drop count text) ≡ length text - count = dropped count text in omega (arith, all, few, d)

-- nothing was taken
pub none_spares : (number : ℕ) (text : List ℕ) (after : Option (List ℕ)) → after ≡ Some text → Spares (first_line number text).1 text after
none_spares number text after left =
    let less : length (after_line text) ≤ length text = length_drop _ text in
    ([], read_none text after left, omega (arith, first_length number text, less))

-- a text never says that its input failed
pub never_failed : (number : ℕ) (text : List ℕ) → (first_line number text).0 ≡ line.Failed → ⊥
never_failed number [] e = cc (e)
never_failed number (b ∷ text) e = by (head_of (content (b ∷ text))) e
  where
    cut : (count : ℕ) (path rest : List ℕ) (c : Bool) → (let made : Line × List ℕ = if c then (line.Bad number kind.Cut, []) else (line.Put path (take count rest), drop count rest) in made.0) ≡ line.Failed → ⊥
    cut count path rest true e = cc (e)
    cut count path rest false e = cc (e)

    by : (h : Head) → (whole_line number h (after_line (b ∷ text))).0 ≡ line.Failed → ⊥
    by head.Scan e = cc (e)
    by head.Build e = cc (e)
    by head.Links e = cc (e)
    by head.End e = cc (e)
    by (head.Delete path) e = cc (e)
    by (head.Time seconds) e = cc (e)
    by (head.Bad k) e = cc (e)
    by (head.Put path count) e = cut count path (after_line (b ∷ text)) (nat_lt (length (after_line (b ∷ text))) count) e
