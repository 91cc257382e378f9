-- The words of a text, one after another.
use Rattle.std.proofs.Common.{◌≡◌, ◌∙◌, ℕ, zero, suc, ◌+◌, ◌-◌, ◌<◌, ◌≤◌, Bool, true, false, not, cond, List, [], ◌∷◌, ◌++◌, length, take, drop, get_or, refl, ap, sym, subst, arith, append_assoc, inl, inr}
use Rattle.std.specs.Prelude.{filter, nat_le}
use Rattle.std.specs.List.{slice_split, onto_first, prefix_len}
use Rattle.std.specs.Str.{IsCharBoundary}
use Rattle.std.proofs.lemmas.Bool.{cases_lt}
use Rattle.std.proofs.lemmas.Bool.Decides.{nat_tests}
use Rattle.std.proofs.lemmas.List.{length-take-le, length-drop}
use Rattle.std.proofs.lemmas.List.Sums.{prefix_len-le-length}
use Rattle.std.proofs.lemmas.Str.{IsCharBoundary-before_ascii, IsCharBoundary-end}
use Rattle.filter_base.specs.White.{is_white, without_front}
use Rattle.filter_base.proofs.WhiteLaws.{white_ascii}
use Rattle.text_filters.specs.Words.{is_word, words, words_behind}

abbrev pub is_dark : ℕ → Bool
is_dark c = not (is_white c)

prefix_more : (p : ℕ → Bool) (c : ℕ) (cs : List ℕ) → p c ≡ true → prefix_len p (c ∷ cs) ≡ suc (prefix_len p cs)
prefix_more p c cs e = let one : 1 + prefix_len p cs ≡ suc (prefix_len p cs) = omega arith in ap (λ b. cond b (1 + prefix_len p cs) 0) e ∙ one

prefix_none : (p : ℕ → Bool) (c : ℕ) (cs : List ℕ) → p c ≡ false → prefix_len p (c ∷ cs) ≡ 0
prefix_none p c cs e = ap (λ b. cond b (1 + prefix_len p cs) 0) e

split_white : (c : ℕ) (cs : List ℕ) → is_white c ≡ true → slice_split is_white (c ∷ cs) ≡ [] ∷ slice_split is_white cs
split_white c cs e = ap (λ b. cond b ([] ∷ slice_split is_white cs) (onto_first c (slice_split is_white cs))) e

split_dark : (c : ℕ) (cs : List ℕ) → is_white c ≡ false → slice_split is_white (c ∷ cs) ≡ onto_first c (slice_split is_white cs)
split_dark c cs e = ap (λ b. cond b ([] ∷ slice_split is_white cs) (onto_first c (slice_split is_white cs))) e

abbrev some_words : List (List ℕ) → List (List ℕ)
some_words ws = filter is_word ws

-- white space at the front, and what begins behind it

front_white : (c : ℕ) (cs : List ℕ) → is_white c ≡ true → without_front (c ∷ cs) ≡ without_front cs
front_white c cs e = ap (λ n. drop n (c ∷ cs)) (prefix_more is_white c cs e)

front_dark : (c : ℕ) (cs : List ℕ) → is_white c ≡ false → without_front (c ∷ cs) ≡ c ∷ cs
front_dark c cs e = ap (λ n. drop n (c ∷ cs)) (prefix_none is_white c cs e)

pub words_begun : (t : List ℕ) → words t ≡ words (without_front t)
words_begun [] = refl
words_begun (c ∷ cs) = go (is_white c) refl (words_begun cs)
  where
    go : (b : Bool) → is_white c ≡ b → words cs ≡ words (without_front cs) → words (c ∷ cs) ≡ words (without_front (c ∷ cs))
    go true e h = ap some_words (split_white c cs e) ∙ h ∙ ap words (sym (front_white c cs e))
    go false e h = ap words (sym (front_dark c cs e))

pub begun_dark : (t : List ℕ) → 0 < length (without_front t) → 0 < prefix_len is_dark (without_front t)
begun_dark [] some = absurd (omega (arith, some))
begun_dark (c ∷ cs) some = go (is_white c) refl (begun_dark cs) some
  where
    go : (b : Bool) → is_white c ≡ b → (0 < length (without_front cs) → 0 < prefix_len is_dark (without_front cs)) → 0 < length (without_front (c ∷ cs)) → 0 < prefix_len is_dark (without_front (c ∷ cs))
    go true e h some =
        let same = front_white c cs e in
        subst (λ (t : List ℕ). 0 < prefix_len is_dark t) (sym same) (h (subst (λ (t : List ℕ). 0 < length t) same some))
    go false e h some =
        let more = prefix_more is_dark c cs (ap not e) in
        subst (λ (t : List ℕ). 0 < prefix_len is_dark t) (sym (front_dark c cs e)) (omega (arith, more))

pub begun_within : (t : List ℕ) → length (without_front t) ≤ length t
begun_within [] = omega arith
begun_within (c ∷ cs) = go (is_white c) refl (begun_within cs)
  where
    go : (b : Bool) → is_white c ≡ b → length (without_front cs) ≤ length cs → length (without_front (c ∷ cs)) ≤ length (c ∷ cs)
    go true e h = let same = ap length (front_white c cs e) in omega (arith, same, h)
    go false e h = let same = ap length (front_dark c cs e) in omega (arith, same)

-- a word at the front

record Fronts (t : List ℕ) : Type 0 where
  pub others : List (List ℕ)
  pub whole : slice_split is_white t ≡ take (prefix_len is_dark t) t ∷ others
  pub rest : slice_split is_white (drop (prefix_len is_dark t) t) ≡ [] ∷ others

word_front : (t : List ℕ) → Fronts t
word_front [] = record { others = []; whole = refl; rest = refl }
word_front (c ∷ cs) = go (is_white c) refl (word_front cs)
  where
    go : (b : Bool) → is_white c ≡ b → Fronts cs → Fronts (c ∷ cs)
    go true e f =
        let none = prefix_none is_dark c cs (ap not e) in
        record {
          others = slice_split is_white cs;
          whole = split_white c cs e ∙ ap (λ n. take n (c ∷ cs) ∷ slice_split is_white cs) (sym none);
          rest = ap (λ n. slice_split is_white (drop n (c ∷ cs))) none ∙ split_white c cs e;
        }
    go false e f =
        let more = prefix_more is_dark c cs (ap not e) in
        record {
          others = f.others;
          whole = split_dark c cs e ∙ ap (onto_first c) f.whole ∙ ap (λ n. take n (c ∷ cs) ∷ f.others) (sym more);
          rest = ap (λ n. slice_split is_white (drop n (c ∷ cs))) more ∙ f.rest;
        }

some_first : (w : List ℕ) (ws : List (List ℕ)) → 0 < length w → some_words (w ∷ ws) ≡ w ∷ some_words ws
some_first w ws some =
    let test : is_word w ≡ true = grind (arith, nat_tests) in
    ap (λ b. cond b (w ∷ some_words ws) (some_words ws)) test

word_more : (t : List ℕ) → 0 < length (take (prefix_len is_dark t) t) → words t ≡ take (prefix_len is_dark t) t ∷ words (drop (prefix_len is_dark t) t)
word_more t some =
    let f = word_front t in
    ap some_words f.whole ∙ some_first (take (prefix_len is_dark t) t) f.others some
    ∙ ap (λ (ws : List (List ℕ)). take (prefix_len is_dark t) t ∷ some_words ws) (sym f.rest)

pub no_words : (t begun : List ℕ) → begun ≡ without_front t → length begun ≡ 0 → words t ≡ []
no_words t [] e none = words_begun t ∙ ap words (sym e)
no_words t (c ∷ cs) e none = absurd (omega arith)

-- the first word of a text, and what follows it
module _ (t begun word rest : List ℕ) (n : ℕ) (e : begun ≡ without_front t) (some : 0 < length begun) (is : n ≡ prefix_len is_dark begun) (front : word ≡ take n begun) (behind : rest ≡ drop n begun) where
  begins : 0 < n
  begins =
      let dark : 0 < prefix_len is_dark (without_front t) = begun_dark t (subst (λ (s : List ℕ). 0 < length s) e some) in
      omega (arith, dark, is, ap (prefix_len is_dark) e)

  pub first_word : words t ≡ word ∷ words rest
  first_word =
      let long : length (take n begun) ≡ n = length-take-le n begun (omega (arith, is, prefix_len-le-length is_dark begun)) in
      let place = ap (λ (k : ℕ). length (take k begun)) is in
      words_begun t ∙ ap words (sym e) ∙ word_more begun (omega (arith, long, place, begins))
      ∙ ap (λ (k : ℕ). take k begun ∷ words (drop k begun)) (sym is)
      ∙ ap (λ (w : List ℕ). w ∷ words (drop n begun)) (sym front)
      ∙ ap (λ (s : List ℕ). word ∷ words s) (sym behind)

  pub first_shorter : length rest < length t
  first_shorter = omega (arith, begins, ap length behind, length-drop n begun, ap length e, begun_within t, some)

word_ends : (t : List ℕ) → prefix_len is_dark t < length t → is_white (get_or t (prefix_len is_dark t) 0) ≡ true
word_ends [] lt = absurd (omega (arith, lt))
word_ends (c ∷ cs) lt = go (is_white c) refl (word_ends cs) lt
  where
    go : (b : Bool) → is_white c ≡ b → (prefix_len is_dark cs < length cs → is_white (get_or cs (prefix_len is_dark cs) 0) ≡ true) → prefix_len is_dark (c ∷ cs) < length (c ∷ cs)
        → is_white (get_or (c ∷ cs) (prefix_len is_dark (c ∷ cs)) 0) ≡ true
    go true e h lt = ap (λ n. is_white (get_or (c ∷ cs) n 0)) (prefix_none is_dark c cs (ap not e)) ∙ e
    go false e h lt =
        let more = prefix_more is_dark c cs (ap not e) in
        ap (λ n. is_white (get_or (c ∷ cs) n 0)) more ∙ h (omega (arith, more, lt))

pub word_cut : (t : List ℕ) (n : ℕ) → n ≡ prefix_len is_dark t → n ≤ length t → IsCharBoundary t n
word_cut t n e le = elim (cases_lt n (length t)) [
  | inl lt ↦ IsCharBoundary-before_ascii t n lt (white_ascii _ (ap (λ i. is_white (get_or t i 0)) e ∙ word_ends t (omega (arith, e, lt))))
  | inr ge ↦ let all : n ≡ length t = omega arith in subst (IsCharBoundary t) (sym all) (IsCharBoundary-end t)
]

-- so many words, the first behind one text and each other behind a space

pub spaced_more : (made before w : List ℕ) (ws : List (List ℕ)) (n : ℕ) → 0 < n
    → ((made ++ before) ++ w) ++ words_behind (32 ∷ []) (take (n - 1) ws) ≡ made ++ words_behind before (take n (w ∷ ws))
spaced_more made before w ws zero some = absurd (omega arith)
spaced_more made before w ws (suc n) some =
    let one : suc n - 1 ≡ n = omega arith in
    let others = words_behind (32 ∷ []) (take n ws) in
    ap (λ k. ((made ++ before) ++ w) ++ words_behind (32 ∷ []) (take k ws)) one
    ∙ append_assoc (made ++ before) w others
    ∙ append_assoc made before (w ++ others)

pub fewer_words : (n k m : ℕ) → 0 < n → m ≡ suc k → nat_le (n - 1) k ≡ nat_le n m
fewer_words n k m some e = grind (arith, nat_tests)
