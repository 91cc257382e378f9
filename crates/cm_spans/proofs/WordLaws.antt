-- Words and the spaces between them, as far as they go.
use Rattle.std.proofs.Common.{◌≡◌, ◌∙◌, Bool, List, [], ap, arith, codes, cond, drop, drop_of_length-le, false, get_or, length, nat_lt, not, refl, subst, suc, sym, true, zero, ℕ, ◌+◌, ◌-◌, ◌<◌, ◌==◌, ◌∷◌, ◌≤◌, ◌||◌, ◌&&◌}
use Rattle.std.specs.Str.{IsCharBoundary}
use Rattle.std.proofs.lemmas.Str.{IsCharBoundary-before_ascii, IsCharBoundary-end}
use Rattle.std.proofs.lemmas.List.{drop_more}
use Rattle.site_text.specs.Bytes.{is_special}
use Rattle.site_text.specs.Fronts.{first_byte, run_len}
use Rattle.cm_starts.proofs.Words.{first_at}
use Rattle.cm_spans.specs.Words.{is_line_end, is_plain, is_word_at, words_len}
use Rattle.site_text.proofs.Runs.{run_byte, run_stop, run_within}
use Rattle.cm_spans.proofs.Runs.{among_ascii, byte_within, same_is}

-- ---- where they end

word_case : (a b e : Bool) → (not a || (b && not e)) ≡ false → a ≡ true
word_case true b e h = refl
word_case false b e h = absurd cc

pub words_within : (t : List ℕ) → words_len t ≤ length t
words_within [] = omega arith
words_within (c ∷ cs) = go (is_word_at (c ∷ cs)) (words_within cs) where
  go : (b : Bool) → words_len cs ≤ length cs → cond b (suc (words_len cs)) 0 ≤ suc (length cs)
  go true h = omega (arith, h)
  go false h = omega arith

-- a special byte stands behind them
pub words_stop : (t : List ℕ) → words_len t < length t → is_special (get_or t (words_len t) 0) ≡ true
words_stop [] lt = absurd (omega (arith, lt))
words_stop (c ∷ cs) lt = go (is_word_at (c ∷ cs)) refl lt (words_stop cs) where
  size : Bool → ℕ
  size b = cond b (suc (words_len cs)) 0

  go : (b : Bool) → is_word_at (c ∷ cs) ≡ b → size b < suc (length cs) → (words_len cs < length cs → is_special (get_or cs (words_len cs) 0) ≡ true) → is_special (get_or (c ∷ cs) (size b) 0) ≡ true
  go true e h k = k (omega (arith, h))
  go false e h k = word_case (is_special c) (c == 32) (is_line_end (c ∷ cs)) e

pub special_ascii : (c : ℕ) → is_special c ≡ true → c < 128
special_ascii c h = among_ascii (codes "\\&`<*_![] \n") c refl h

pub words_cut : (t : List ℕ) (n : ℕ) → n ≡ words_len t → IsCharBoundary t n
words_cut t n e = go (nat_lt n (length t)) refl where
  go : (b : Bool) → nat_lt n (length t) ≡ b → IsCharBoundary t n
  go true h =
      let lt : n < length t = grind (arith, h) in
      IsCharBoundary-before_ascii t n lt (special_ascii (get_or t n 0) (subst (λ (k : ℕ). is_special (get_or t k 0) ≡ true) (sym e) (words_stop t (omega (arith, e, lt)))))
  go false h =
      let le : length t ≤ n = grind (arith, h) in
      let same : length t ≡ n = omega (arith, le, e, words_within t) in
      subst (IsCharBoundary t) same (IsCharBoundary-end t)

-- ---- spaces at the end of a line

pub line_space : (d : ℕ) (ds : List ℕ) → (d == 32) ≡ true → is_line_end (d ∷ ds) ≡ is_line_end ds
line_space d ds e = ap (λ (b : Bool). first_byte (drop (elim b as (λ x. ℕ) [ true ↦ suc (run_len (λ c. c == 32) ds) | false ↦ 0 ]) (d ∷ ds)) == 10) e

pub line_other : (d : ℕ) (ds : List ℕ) → (d == 32) ≡ false → is_line_end (d ∷ ds) ≡ (d == 10)
line_other d ds e = ap (λ (b : Bool). first_byte (drop (elim b as (λ x. ℕ) [ true ↦ suc (run_len (λ c. c == 32) ds) | false ↦ 0 ]) (d ∷ ds)) == 10) e

at_line : (u : List ℕ) → first_byte u ≡ 10 → is_line_end u ≡ true
at_line [] h = absurd (omega (arith, h))
at_line (d ∷ ds) h = let no : (d == 32) ≡ false = grind (arith, h) in let yes : (d == 10) ≡ true = grind (arith, h) in line_other d ds no ∙ yes

space_special : (d : ℕ) → is_special d ≡ false → d ≡ 32 → ⊥
space_special d h e = let k : is_special 32 ≡ false = subst (λ (x : ℕ). is_special x ≡ false) e h in absurd cc

line_special : (d : ℕ) → is_special d ≡ false → d ≡ 10 → ⊥
line_special d h e = let k : is_special 10 ≡ false = subst (λ (x : ℕ). is_special x ≡ false) e h in absurd cc

-- a line end is no word
line_stops : (u : List ℕ) → is_line_end u ≡ true → words_len u ≡ 0
line_stops [] h = refl
line_stops (d ∷ ds) h = ap (λ (b : Bool). cond b (suc (words_len ds)) 0) (go (is_special d) (d == 32) refl refl) where
  go : (a b : Bool) → is_special d ≡ a → (d == 32) ≡ b → (not a || (b && not (is_line_end (d ∷ ds)))) ≡ false
  go true true e f = ap (λ (x : Bool). not x) h
  go true false e f = refl
  go false true e f = absurd (space_special d e (same_is d 32 f))
  go false false e f = absurd (line_special d e (same_is d 10 (sym (line_other d ds f) ∙ h)))

-- ---- as the code finds them

-- behind n bytes that are plain no word stands
pub record EndsAt (t : List ℕ) (n : ℕ) : Type 0 where
  pub within : n ≤ length t
  pub plain : (j : ℕ) → j < n → is_plain (get_or t j 0) ≡ true
  pub stop : words_len (drop n t) ≡ 0
  pub last : (j : ℕ) → j + 1 ≡ n → get_or t j 0 ≡ 32 → (first_byte (drop n t) ≡ 10 → ⊥) × (first_byte (drop n t) ≡ 32 → ⊥)

-- behind a space and n plain bytes more the line does not end
record GoesOn (u : List ℕ) (n : ℕ) : Type 0 where
  within : n ≤ length u
  plain : (j : ℕ) → j < n → is_plain (get_or u j 0) ≡ true
  last : get_or (32 ∷ u) n 0 ≡ 32 → (first_byte (drop n u) ≡ 10 → ⊥) × (first_byte (drop n u) ≡ 32 → ⊥)

no_line : (d : ℕ) → is_plain d ≡ true → (d == 10) ≡ false
no_line d h = go (d == 10) refl where
  go : (b : Bool) → (d == 10) ≡ b → b ≡ false
  go false e = refl
  go true e = absurd (plain_ten (subst (λ (k : ℕ). is_plain k ≡ true) (same_is d 10 e) h)) where
    plain_ten : false ≡ true → ⊥
    plain_ten k = absurd cc

not_same : (c k : ℕ) → (c ≡ k → ⊥) → (c == k) ≡ false
not_same c k h = grind (arith, h)

same_last : (d : ℕ) (ds : List ℕ) (n : ℕ) → d ≡ 32 → get_or (32 ∷ ds) n 0 ≡ 32 → get_or (d ∷ ds) n 0 ≡ 32
same_last d ds zero e h = e
same_last d ds (suc n) e h = h

inside : (u : List ℕ) (n : ℕ) → GoesOn u n → is_line_end u ≡ false
inside [] zero h = refl
inside (d ∷ ds) zero h = line_other d ds (not_same d 32 ((h.last refl).1)) ∙ not_same d 10 ((h.last refl).0)
inside [] (suc n) h = absurd (omega (arith, h.within))
inside (d ∷ ds) (suc n) h = go (d == 32) refl (inside ds n) where
  go : (b : Bool) → (d == 32) ≡ b → (GoesOn ds n → is_line_end ds ≡ false) → is_line_end (d ∷ ds) ≡ false
  go false e rest = line_other d ds e ∙ no_line d (h.plain 0 (omega arith))
  go true e rest =
      line_space d ds e ∙ rest (record {
        within = omega (arith, h.within);
        plain = λ j lt. h.plain (suc j) (omega (arith, lt));
        last = λ k. h.last (same_last d ds n (same_is d 32 e) k);
      })

first_word : (c : ℕ) (cs : List ℕ) → is_plain c ≡ true → ((c ≡ 32) → is_line_end cs ≡ false) → is_word_at (c ∷ cs) ≡ true
first_word c cs h k = go (is_special c) (c == 32) refl refl h where
  go : (a b : Bool) → is_special c ≡ a → (c == 32) ≡ b → (b || not a) ≡ true → (not a || (b && not (is_line_end (c ∷ cs)))) ≡ true
  go false b e f g = refl
  go true true e f g = ap (λ (x : Bool). not x) (line_space c cs f ∙ k (same_is c 32 f))
  go true false e f g = absurd cc

pub words_are : (t : List ℕ) (n : ℕ) → EndsAt t n → n ≡ words_len t
words_are t zero h = sym h.stop
words_are [] (suc n) h = absurd (omega (arith, h.within))
words_are (c ∷ cs) (suc n) h =
    let rest : n ≡ words_len cs = words_are cs n (record {
      within = omega (arith, h.within);
      plain = λ j lt. h.plain (suc j) (omega (arith, lt));
      stop = h.stop;
      last = λ j e k. h.last (suc j) (omega (arith, e)) k;
    }) in
    let word = first_word c cs (h.plain 0 (omega arith)) (λ same. inside cs n (record {
      within = omega (arith, h.within);
      plain = λ j lt. h.plain (suc j) (omega (arith, lt));
      last = λ k. h.last n (omega arith) (same_last c cs n same k);
    })) in
    ap suc rest ∙ sym (ap (λ (b : Bool). cond b (suc (words_len cs)) 0) word)

-- ---- what the calls find

plain_space : is_plain 32 ≡ true
plain_space = refl

not_word : (c : ℕ) (cs : List ℕ) → is_plain c ≡ false → words_len (c ∷ cs) ≡ 0
not_word c cs h = ap (λ (b : Bool). cond b (suc (words_len cs)) 0) (go (is_special c) (c == 32) h) where
  go : (a b : Bool) → (b || not a) ≡ false → (not a || (b && not (is_line_end (c ∷ cs)))) ≡ false
  go true false g = refl
  go true true g = absurd cc
  go false true g = absurd cc
  go false false g = absurd cc

-- what is not plain stands behind what is
stop_of : (t : List ℕ) (n : ℕ) → n ≡ run_len is_plain t → n < length t → is_plain (get_or t n 0) ≡ false
stop_of t n e lt = subst (λ (k : ℕ). is_plain (get_or t k 0) ≡ false) (sym e) (run_stop is_plain t (omega (arith, e, lt)))

-- all that is plain, where no line ends
pub all_plain : (t : List ℕ) (n : ℕ) → n ≡ run_len is_plain t → (first_byte (drop n t) ≡ 10 → ⊥) → n ≡ words_len t
all_plain t n e other = words_are t n (record {
  within = omega (arith, e, run_within is_plain t);
  plain = λ j lt. run_byte is_plain t j (omega (arith, e, lt));
  stop = go (nat_lt n (length t)) refl;
  last = λ j k same. (other, not_space);
})
  where
    not_space : first_byte (drop n t) ≡ 32 → ⊥
    not_space h =
        let lt : n < length t = byte_within t n 32 h (omega arith) in
        let plain : is_plain 32 ≡ false = subst (λ (k : ℕ). is_plain k ≡ false) (sym (first_at n t) ∙ h) (stop_of t n e lt) in
        absurd cc

    go : (b : Bool) → nat_lt n (length t) ≡ b → words_len (drop n t) ≡ 0
    go true h =
        let lt : n < length t = grind (arith, h) in
        ap words_len (drop_more t n 0 lt) ∙ not_word (get_or t n 0) (drop (n + 1) t) (stop_of t n e lt)
    go false h = let past : length t ≤ n = grind (arith, h) in ap words_len (drop_of_length-le t past)

-- one space less
pub one_less : (t : List ℕ) (n : ℕ) → 0 < n → n ≤ length t → get_or t (n - 1) 0 ≡ 32 → is_line_end (drop n t) ≡ true → is_line_end (drop (n - 1) t) ≡ true
one_less t n some le e h =
    let lt : n - 1 < length t = omega (arith, some, le) in
    let next : n - 1 + 1 ≡ n = omega (arith, some) in
    let is : (get_or t (n - 1) 0 == 32) ≡ true = grind (arith, e) in
    ap is_line_end (drop_more t (n - 1) 0 lt) ∙ line_space (get_or t (n - 1) 0) (drop (n - 1 + 1) t) is ∙ ap (λ (k : ℕ). is_line_end (drop k t)) next ∙ h

-- up to the spaces before a line end
pub before_line : (t : List ℕ) (n end : ℕ) → n ≡ run_len is_plain t → end ≤ n → is_line_end (drop end t) ≡ true → (0 < end → get_or t (end - 1) 0 ≡ 32 → ⊥) → end ≡ words_len t
before_line t n end e le h other = words_are t end (record {
  within = omega (arith, e, le, run_within is_plain t);
  plain = λ j lt. run_byte is_plain t j (omega (arith, e, le, lt));
  stop = line_stops (drop end t) h;
  last = λ j k same. absurd (other (omega (arith, k)) (let at : end - 1 ≡ j = omega (arith, k) in ap (λ (i : ℕ). get_or t i 0) at ∙ same));
})
