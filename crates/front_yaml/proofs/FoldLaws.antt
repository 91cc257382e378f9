-- Folding, one part of a text after another.
use Rattle.std.proofs.Common.{◌≡◌, ℕ, zero, suc, ◌+◌, ◌<◌, ◌≤◌, Bool, true, false, ◌&&◌, ◌||◌, not, cond, List, [], ◌∷◌, ◌++◌, length, take, drop, refl, ap, sym, ◌∙◌, arith, append_assoc, append-nil, get_or}
use Rattle.std.specs.Prelude.{◌==◌, Option, Some, None, encode_utf8}
use Rattle.std.proofs.lemmas.Bool.Decides.{nat_tests}
use Rattle.std.specs.List.{prefix_len}
use Rattle.std.proofs.lemmas.List.Sums.{prefix_len-le-length}
use Rattle.front_yaml.specs.Bytes.{later, added, starts, is_white, is_gap, white_len, repeated}
use Rattle.front_yaml.specs.TextLines.{line_ends}
use Rattle.front_yaml.specs.Escapes.{escape}
use Rattle.front_yaml.specs.Folding.{Where, within, between, joined, next_line, joint, is_between, ends_line, folded}
use Rattle.front_yaml.specs.Quotes.{escape_len, bad_escape}
use Rattle.front_yaml.proofs.Added.{added_zero, added_more}
use Rattle.front_yaml.proofs.Prefixes.{prefix_more, prefix_none, prefix_some}
use Rattle.front_yaml.specs.Given.{is_solid, kept_white, Folds}

white-inside : (c : ℕ) → is_white c ≡ true → (c == 10) ≡ false
white-inside c e = grind (arith, nat_tests)

plain_end : (b : Bool) → cond b true false ≡ b
plain_end true = refl
plain_end false = refl

-- white space before a line end
ends-step : (w : Bool) (c : ℕ) (cs : List ℕ) → is_white c ≡ w → ends_line cs ≡ starts 10 (drop (white_len cs) cs) → ends_line (c ∷ cs) ≡ starts 10 (drop (white_len (c ∷ cs)) (c ∷ cs))
ends-step true c cs e h =
    let on : ends_line (c ∷ cs) ≡ ends_line cs = rw (white-inside c e, e) refl in
    on ∙ h ∙ ap (λ n. starts 10 (drop n (c ∷ cs))) (sym (prefix_more is_white c cs e))
ends-step false c cs e h =
    let here : ends_line (c ∷ cs) ≡ (c == 10) = rw e (plain_end (c == 10)) in
    here ∙ ap (λ n. starts 10 (drop n (c ∷ cs))) (sym (prefix_none is_white c cs e))

pub ends_line_is : (s : List ℕ) → ends_line s ≡ starts 10 (drop (white_len s) s)
ends_line_is [] = refl
ends_line_is (c ∷ cs) = ends-step (is_white c) c cs refl (ends_line_is cs)

pub past_skip : (e : Bool) (w : Where) (k : ℕ) (s : List ℕ) → folded e w k s ≡ folded e w 0 (drop k s)
past_skip e w zero s = refl
past_skip e w (suc k) [] = refl
past_skip e w (suc k) (c ∷ cs) = past_skip e w k cs

-- a run of white space and line ends behind a line end
abbrev gap_len : List ℕ → ℕ
gap_len = prefix_len is_gap

abbrev ends_in_gap : List ℕ → ℕ
ends_in_gap s = line_ends (take (gap_len s) s)

-- the cases of one byte, by what the tests of it say
abbrev chosen : Bool → (at_end white escaped : Bool) → Where → ℕ → List ℕ → List ℕ
chosen e at_end white escaped w c cs = elim at_end [
  | true ↦ folded e (next_line w) 0 cs
  | false ↦ elim white [
    | true ↦ folded e w 0 cs
    | false ↦ joint w ++ elim escaped [
      | true ↦ elim (escape cs) [ Some x ↦ encode_utf8 x.0 ++ folded e within x.1 cs | None ↦ folded e (joined 0) 1 cs ]
      | false ↦ c ∷ folded e within 0 cs
    ]
  ]
]

abbrev folds_away : Where → ℕ → List ℕ → Bool
folds_away w c cs = is_white c && (is_between w || ends_line cs)

at-end : (e : Bool) (w : Where) (c : ℕ) (cs : List ℕ) → (c == 10) ≡ true → folded e w 0 (c ∷ cs) ≡ folded e (next_line w) 0 cs
at-end e w c cs p = ap (λ t. chosen e t (folds_away w c cs) (e && (c == 92)) w c cs) p

at-white : (e : Bool) (w : Where) (c : ℕ) (cs : List ℕ) → (c == 10) ≡ false → folds_away w c cs ≡ true → folded e w 0 (c ∷ cs) ≡ folded e w 0 cs
at-white e w c cs p q = ap (λ t. chosen e t (folds_away w c cs) (e && (c == 92)) w c cs) p ∙ ap (λ t. chosen e false t (e && (c == 92)) w c cs) q

at-other : (e : Bool) (w : Where) (c : ℕ) (cs : List ℕ) → (c == 10) ≡ false → folds_away w c cs ≡ false → folded e w 0 (c ∷ cs) ≡ chosen e false false (e && (c == 92)) w c cs
at-other e w c cs p q = ap (λ t. chosen e t (folds_away w c cs) (e && (c == 92)) w c cs) p ∙ ap (λ t. chosen e false t (e && (c == 92)) w c cs) q

at-solid : (e : Bool) (c : ℕ) (cs : List ℕ) → (c == 10) ≡ false → folds_away within c cs ≡ false → e && (c == 92) ≡ false → folded e within 0 (c ∷ cs) ≡ c ∷ folded e within 0 cs
at-solid e c cs p q r = at-other e within c cs p q ∙ ap (λ t. chosen e false false t within c cs) r

white-and : (a b x y : Bool) → a ≡ x → b ≡ y → a && b ≡ x && y
white-and a b x y p q = rw (p, q) refl

gap-more : (t w : Bool) (c : ℕ) (cs : List ℕ) → (c == 10) ≡ t → is_white c ≡ w → w || t ≡ true → gap_len (c ∷ cs) ≡ suc (gap_len cs)
gap-more t w c cs p q r = let gap : is_gap c ≡ true = rw (p, q) r in prefix_more is_gap c cs gap

gap-none : (c : ℕ) (cs : List ℕ) → (c == 10) ≡ false → is_white c ≡ false → gap_len (c ∷ cs) ≡ 0
gap-none c cs p q = let none : is_gap c ≡ false = rw (p, q) refl in prefix_none is_gap c cs none

or-true : (w : Bool) → w || true ≡ true
or-true true = refl
or-true false = refl

module _ (e : Bool) (f : ℕ → Where) (goes_on : (b : ℕ) → next_line (f b) ≡ f (suc b)) (stays : (b : ℕ) → is_between (f b) ≡ true) where
  abbrev after_gap : ℕ → ℕ → List ℕ → List ℕ
  after_gap b g s = joint (f (b + line_ends (take g s))) ++ folded e within 0 (drop g s)

  abbrev Told : ℕ → List ℕ → Type 0
  Told b s = folded e (f b) 0 s ≡ after_gap b (gap_len s) s

  after-end : (b g c : ℕ) (cs : List ℕ) → (c == 10) ≡ true → after_gap (suc b) g cs ≡ after_gap b (suc g) (c ∷ cs)
  after-end b g c cs p =
      let k : suc b + line_ends (take g cs) ≡ b + suc (line_ends (take g cs)) = omega arith in
      rw p (ap (λ n. joint (f n) ++ folded e within 0 (drop g cs)) k)

  after-white : (b g c : ℕ) (cs : List ℕ) → (c == 10) ≡ false → after_gap b g cs ≡ after_gap b (suc g) (c ∷ cs)
  after-white b g c cs p = rw p refl

  stay-white : (b c : ℕ) (cs : List ℕ) → is_white c ≡ true → folds_away (f b) c cs ≡ true
  stay-white b c cs q = rw (q, stays b) refl

  stay-solid : (b c : ℕ) (cs : List ℕ) → is_white c ≡ false → folds_away (f b) c cs ≡ false
  stay-solid b c cs q = rw q refl

  no-gap : (b : ℕ) (s : List ℕ) → after_gap b 0 s ≡ joint (f b) ++ folded e within 0 s
  no-gap b s = let z : b + 0 ≡ b = omega arith in ap (λ n. joint (f n) ++ folded e within 0 s) z

  gap-step : (t w : Bool) (b c : ℕ) (cs : List ℕ) → (c == 10) ≡ t → is_white c ≡ w → Told (suc b) cs → Told b cs → Told b (c ∷ cs)
  gap-step true w b c cs p q h i =
      at-end e (f b) c cs p ∙ ap (λ x. folded e x 0 cs) (goes_on b) ∙ h ∙ after-end b (gap_len cs) c cs p ∙ ap (λ g. after_gap b g (c ∷ cs)) (sym (gap-more true w c cs p q (or-true w)))
  gap-step false true b c cs p q h i =
      at-white e (f b) c cs p (stay-white b c cs q) ∙ i ∙ after-white b (gap_len cs) c cs p ∙ ap (λ g. after_gap b g (c ∷ cs)) (sym (gap-more false true c cs p q refl))
  gap-step false false b c cs p q h i =
      at-other e (f b) c cs p (stay-solid b c cs q) ∙ ap (λ xs. joint (f b) ++ xs) (sym (at-other e within c cs p (white-and (is_white c) (ends_line cs) false (ends_line cs) q refl))) ∙ sym (no-gap b (c ∷ cs)) ∙ ap (λ g. after_gap b g (c ∷ cs)) (sym (gap-none c cs p q))

  past_gap : (b : ℕ) (s : List ℕ) → Told b s
  past_gap b [] = let z : b + 0 ≡ b = omega arith in rw z (sym (append-nil (joint (f b))))
  past_gap b (c ∷ cs) = gap-step (c == 10) (is_white c) b c cs refl refl (past_gap (suc b) cs) (past_gap b cs)

past_between : (e : Bool) (s : List ℕ) → folded e (between 0) 0 s ≡ joint (between (ends_in_gap s)) ++ folded e within 0 (drop (gap_len s) s)
past_between e s = let z : 0 + ends_in_gap s ≡ ends_in_gap s = omega arith in rw (← z) (past_gap e between (λ b. refl) (λ b. refl) 0 s)

past_joined : (e : Bool) (s : List ℕ) → folded e (joined 0) 0 s ≡ repeated (ends_in_gap s) 10 ++ folded e within 0 (drop (gap_len s) s)
past_joined e s = let z : 0 + ends_in_gap s ≡ ends_in_gap s = omega arith in rw (← z) (past_gap e joined (λ b. refl) (λ b. refl) 0 s)

-- ---- one part of a text

tail-first : (s : List ℕ) (c : ℕ) → 0 < length s → get_or s 0 0 ≡ c → s ≡ c ∷ drop 1 s
tail-first [] c lt e = absurd (omega arith)
tail-first (x ∷ xs) c lt e = ap (λ y. y ∷ xs) e

white-plain : (e : Bool) (c : ℕ) → is_white c ≡ true → e && (c == 92) ≡ false
white-plain true c q = grind (arith, nat_tests)
white-plain false c q = refl

abbrev after_white : Bool → ℕ → ℕ → List ℕ → List ℕ
after_white e k n s = take k s ++ folded e within 0 (drop n s)

abbrev kept_len : Bool → ℕ → ℕ
kept_len t n = cond t 0 n

white-more : (c : ℕ) (cs : List ℕ) → is_white c ≡ true → white_len (c ∷ cs) ≡ suc (white_len cs)
white-more c cs q = prefix_more is_white c cs q

white-none : (c : ℕ) (cs : List ℕ) → is_white c ≡ false → white_len (c ∷ cs) ≡ 0
white-none c cs q = prefix_none is_white c cs q

ends-on : (c : ℕ) (cs : List ℕ) (t : Bool) → is_white c ≡ true → ends_line cs ≡ t → ends_line (c ∷ cs) ≡ t
ends-on c cs t q u = rw (white-inside c q, q) u

keeps : (e t : Bool) (n : ℕ) (s : List ℕ) → ends_line s ≡ t → white_len s ≡ n → kept_white s ++ folded e within 0 (drop (white_len s) s) ≡ after_white e (kept_len t n) n s
keeps e t n s p q = ap (λ b. after_white e (kept_len b (white_len s)) (white_len s) s) p ∙ ap (λ m. after_white e (kept_len t m) m s) q

kept-none : (t : Bool) → kept_len t 0 ≡ 0
kept-none true = refl
kept-none false = refl

kept-step : (e w t : Bool) (c : ℕ) (cs : List ℕ) → is_white c ≡ w → ends_line cs ≡ t
    → kept_white cs ++ folded e within 0 (drop (white_len cs) cs) ≡ folded e within 0 cs
    → kept_white (c ∷ cs) ++ folded e within 0 (drop (white_len (c ∷ cs)) (c ∷ cs)) ≡ folded e within 0 (c ∷ cs)
kept-step e true true c cs q u h =
    keeps e true _ (c ∷ cs) (ends-on c cs true q u) (white-more c cs q) ∙ sym (keeps e true _ cs u refl) ∙ h ∙ sym (at-white e within c cs (white-inside c q) (white-and (is_white c) (ends_line cs) true true q u))
kept-step e true false c cs q u h =
    keeps e false _ (c ∷ cs) (ends-on c cs false q u) (white-more c cs q) ∙ ap (λ xs. c ∷ xs) (sym (keeps e false _ cs u refl) ∙ h) ∙ sym (at-solid e c cs (white-inside c q) (white-and (is_white c) (ends_line cs) true false q u) (white-plain e c q))
kept-step e false t c cs q u h =
    keeps e (ends_line (c ∷ cs)) 0 (c ∷ cs) refl (white-none c cs q) ∙ ap (λ k. after_white e k 0 (c ∷ cs)) (kept-none (ends_line (c ∷ cs)))

-- white space inside a line
pub past_white : (e : Bool) (s : List ℕ) → kept_white s ++ folded e within 0 (drop (white_len s) s) ≡ folded e within 0 s
past_white e [] = refl
past_white e (c ∷ cs) = kept-step e (is_white c) (ends_line cs) c cs refl refl (past_white e cs)

parts : (w t z : Bool) → not ((w || t) || z) ≡ true → (w ≡ false) × (t ≡ false) × (z ≡ false)
parts true t z e = cc
parts false true z e = cc
parts false false true e = cc
parts false false false e = (refl, refl, refl)

solid-step : (e t : Bool) (c : ℕ) (cs : List ℕ) → is_solid e c ≡ t
    → take (prefix_len (is_solid e) cs) cs ++ folded e within 0 (drop (prefix_len (is_solid e) cs) cs) ≡ folded e within 0 cs
    → take (prefix_len (is_solid e) (c ∷ cs)) (c ∷ cs) ++ folded e within 0 (drop (prefix_len (is_solid e) (c ∷ cs)) (c ∷ cs)) ≡ folded e within 0 (c ∷ cs)
solid-step e true c cs q h =
    let o = parts (is_white c) (c == 10) (e && (c == 92)) q in
    ap (λ n. after_white e n n (c ∷ cs)) (prefix_more (is_solid e) c cs q) ∙ ap (λ xs. c ∷ xs) h ∙ sym (at-solid e c cs o.1 (white-and (is_white c) (ends_line cs) false (ends_line cs) o.0 refl) o.2)
solid-step e false c cs q h = ap (λ n. after_white e n n (c ∷ cs)) (prefix_none (is_solid e) c cs q)

-- bytes that stand for themselves
pub past_solid : (e : Bool) (s : List ℕ) → take (prefix_len (is_solid e) s) s ++ folded e within 0 (drop (prefix_len (is_solid e) s) s) ≡ folded e within 0 s
past_solid e [] = refl
past_solid e (c ∷ cs) = solid-step e (is_solid e c) c cs refl (past_solid e cs)

-- ---- the parts that the code takes

pub break_taken : (e : Bool) (s old new : List ℕ) (n : ℕ) → 0 < length s → get_or s 0 0 ≡ 10 → n ≡ 1 + gap_len (drop 1 s) → new ≡ old ++ joint (between (ends_in_gap (drop 1 s))) → Folds e old new s n
break_taken e [] old new n lt p q r = absurd (omega arith)
break_taken e (c ∷ cs) old new n lt p q r =
    let k : n ≡ suc (gap_len cs) = omega arith in
    record {
      some = omega arith;
      inside = omega (arith, prefix_len-le-length is_gap cs);
      same = rw (k, r, append_assoc, p) (ap (λ xs. old ++ xs) (sym (past_between e cs)));
    }

pub white_taken : (e : Bool) (s old new : List ℕ) (n : ℕ) → 0 < length s → is_white (get_or s 0 0) ≡ true → n ≡ white_len s → new ≡ old ++ kept_white s → Folds e old new s n
white_taken e [] old new n lt p q r = absurd (omega arith)
white_taken e (c ∷ cs) old new n lt p q r = record {
  some = omega (arith, prefix_some is_white c cs p);
  inside = omega (arith, prefix_len-le-length is_white (c ∷ cs));
  same = rw (q, r, append_assoc) (ap (λ xs. old ++ xs) (past_white e (c ∷ cs)));
}

other : (a b : ℕ) → (a ≡ b → ⊥) → (a == b) ≡ false
other a b ne = grind (arith, nat_tests)

is-solid : (w t z : Bool) → w ≡ false → t ≡ false → z ≡ false → not ((w || t) || z) ≡ true
is-solid w t z p q r = rw (p, q, r) refl

pub solid_taken : (e : Bool) (s old new : List ℕ) (n : ℕ) → 0 < length s → is_white (get_or s 0 0) ≡ false → (get_or s 0 0 ≡ 10 → ⊥) → e && (get_or s 0 0 == 92) ≡ false
    → n ≡ prefix_len (is_solid e) s → new ≡ old ++ take (prefix_len (is_solid e) s) s → Folds e old new s n
solid_taken e [] old new n lt p q o h r = absurd (omega arith)
solid_taken e (c ∷ cs) old new n lt p q o h r = record {
  some = omega (arith, prefix_some (is_solid e) c cs (is-solid (is_white c) (c == 10) (e && (c == 92)) p (other c 10 q) o));
  inside = omega (arith, prefix_len-le-length (is_solid e) (c ∷ cs));
  same = rw (h, r, append_assoc) (ap (λ xs. old ++ xs) (past_solid e (c ∷ cs)));
}

pub escape_taken : (s old new : List ℕ) (c len n : ℕ) → escape s ≡ Some (c, len) → len ≤ length s → n ≡ 1 + len → new ≡ old ++ encode_utf8 c → Folds true old new (92 ∷ s) n
escape_taken s old new c len n p fits q r =
    let k : n ≡ suc len = omega arith in
    record {
      some = omega arith;
      inside = omega arith;
      same = rw (k, r, append_assoc, p) (ap (λ xs. old ++ (encode_utf8 c ++ xs)) (sym (past_skip true within len s)));
    }

pub line_end_taken : (s old new : List ℕ) (n : ℕ) → escape s ≡ None → 0 < length s → n ≡ 2 + gap_len (drop 1 s) → new ≡ old ++ repeated (ends_in_gap (drop 1 s)) 10 → Folds true old new (92 ∷ s) n
line_end_taken [] old new n p lt q r = absurd (omega arith)
line_end_taken (c ∷ cs) old new n p lt q r =
    let k : n ≡ suc (suc (gap_len cs)) = omega arith in
    record {
      some = omega arith;
      inside = omega (arith, prefix_len-le-length is_gap cs);
      same = rw (k, r, append_assoc, p) (ap (λ xs. old ++ xs) (sym (past_joined true cs)));
    }

pub nothing_taken : (s old : List ℕ) → escape s ≡ None → length s ≡ 0 → Folds true old old (92 ∷ s) 1
nothing_taken [] old p e = record { some = omega arith; inside = omega arith; same = refl }
nothing_taken (c ∷ cs) old p e = absurd (omega arith)

-- ---- escapes

pub past_bad : (k : ℕ) (s : List ℕ) → bad_escape k s ≡ added k (bad_escape 0 (drop k s))
past_bad zero s = sym (added_zero (bad_escape 0 s))
past_bad (suc k) [] = refl
past_bad (suc k) (c ∷ cs) = let e : 1 + k ≡ suc k = omega arith in ap later (past_bad k cs) ∙ added_more k (bad_escape 0 (drop k cs)) ∙ ap (λ m. added m (bad_escape 0 (drop k cs))) e

pub not_empty : (s : List ℕ) → (length s == 0) ≡ false → 0 < length s
not_empty [] e = cc
not_empty (c ∷ cs) e = omega arith

-- the line ends of a gap, as the code counts them
pub gap_count : (s rest gap : List ℕ) (n k : ℕ) → rest ≡ drop 1 s → n ≡ gap_len rest → gap ≡ take n rest → k ≡ line_ends gap → k ≡ ends_in_gap (drop 1 s)
gap_count s rest gap n k p q r o = o ∙ ap line_ends (r ∙ ap (λ m. take m rest) q) ∙ ap ends_in_gap p

abbrev bad_by : Option ℕ → List ℕ → Option ℕ
bad_by o cs = elim o [ None ↦ Some 0 | Some k ↦ later (bad_escape k cs) ]

pub escaped_on : (c : ℕ) (cs : List ℕ) (k : ℕ) → c ≡ 92 → escape_len cs ≡ Some k → bad_escape 0 (c ∷ cs) ≡ added (1 + k) (bad_escape 0 (drop (1 + k) (c ∷ cs)))
escaped_on c cs k p q =
    let e : 1 + k ≡ suc k = omega arith in
    rw p (ap (λ o. bad_by o cs) q ∙ ap later (past_bad k cs) ∙ added_more k (bad_escape 0 (drop k cs)) ∙ ap (λ n. added (1 + k) (bad_escape 0 (drop n (92 ∷ cs)))) (sym e))
