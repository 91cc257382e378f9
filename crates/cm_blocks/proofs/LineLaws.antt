-- The lines of a text, one after another.
use Rattle.std.proofs.Common.{Bool, IsUtf8, List, [], ap, append_assoc, arith, cond, drop, false, get_or, length, map, not, refl, subst, suc, sym, take, true, zero, ℕ, ◌&&◌, ◌+◌, ◌++◌, ◌-◌, ◌<◌, ◌==◌, ◌||◌, ◌∙◌, ◌∷◌, ◌≡◌}
use Rattle.std.specs.List.{onto_first}
use Rattle.std.specs.Str.{IsCharBoundary}
use Rattle.std.proofs.lemmas.Str.{IsCharBoundary-after_ascii}
use Rattle.site_base.specs.Lines.{begins_lf, ends_line, lines}
use Rattle.markdown_grammar.specs.Columns.{own_line, whole_lines}
use Rattle.site_text.specs.Fronts.{has_one, run_len}
use Rattle.markdown_grammar.specs.Lines.{is_line_end, nul_replaced, text_lines, without_end}
use Rattle.cm_blocks.specs.LineCuts.{IsCut, Replaces, end_size, is_inside, is_nul, is_plain}
use Rattle.cm_blocks.specs.declared.lines.Cut.{Cut}
use Rattle.cm_blocks.proofs.LeafTaking.{whole_rest}
use Rattle.cm_blocks.proofs.OpeningLaws.{byte_behind, drop_length}

-- how many bytes the first line takes with its end
abbrev whole_len : List ℕ → ℕ
whole_len t = run_len is_inside t + end_size (drop (run_len is_inside t) t)

abbrev run_cases : List ℕ → Bool → ℕ
run_cases cs b = elim b as (λ x. ℕ) [ true ↦ suc (run_len is_inside cs) | false ↦ 0 ]

-- the first line, and the others
abbrev IsFirst : List ℕ → ℕ → Type 0
IsFirst t n = lines t ≡ take n t ∷ lines (drop n t)

lines-cons : (c : ℕ) (cs : List ℕ) → lines (c ∷ cs) ≡ cond (ends_line c cs) ((c ∷ []) ∷ lines cs) (onto_first c (lines cs))
unfolding lines
lines-cons c cs = refl

lines-nil : lines [] ≡ []
unfolding lines
lines-nil = refl

one_byte_line : (c : ℕ) (cs : List ℕ) → ends_line c cs ≡ true → IsFirst (c ∷ cs) 1
one_byte_line c cs h = lines-cons c cs ∙ ap (λ (b : Bool). cond b ((c ∷ []) ∷ lines cs) (onto_first c (lines cs))) h

longer_line : (c : ℕ) (cs : List ℕ) (n : ℕ) → ends_line c cs ≡ false → IsFirst cs n → IsFirst (c ∷ cs) (suc n)
longer_line c cs n h k =
    lines-cons c cs ∙ ap (λ (b : Bool). cond b ((c ∷ []) ∷ lines cs) (onto_first c (lines cs))) h ∙ ap (λ (ls : List (List ℕ)). onto_first c ls) k

last_line : (c : ℕ) → ends_line c [] ≡ false → IsFirst (c ∷ []) 1
last_line c h = lines-cons c [] ∙ ap (λ (b : Bool). cond b ((c ∷ []) ∷ lines []) (onto_first c (lines []))) h ∙ ap (λ (ls : List (List ℕ)). onto_first c ls) lines-nil ∙ ap (λ (ls : List (List ℕ)). (c ∷ []) ∷ ls) (sym lines-nil)

is_first : (c : ℕ) (cs : List ℕ) (n k : ℕ) → n ≡ k → IsFirst (c ∷ cs) n → IsFirst (c ∷ cs) k
is_first c cs n k e h = subst (λ (m : ℕ). IsFirst (c ∷ cs) m) e h

abbrev whole_cases : ℕ → List ℕ → Bool → ℕ
whole_cases c cs b = run_cases cs (not b) + end_size (drop (run_cases cs (not b)) (c ∷ cs))

within_line : (c : ℕ) (cs : List ℕ) → is_line_end c ≡ false → suc (whole_len cs) ≡ whole_len (c ∷ cs)
within_line c cs h =
    let e : suc (whole_len cs) ≡ whole_cases c cs false = omega arith in
    e ∙ ap (whole_cases c cs) (sym h)

at_end : (c : ℕ) (cs : List ℕ) → is_line_end c ≡ true → end_size (c ∷ cs) ≡ whole_len (c ∷ cs)
at_end c cs h =
    let e : end_size (c ∷ cs) ≡ 0 + end_size (c ∷ cs) = omega arith in
    e ∙ ap (whole_cases c cs) (sym h)

neither : (a b x : Bool) → (a || b) ≡ false → (a || (b && x)) ≡ false
neither true b x h = absurd cc
neither false true x h = absurd cc
neither false false x h = refl

first_of_two : (a b x : Bool) → (a || b) ≡ true → x ≡ true → (a || (b && x)) ≡ true
first_of_two true b x h e = refl
first_of_two false true x h e = e
first_of_two false false x h e = absurd cc

no_cr : (a b x : Bool) → (a || b) ≡ true → b ≡ false → (a || (b && x)) ≡ true
no_cr true b x h e = refl
no_cr false true x h e = absurd cc
no_cr false false x h e = absurd cc

lf_line : (cs : List ℕ) → begins_lf cs ≡ true → IsFirst cs 1
lf_line [] h = absurd cc
lf_line (d ∷ ds) h = one_byte_line d ds (ap (λ (b : Bool). b || ((d == 13) && not (begins_lf ds))) h)

end_line : (c : ℕ) (cs : List ℕ) → is_line_end c ≡ true → IsFirst (c ∷ cs) (end_size (c ∷ cs))
end_line c cs h = go (c == 13) (begins_lf cs) refl refl where
  go : (b e : Bool) → (c == 13) ≡ b → begins_lf cs ≡ e → IsFirst (c ∷ cs) (cond (b && e) 2 1)
  go true true f g =
      let other : (c == 10) ≡ false = grind (arith, f) in
      let open' : ends_line c cs ≡ false = ap (λ (x : Bool). (c == 10) || ((c == 13) && not x)) g ∙ ap (λ (x : Bool). x || ((c == 13) && not true)) other ∙ ap (λ (x : Bool). false || (x && not true)) f in
      longer_line c cs 1 open' (lf_line cs g)
  go true false f g = one_byte_line c cs (first_of_two (c == 10) (c == 13) (not (begins_lf cs)) h (ap (λ (x : Bool). not x) g))
  go false e f g = one_byte_line c cs (no_cr (c == 10) (c == 13) (not (begins_lf cs)) h f)

first_line : (c : ℕ) (cs : List ℕ) → IsFirst (c ∷ cs) (whole_len (c ∷ cs))
first_line c [] = go (is_line_end c) refl where
  go : (b : Bool) → is_line_end c ≡ b → IsFirst (c ∷ []) (whole_len (c ∷ []))
  go true h = is_first c [] (end_size (c ∷ [])) (whole_len (c ∷ [])) (at_end c [] h) (end_line c [] h)
  go false h = is_first c [] 1 (whole_len (c ∷ [])) (within_line c [] h) (last_line c (neither (c == 10) (c == 13) true h))
first_line c (d ∷ ds) = go (is_line_end c) refl (first_line d ds) where
  go : (b : Bool) → is_line_end c ≡ b → IsFirst (d ∷ ds) (whole_len (d ∷ ds)) → IsFirst (c ∷ d ∷ ds) (whole_len (c ∷ d ∷ ds))
  go true h k = is_first c (d ∷ ds) (end_size (c ∷ d ∷ ds)) (whole_len (c ∷ d ∷ ds)) (at_end c (d ∷ ds) h) (end_line c (d ∷ ds) h)
  go false h k = is_first c (d ∷ ds) (suc (whole_len (d ∷ ds))) (whole_len (c ∷ d ∷ ds)) (within_line c (d ∷ ds) h) (longer_line c (d ∷ ds) (whole_len (d ∷ ds)) (neither (c == 10) (c == 13) (not (begins_lf (d ∷ ds))) h) k)

-- ---- the line without its end

run_front : (p : ℕ → Bool) (t : List ℕ) (m : ℕ) → run_len p (take (run_len p t + m) t) ≡ run_len p t
run_front p [] m = nothing (0 + m) where
  nothing : (n : ℕ) → run_len p (take n []) ≡ 0
  nothing zero = refl
  nothing (suc n) = refl
run_front p (c ∷ cs) m = go (p c) refl (run_front p cs m) where
  cases : Bool → ℕ
  cases b = elim b as (λ x. ℕ) [ true ↦ suc (run_len p cs) | false ↦ 0 ]

  none : (n : ℕ) → p c ≡ false → run_len p (take n (c ∷ cs)) ≡ 0
  none zero h = refl
  none (suc n) h = ap (λ (b : Bool). elim b as (λ x. ℕ) [ true ↦ suc (run_len p (take n cs)) | false ↦ 0 ]) h

  go : (b : Bool) → p c ≡ b → run_len p (take (run_len p cs + m) cs) ≡ run_len p cs
      → run_len p (take ((elim b as (λ x. ℕ) [ true ↦ suc (run_len p cs) | false ↦ 0 ]) + m) (c ∷ cs)) ≡ elim b as (λ x. ℕ) [ true ↦ suc (run_len p cs) | false ↦ 0 ]
  go true h q =
      let e : suc (run_len p cs) + m ≡ suc (run_len p cs + m) = omega arith in
      ap (λ (n : ℕ). run_len p (take n (c ∷ cs))) e ∙ ap (λ (b : Bool). elim b as (λ x. ℕ) [ true ↦ suc (run_len p (take (run_len p cs + m) cs)) | false ↦ 0 ]) h ∙ ap (λ (n : ℕ). suc n) q
  go false h q = none (0 + m) h

pub take_both : (n m : ℕ) (t : List ℕ) → take n (take (n + m) t) ≡ take n t
take_both zero m t = refl
take_both (suc n) m [] = let e : suc n + m ≡ suc (n + m) = omega arith in ap (λ (k : ℕ). take (suc n) (take k [])) e
take_both (suc n) m (c ∷ cs) = let e : suc n + m ≡ suc (n + m) = omega arith in ap (λ (k : ℕ). take (suc n) (take k (c ∷ cs))) e ∙ ap (λ (t : List ℕ). c ∷ t) (take_both n m cs)

cut_end : (t : List ℕ) (m : ℕ) → without_end (take (run_len is_inside t + m) t) ≡ take (run_len is_inside t) t
cut_end t m = ap (λ (n : ℕ). take n (take (run_len is_inside t + m) t)) (run_front is_inside t m) ∙ take_both (run_len is_inside t) m t

next_line : (t : List ℕ) → 0 < length t → text_lines t ≡ take (run_len is_inside t) t ∷ text_lines (drop (whole_len t) t)
next_line [] h = absurd (omega (arith, h))
next_line (c ∷ cs) h =
    ap (λ (ls : List (List ℕ)). map without_end ls) (first_line c cs)
    ∙ ap (λ (l : List ℕ). l ∷ text_lines (drop (whole_len (c ∷ cs)) (c ∷ cs))) (cut_end (c ∷ cs) (end_size (drop (run_len is_inside (c ∷ cs)) (c ∷ cs))))

pub no_lines : text_lines [] ≡ []
no_lines = ap (λ (ls : List (List ℕ)). map without_end ls) lines-nil

pub whole_next : (t l u : List ℕ) (cut : Cut) → 0 < length t → IsCut t cut → l ≡ take cut.inside t → u ≡ drop cut.whole t → whole_lines (text_lines t) ≡ own_line 0 l ∷ whole_lines (text_lines u)
whole_next t l u cut some h a b =
    ap whole_lines (next_line t some)
    ∙ ap (λ (x : List ℕ). own_line 0 x ∷ whole_lines (text_lines (drop (whole_len t) t))) (ap (λ (n : ℕ). take n t) (sym h.inside) ∙ sym a)
    ∙ ap (λ (x : List ℕ). own_line 0 l ∷ whole_lines (text_lines x)) (ap (λ (n : ℕ). drop n t) (sym h.whole) ∙ sym b)

-- ---- where a line may be cut

run_stops : (p : ℕ → Bool) (t : List ℕ) (c : ℕ) (cs : List ℕ) → drop (run_len p t) t ≡ c ∷ cs → p c ≡ false
run_stops p [] c cs e = absurd cc
run_stops p (d ∷ ds) c cs e = go (p d) refl (run_stops p ds c cs) e where
  go : (b : Bool) → p d ≡ b → (drop (run_len p ds) ds ≡ c ∷ cs → p c ≡ false) → drop (elim b as (λ x. ℕ) [ true ↦ suc (run_len p ds) | false ↦ 0 ]) (d ∷ ds) ≡ c ∷ cs → p c ≡ false
  go true h q e = q e
  go false h q e = let same : d ≡ c = cc in ap p (sym same) ∙ h

end_low : (c : ℕ) → is_inside c ≡ false → c < 128
end_low c h = go (c == 10) (c == 13) refl refl h where
  go : (a b : Bool) → (c == 10) ≡ a → (c == 13) ≡ b → not (a || b) ≡ false → c < 128
  go true b f g h = let e : c ≡ 10 = grind (arith, f) in omega (arith, e)
  go false true f g h = let e : c ≡ 13 = grind (arith, g) in omega (arith, e)
  go false false f g h = absurd cc

lf_front : (cs : List ℕ) → IsUtf8 cs → begins_lf cs ≡ true → IsCharBoundary cs 1
lf_front [] u h = absurd cc
lf_front (d ∷ ds) u h = let e : d ≡ 10 = grind (arith, h) in IsCharBoundary-after_ascii (d ∷ ds) 0 u (omega arith) (omega (arith, e))

end_cut : (t : List ℕ) (n : ℕ) (u : List ℕ) → IsUtf8 t → n ≡ run_len is_inside t → drop n t ≡ u → IsCharBoundary t n → IsCharBoundary t (n + end_size u)
end_cut t n [] utf8 run e cut = let same : n ≡ n + 0 = omega arith in subst (IsCharBoundary t) same cut
end_cut t n (c ∷ cs) utf8 run e cut = go (c == 13) (begins_lf cs) refl where
  first : get_or t n 0 ≡ c
  first = let e0 : n ≡ n + 0 = omega arith in ap (λ (i : ℕ). get_or t i 0) e0 ∙ sym (byte_behind n 0 t) ∙ ap (λ (u : List ℕ). get_or u 0 0) e

  size : length cs + 1 ≡ length t - n
  size = omega (arith, sym (ap (λ (u : List ℕ). length u) e) ∙ drop_length n t)

  low : c < 128
  low = end_low c (run_stops is_inside t c cs (ap (λ (i : ℕ). drop i t) (sym run) ∙ e))

  two : begins_lf cs ≡ true → IsCharBoundary t (n + 2)
  two h = second cs h refl where
    second : (ds : List ℕ) → begins_lf ds ≡ true → ds ≡ cs → IsCharBoundary t (n + 2)
    second [] h same = absurd cc
    second (d ∷ ds) h same =
        let lf : d ≡ 10 = grind (arith, h) in
        let at : get_or t (n + 1) 0 ≡ d = sym (byte_behind n 1 t) ∙ ap (λ (u : List ℕ). get_or u 1 0) e ∙ ap (λ (u : List ℕ). get_or u 0 0) (sym same) in
        let far : n + 1 + 1 ≡ n + 2 = omega arith in
        let long : suc (length ds) ≡ length cs = ap (λ (u : List ℕ). length u) same in
        subst (IsCharBoundary t) far (IsCharBoundary-after_ascii t (n + 1) utf8 (omega (arith, size, long)) (omega (arith, at, lf)))

  one : IsCharBoundary t (n + 1)
  one = IsCharBoundary-after_ascii t n utf8 (omega (arith, size)) (omega (arith, first, low))

  go : (a b : Bool) → begins_lf cs ≡ b → IsCharBoundary t (n + cond (a && b) 2 1)
  go true true h = two h
  go true false h = one
  go false b h = one

-- the place of a first line's end, as it is found
pub cut_is : (t bytes : List ℕ) (n e : ℕ) → IsUtf8 t → bytes ≡ t → n ≡ run_len is_inside t → IsCharBoundary t n → e ≡ end_size (take (length bytes - n) (drop n bytes)) → IsCut t (record { inside = n; whole = n + e })
cut_is t bytes n e utf8 same run cut end =
    let rest : e ≡ end_size (drop n t) = end ∙ ap end_size (whole_rest n bytes) ∙ ap (λ (b : List ℕ). end_size (drop n b)) same in
    let at : end_size (drop n t) ≡ end_size (drop (run_len is_inside t) t) = ap (λ (i : ℕ). end_size (drop i t)) run in
    let far : n + end_size (drop n t) ≡ n + e = omega (arith, rest) in
    record { inside = run; whole = omega (arith, run, rest, at); inside_cut = cut; whole_cut = subst (IsCharBoundary t) far (end_cut t n (drop n t) utf8 run refl cut) }

pub line_shorter : (t u : List ℕ) (cut : Cut) → 0 < length t → IsCut t cut → u ≡ drop cut.whole t → length u < length t
line_shorter t u cut some h e = omega (arith, ap (λ (v : List ℕ). length v) e, drop_length cut.whole t, h.whole, moves t some, some) where
  moves : (t : List ℕ) → 0 < length t → 0 < whole_len t
  moves [] h = absurd (omega (arith, h))
  moves (c ∷ cs) h = go (is_line_end c) refl where
    ended : (b : Bool) → 0 < cond b 2 1
    ended true = omega arith
    ended false = omega arith

    go : (b : Bool) → is_line_end c ≡ b → 0 < whole_len (c ∷ cs)
    go true f = omega (arith, at_end c cs f, ended ((c == 13) && begins_lf cs))
    go false f = omega (arith, within_line c cs f)

-- ---- U+0000

pub no_nul : (t : List ℕ) → has_one is_nul t ≡ false → nul_replaced t ≡ t
no_nul [] h = refl
no_nul (c ∷ cs) h = go (c == 0) h (no_nul cs) where
  go : (b : Bool) → elim b as (λ x. Bool) [ true ↦ true | false ↦ has_one is_nul cs ] ≡ false → (has_one is_nul cs ≡ false → nul_replaced cs ≡ cs) → cond b (239 ∷ 191 ∷ 189 ∷ []) (c ∷ []) ++ nul_replaced cs ≡ c ∷ cs
  go true h q = absurd cc
  go false h q = ap (λ (t : List ℕ). c ∷ t) (q h)

plain_split : (t : List ℕ) → take (run_len is_plain t) t ++ nul_replaced (drop (run_len is_plain t) t) ≡ nul_replaced t
plain_split [] = refl
plain_split (c ∷ cs) = go (c == 0) refl (plain_split cs) where
  go : (b : Bool) → (c == 0) ≡ b → take (run_len is_plain cs) cs ++ nul_replaced (drop (run_len is_plain cs) cs) ≡ nul_replaced cs
      → take (elim (not b) as (λ x. ℕ) [ true ↦ suc (run_len is_plain cs) | false ↦ 0 ]) (c ∷ cs) ++ nul_replaced (drop (elim (not b) as (λ x. ℕ) [ true ↦ suc (run_len is_plain cs) | false ↦ 0 ]) (c ∷ cs))
      ≡ nul_replaced (c ∷ cs)
  go true f q = refl
  go false f q = ap (λ (t : List ℕ). c ∷ t) q ∙ ap (λ (b : Bool). cond b (239 ∷ 191 ∷ 189 ∷ []) (c ∷ []) ++ nul_replaced cs) (sym f)

pub replaces_plain : (before after t : List ℕ) (n : ℕ) → n ≡ run_len is_plain t → (n ≡ 0 → ⊥) → IsCharBoundary t n → after ≡ before ++ take n t → Replaces before after t n
replaces_plain before after t n run some cut e = record {
  some = omega (arith, some);
  cut = cut;
  same =
      ap (λ (a : List ℕ). a ++ nul_replaced (drop n t)) e ∙ append_assoc before (take n t) (nul_replaced (drop n t))
      ∙ ap (λ (u : List ℕ). before ++ u) (ap (λ (k : ℕ). take k t ++ nul_replaced (drop k t)) run ∙ plain_split t);
}

pub replaces_nul : (before after t : List ℕ) → IsUtf8 t → 0 < length t → run_len is_plain t ≡ 0 → after ≡ before ++ 239 ∷ 191 ∷ 189 ∷ [] → Replaces before after t 1
replaces_nul before after [] u lt run e = absurd (omega (arith, lt))
replaces_nul before after (c ∷ cs) u lt run e = go (c == 0) refl run where
  go : (b : Bool) → (c == 0) ≡ b → elim (not b) as (λ x. ℕ) [ true ↦ suc (run_len is_plain cs) | false ↦ 0 ] ≡ 0 → Replaces before after (c ∷ cs) 1
  go true f run =
      let zero' : c ≡ 0 = grind (arith, f) in
      record {
        some = omega arith;
        cut = IsCharBoundary-after_ascii (c ∷ cs) 0 u (omega arith) (omega (arith, zero'));
        same =
            ap (λ (a : List ℕ). a ++ nul_replaced cs) e ∙ append_assoc before (239 ∷ 191 ∷ 189 ∷ []) (nul_replaced cs)
            ∙ ap (λ (b : Bool). before ++ (cond b (239 ∷ 191 ∷ 189 ∷ []) (c ∷ []) ++ nul_replaced cs)) (sym f);
      }
  go false f run = absurd (omega (arith, run))

pub replaces_more : (before after t u : List ℕ) (n : ℕ) (whole : List ℕ) → Replaces before after t n → u ≡ drop n t → before ++ nul_replaced t ≡ whole → after ++ nul_replaced u ≡ whole
replaces_more before after t u n whole h e w = ap (λ (v : List ℕ). after ++ nul_replaced v) e ∙ h.same ∙ w

pub replaced_shorter : (before after t u : List ℕ) (n : ℕ) → Replaces before after t n → u ≡ drop n t → length u < length t
replaced_shorter before after t u n h e = omega (arith, ap (λ (v : List ℕ). length v) e, drop_length n t, h.some, h.cut.0)

-- a slice from the front
pub front_range : (n : ℕ) (t : List ℕ) → take (n - 0) t ≡ take n t
front_range n t = let e : n - 0 ≡ n = omega arith in ap (λ (k : ℕ). take k t) e
