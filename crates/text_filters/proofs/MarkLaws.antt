-- Marks in a text, and what stands between them.
use Rattle.std.proofs.Common.{◌≡◌, ℕ, zero, suc, ◌+◌, ◌<◌, Bool, true, false, cond, eqb, ◌&&◌, List, [], ◌∷◌, ◌++◌, length, take, drop, get_or, refl, sym, ap, ◌∙◌, append_assoc, arith, subst, Option, Some, None}
use Rattle.std.specs.Str.{IsUtf8, IsCharBoundary}
use Rattle.std.proofs.lemmas.Bool.{eqb-true}
use Rattle.std.proofs.lemmas.Bool.Decides.{nat_tests}
use Rattle.std.proofs.lemmas.List.{append-nil, drop_more, take_more, nil_from_length}
use Rattle.std.proofs.lemmas.Str.{IsCharBoundary-after_ascii, IsCharBoundary-before_ascii}
use Rattle.site_base.specs.Lines.{begins_lf}
use Rattle.filter_base.specs.White.{is_white}
use Rattle.filter_base.proofs.WhiteLaws.{white_ascii}
use Rattle.text_filters.specs.Marks.{Found, single, reference, is_reference, mark_at, marked_after}
use Rattle.text_filters.specs.declared.marks.Mark.{Mark}
use Rattle.text_filters.specs.declared.marks.Mark.TheVariants.{Escape, EscapeOnce, EscapeXml, LineBreak, LineEnd, WhiteSpace}

-- so many bytes behind the first; the first and the last are ASCII
pub record Fits (t : List ℕ) (more : ℕ) : Type 0 where
  pub within : more < length t
  pub first : get_or t 0 0 < 128
  pub last : get_or t more 0 < 128

fits_one : (c : ℕ) (cs : List ℕ) (n : ℕ) → n ≡ 0 → c < 128 → Fits (c ∷ cs) n
fits_one c cs n e low = subst (Fits (c ∷ cs)) (sym e) (record { within = omega arith; first = low; last = low })

abbrev found : ℕ → List ℕ → Found
found n w = Some (n, w)

number_of : (a n : ℕ) (v w : List ℕ) → found a v ≡ found n w → n ≡ a
number_of a n v w e =
    let x : ℕ × List ℕ = (a, v) in let y : ℕ × List ℕ = (n, w) in
    let p : x ≡ y = cc in
    sym (ap (λ (q : ℕ × List ℕ). q.0) p)

reference_ascii : (c : ℕ) (x : List ℕ) → reference c ≡ Some x → c < 128
reference_ascii c x e = grind (arith, nat_tests)

single_fits : (c : ℕ) (cs : List ℕ) (o : Option (List ℕ)) (n : ℕ) (w : List ℕ) → reference c ≡ o → single o ≡ found n w → Fits (c ∷ cs) n
single_fits c cs (Some x) n w r e = fits_one c cs n (number_of 0 n x w e) (reference_ascii c x r)
single_fits c cs None n w r e = absurd cc

unless_fits : (b : Bool) (c : ℕ) (cs : List ℕ) (n : ℕ) (w : List ℕ) → cond b None (single (reference c)) ≡ found n w → Fits (c ∷ cs) n
unless_fits true c cs n w e = absurd cc
unless_fits false c cs n w e = single_fits c cs (reference c) n w refl e

lf_fits : (b : Bool) (c : ℕ) (cs : List ℕ) (v : List ℕ) (other : Found) (n : ℕ) (w : List ℕ) → eqb c 10 ≡ b → cond b (found 0 v) other ≡ found n w → (other ≡ found n w → Fits (c ∷ cs) n) → Fits (c ∷ cs) n
lf_fits true c cs v other n w lf e rest = fits_one c cs n (number_of 0 n v w e) (omega (arith, eqb-true c 10 lf))
lf_fits false c cs v other n w lf e rest = rest e

crlf_fits : (b : Bool) (c : ℕ) (cs : List ℕ) (n : ℕ) (w : List ℕ) → eqb c 13 ≡ b → cond (b && begins_lf cs) (found 1 []) None ≡ found n w → Fits (c ∷ cs) n
crlf_fits false c cs n w cr e = absurd cc
crlf_fits true c [] n w cr e = absurd cc
crlf_fits true c (d ∷ ds) n w cr e = at (eqb d 10) refl e where
  at : (b : Bool) → eqb d 10 ≡ b → cond b (found 1 []) None ≡ found n w → Fits (c ∷ d ∷ ds) n
  at true lf f = subst (Fits (c ∷ d ∷ ds)) (sym (number_of 1 n [] w f)) (record { within = omega arith; first = omega (arith, eqb-true c 13 cr); last = omega (arith, eqb-true d 10 lf) })
  at false lf f = absurd cc

white_fits : (b : Bool) (c : ℕ) (cs v : List ℕ) (n : ℕ) (w : List ℕ) → is_white c ≡ b → cond b (found 0 v) None ≡ found n w → Fits (c ∷ cs) n
white_fits true c cs v n w white e = fits_one c cs n (number_of 0 n v w e) (white_ascii c white)
white_fits false c cs v n w white e = absurd cc

pub mark_fits : (m : Mark) (t : List ℕ) (n : ℕ) (w : List ℕ) → mark_at m t ≡ found n w → Fits t n
mark_fits Escape [] n w e = absurd cc
mark_fits Escape (c ∷ cs) n w e = single_fits c cs (reference c) n w refl e
mark_fits EscapeOnce [] n w e = absurd cc
mark_fits EscapeOnce (c ∷ cs) n w e = unless_fits (eqb c 38 && is_reference cs) c cs n w e
mark_fits EscapeXml [] n w e = absurd cc
mark_fits EscapeXml (c ∷ cs) n w e = unless_fits (eqb c 39) c cs n w e
mark_fits LineBreak [] n w e = absurd cc
mark_fits LineBreak (c ∷ cs) n w e = lf_fits (eqb c 10) c cs _ None n w refl e (λ f. absurd cc)
mark_fits LineEnd [] n w e = absurd cc
mark_fits LineEnd (c ∷ cs) n w e = lf_fits (eqb c 10) c cs [] _ n w refl e (λ f. crlf_fits (eqb c 13) c cs n w refl f)
mark_fits WhiteSpace [] n w e = absurd cc
mark_fits WhiteSpace (c ∷ cs) n w e = white_fits (is_white c) c cs _ n w refl e

-- ---- where a text may be cut

pub cut_after : (t : List ℕ) (n : ℕ) → IsUtf8 t → Fits t n → IsCharBoundary t (n + 1)
cut_after t n u fits = IsCharBoundary-after_ascii t n u fits.within fits.last

pub cut_before : (t : List ℕ) (i n : ℕ) → Fits (drop i t) n → i < length t → IsCharBoundary t i
cut_before t i n fits lt =
    let at : drop i t ≡ get_or t i 0 ∷ drop (i + 1) t = drop_more t i 0 lt in
    IsCharBoundary-before_ascii t i lt (subst (λ (xs : List ℕ). get_or xs 0 0 < 128) at fits.first)

-- ---- what a mark stands for, and what stands before the next

skip : (m : Mark) (k : ℕ) (cs : List ℕ) → marked_after m k cs ≡ marked_after m 0 (drop k cs)
unfolding marked_after
skip m zero cs = refl
skip m (suc k) [] = refl
skip m (suc k) (c ∷ cs) = skip m k cs

found_first : (m : Mark) (c : ℕ) (cs : List ℕ) (n : ℕ) (w : List ℕ) → mark_at m (c ∷ cs) ≡ found n w → marked_after m 0 (c ∷ cs) ≡ w ++ marked_after m n cs
unfolding marked_after
found_first m c cs n w e = ap (λ (x : Found). elim x [ None ↦ c ∷ marked_after m 0 cs | Some y ↦ y.1 ++ marked_after m y.0 cs ]) e

pub found_mark : (m : Mark) (t : List ℕ) (n : ℕ) (w : List ℕ) → mark_at m t ≡ found n w → n < length t → marked_after m 0 t ≡ w ++ marked_after m 0 (drop (n + 1) t)
found_mark m [] n w e lt = absurd (omega arith)
found_mark m (c ∷ cs) n w e lt =
    let one : suc n ≡ n + 1 = omega arith in
    found_first m c cs n w e ∙ ap (λ (t : List ℕ). w ++ t) (skip m n cs) ∙ ap (λ k. w ++ marked_after m 0 (drop k (c ∷ cs))) one

no_mark : (m : Mark) (c : ℕ) (cs : List ℕ) → mark_at m (c ∷ cs) ≡ None → marked_after m 0 (c ∷ cs) ≡ c ∷ marked_after m 0 cs
unfolding marked_after
no_mark m c cs e = ap (λ (x : Found). elim x [ None ↦ c ∷ marked_after m 0 cs | Some y ↦ y.1 ++ marked_after m y.0 cs ]) e

pub plain_more : (m : Mark) (t : List ℕ) (i : ℕ) → i < length t → mark_at m (drop i t) ≡ None → take i t ++ marked_after m 0 (drop i t) ≡ take (i + 1) t ++ marked_after m 0 (drop (i + 1) t)
plain_more m t i lt none =
    let at : drop i t ≡ get_or t i 0 ∷ drop (i + 1) t = drop_more t i 0 lt in
    let one : marked_after m 0 (drop i t) ≡ get_or t i 0 ∷ marked_after m 0 (drop (i + 1) t) =
    ap (marked_after m 0) at ∙ no_mark m (get_or t i 0) (drop (i + 1) t) (ap (mark_at m) (sym at) ∙ none) in
    ap (λ (xs : List ℕ). take i t ++ xs) one ∙ sym (append_assoc (take i t) (get_or t i 0 ∷ []) (marked_after m 0 (drop (i + 1) t)))
    ∙ ap (λ (xs : List ℕ). xs ++ marked_after m 0 (drop (i + 1) t)) (sym (take_more t i 0 lt))

pub pushed_mark : (m : Mark) (t old new w rest : List ℕ) (n : ℕ) → new ≡ old ++ w → rest ≡ drop (n + 1) t → mark_at m t ≡ found n w → n < length t → new ++ marked_after m 0 rest ≡ old ++ marked_after m 0 t
pushed_mark m t old new w rest n made left e lt =
    ap (λ (s : List ℕ). s ++ marked_after m 0 rest) made
    ∙ append_assoc old w (marked_after m 0 rest)
    ∙ ap (λ (r : List ℕ). old ++ (w ++ marked_after m 0 r)) left
    ∙ ap (λ (s : List ℕ). old ++ s) (sym (found_mark m t n w e lt))

nothing_left : (m : Mark) → marked_after m 0 [] ≡ []
unfolding marked_after
nothing_left m = refl

pub marked_end : (m : Mark) (made rest whole : List ℕ) → length rest ≡ 0 → made ++ marked_after m 0 rest ≡ whole → made ≡ whole
marked_end m made rest whole none h =
    sym (append-nil made) ∙ ap (λ (s : List ℕ). made ++ s) (sym (ap (marked_after m 0) (nil_from_length rest none) ∙ nothing_left m)) ∙ h
