-- Escapes and references are resolved one after another.
use Rattle.std.proofs.Common.{◌≡◌, ◌∙◌, ap, sym, subst, refl, ℕ, zero, suc, ◌+◌, ◌-◌, ◌<◌, min, Bool, true, false, cond, not, ◌&&◌, ◌||◌, ◌==◌, List, [], ◌∷◌, ◌++◌, append_assoc, append-nil, length, take, drop, Option, Some, None, encode_utf8, IsUtf8, arith}
use Rattle.std.specs.Str.{IsCharBoundary}
use Rattle.std.proofs.lemmas.Str.{IsCharBoundary-after_ascii}
use Rattle.site_text.specs.Bytes.{ampersand, backslash, is_punct}
use Rattle.site_text.specs.Fronts.{first_byte, run_len}
use Rattle.markdown_grammar.specs.References.{CharRef, front_meaning, resolved}
use Rattle.markdown_grammar.proofs.TextRecursions.{resolved_is}
use Rattle.cm_links.specs.Resolving.{may_mean, StartsAscii, EndsAscii, Resolves}
use Rattle.cm_links.proofs.Boundaries.{boundary_start}

abbrev plain : ℕ → Bool
plain c = not (may_mean c)

abbrev step_of : ℕ → List ℕ → Option CharRef → List ℕ
step_of c cs o = elim o [ Some r ↦ encode_utf8 r.0 ++ resolved (drop (r.1 - 1) cs) | None ↦ c ∷ resolved cs ]

resolved_none : (text : List ℕ) → front_meaning text ≡ None → resolved text ≡ take 1 text ++ resolved (drop 1 text)
resolved_none [] h = refl
resolved_none (c ∷ cs) h = resolved_is (c ∷ cs) ∙ ap (step_of c cs) h

drop_less : (c : ℕ) (cs : List ℕ) (n : ℕ) → 0 < n → drop (n - 1) cs ≡ drop n (c ∷ cs)
drop_less c cs zero lt = absurd (omega (arith, lt))
drop_less c cs (suc n) lt = let e : suc n - 1 ≡ n = omega arith in ap (λ (k : ℕ). drop k cs) e

resolved_some : (text : List ℕ) (r : CharRef) → front_meaning text ≡ Some r → 0 < r.1 → resolved text ≡ encode_utf8 r.0 ++ resolved (drop r.1 text)
resolved_some [] r h lt = absurd cc
resolved_some (c ∷ cs) r h lt = resolved_is (c ∷ cs) ∙ ap (step_of c cs) h ∙ ap (λ (t : List ℕ). encode_utf8 r.0 ++ resolved t) (drop_less c cs r.1 lt)

none_front : (a b p : Bool) (x y : Option CharRef) → (a || b) ≡ false → cond (a && p) x (cond (not b) None y) ≡ None
none_front true b p x y h = absurd cc
none_front false true p x y h = absurd cc
none_front false false p x y h = refl

front_none : (c : ℕ) (cs : List ℕ) → may_mean c ≡ false → front_meaning (c ∷ cs) ≡ None
front_none c cs h = none_front (c == backslash) (c == ampersand) (is_punct (first_byte cs)) _ _ h

resolved_plain : (text : List ℕ) → resolved text ≡ take (run_len plain text) text ++ resolved (drop (run_len plain text) text)
resolved_plain [] = refl
resolved_plain (c ∷ cs) = go (may_mean c) refl (resolved_plain cs) where
  run : Bool → ℕ
  run b = elim (not b) as (λ x. ℕ) [ true ↦ suc (run_len plain cs) | false ↦ 0 ]

  go : (b : Bool) → may_mean c ≡ b → resolved cs ≡ take (run_len plain cs) cs ++ resolved (drop (run_len plain cs) cs)
      → resolved (c ∷ cs) ≡ take (run b) (c ∷ cs) ++ resolved (drop (run b) (c ∷ cs))
  go true e h = refl
  go false e h = resolved_none (c ∷ cs) (front_none c cs e) ∙ ap (λ (t : List ℕ). c ∷ t) h

boundary_end : (text : List ℕ) (n : ℕ) → IsUtf8 text → EndsAscii text n → IsCharBoundary text n
boundary_end text n u h =
    let e : n - 1 + 1 ≡ n = omega (arith, h.some) in
    subst (IsCharBoundary text) e (IsCharBoundary-after_ascii text (n - 1) u (omega (arith, h.some, h.within)) h.ascii)

pub resolves_some : (before after text : List ℕ) (r : CharRef) → IsUtf8 text → front_meaning text ≡ Some r → EndsAscii text r.1 → after ≡ before ++ encode_utf8 r.0 → Resolves before after text r.1
resolves_some before after text r u h e a = record {
  boundary = boundary_end text r.1 u e;
  progress = λ lt. e.some;
  same = ap (λ (t : List ℕ). t ++ resolved (drop r.1 text)) a ∙ append_assoc before (encode_utf8 r.0) (resolved (drop r.1 text)) ∙ ap (λ (t : List ℕ). before ++ t) (sym (resolved_some text r h e.some));
}

pub boundary_first : (text : List ℕ) (n : ℕ) → IsUtf8 text → StartsAscii text → n ≡ min (length text) 1 → IsCharBoundary text n
boundary_first [] n u h e = let z : 0 ≡ n = omega (arith, e) in subst (IsCharBoundary []) z (boundary_start [] u)
boundary_first (c ∷ cs) n u h e = let z : 0 + 1 ≡ n = omega (arith, e) in subst (IsCharBoundary (c ∷ cs)) z (IsCharBoundary-after_ascii (c ∷ cs) 0 u (omega arith) (h (omega arith)))

take_first : (text : List ℕ) (n : ℕ) → n ≡ min (length text) 1 → take n text ++ resolved (drop n text) ≡ take 1 text ++ resolved (drop 1 text)
take_first [] n e = let z : n ≡ 0 = omega (arith, e) in ap (λ (k : ℕ). take k [] ++ resolved (drop k [])) z
take_first (c ∷ cs) n e = let z : n ≡ 1 = omega (arith, e) in ap (λ (k : ℕ). take k (c ∷ cs) ++ resolved (drop k (c ∷ cs))) z

all_from : (before : List ℕ) (n : ℕ) (text : List ℕ) → before ++ take (n - 0) text ≡ before ++ take n text
all_from before n text = let e : n - 0 ≡ n = omega arith in ap (λ (k : ℕ). before ++ take k text) e

pub resolves_none : (before after text : List ℕ) (n : ℕ) → IsUtf8 text → StartsAscii text → front_meaning text ≡ None → n ≡ min (length text) 1 → after ≡ before ++ take (n - 0) text → Resolves before after text n
resolves_none before after text n u s h e a = record {
  boundary = boundary_first text n u s e;
  progress = λ lt. omega (arith, lt, e);
  same = ap (λ (t : List ℕ). t ++ resolved (drop n text)) (a ∙ all_from before n text) ∙ append_assoc before (take n text) (resolved (drop n text)) ∙ ap (λ (t : List ℕ). before ++ t) (take_first text n e ∙ sym (resolved_none text h));
}

pub resolve_step : (out made after text rest : List ℕ) (n k : ℕ) (whole : List ℕ) → n ≡ run_len plain text → made ≡ out ++ take (n - 0) text → rest ≡ drop n text → Resolves made after rest k
    → out ++ resolved text ≡ whole → after ++ resolved (drop k rest) ≡ whole
resolve_step out made after text rest n k whole e m r h w =
    h.same ∙ ap (λ (t : List ℕ). made ++ resolved t) r ∙ ap (λ (t : List ℕ). t ++ resolved (drop n text)) (m ∙ all_from out n text) ∙ append_assoc out (take n text) (resolved (drop n text))
    ∙ ap (λ (j : ℕ). out ++ (take j text ++ resolved (drop j text))) e ∙ ap (λ (t : List ℕ). out ++ t) (sym (resolved_plain text)) ∙ w

pub resolve_end : (out text whole : List ℕ) → (length text == 0) ≡ true → out ++ resolved text ≡ whole → out ≡ whole
resolve_end out [] whole e w = sym (append-nil out) ∙ ap (λ (t : List ℕ). out ++ t) (sym (resolved_is [])) ∙ w
resolve_end out (c ∷ cs) whole e w = absurd (grind (arith, e))
