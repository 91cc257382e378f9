-- Squeezing white space, one character after another.
use Rattle.std.proofs.Common.{length, arith, ◌≡◌, ◌∙◌, ap, sym, ℕ, Bool, true, false, cond, ◌&&◌, List, [], ◌∷◌, ◌++◌, append_assoc, append-nil, IsUtf8, chars, encode_utf8, encode_utf8_all}
use Rattle.std.proofs.lemmas.Str.{chars-nil, chars_from_encodes, chars_past_char, encodes-append}
use Rattle.site_text.specs.Bytes.{is_white}
use Rattle.markdown_grammar.specs.Labels.{squeezed}

abbrev lead : Bool → ℕ → List ℕ
lead b c = cond b (32 ∷ c ∷ []) (c ∷ [])

squeezed_white : (b g : Bool) (c : ℕ) (cs : List ℕ) → is_white c ≡ true → squeezed b g (c ∷ cs) ≡ squeezed b true cs
squeezed_white b g c cs h = ap (λ (w : Bool). elim w as (λ x. List ℕ) [ true ↦ squeezed b true cs | false ↦ lead (b && g) c ++ squeezed true false cs ]) h

squeezed_other : (b g : Bool) (c : ℕ) (cs : List ℕ) → is_white c ≡ false → squeezed b g (c ∷ cs) ≡ lead (b && g) c ++ squeezed true false cs
squeezed_other b g c cs h = ap (λ (w : Bool). elim w as (λ x. List ℕ) [ true ↦ squeezed b true cs | false ↦ lead (b && g) c ++ squeezed true false cs ]) h

pub white_step : (out text rest whole : List ℕ) (b g : Bool) (c : ℕ) → IsUtf8 text → text ≡ encode_utf8 c ++ rest → is_white c ≡ true
    → out ++ encode_utf8_all (squeezed b g (chars text)) ≡ whole → out ++ encode_utf8_all (squeezed b true (chars rest)) ≡ whole
white_step out text rest whole b g c u e h k =
    ap (λ (cs : List ℕ). out ++ encode_utf8_all cs) (sym (ap (squeezed b g) (chars_past_char text rest c u e) ∙ squeezed_white b g c (chars rest) h)) ∙ k

pub other_step : (out out' text rest whole : List ℕ) (b g : Bool) (c : ℕ) → IsUtf8 text → text ≡ encode_utf8 c ++ rest → is_white c ≡ false
    → out' ≡ out ++ encode_utf8_all (lead (b && g) c)
    → out ++ encode_utf8_all (squeezed b g (chars text)) ≡ whole → out' ++ encode_utf8_all (squeezed true false (chars rest)) ≡ whole
other_step out out' text rest whole b g c u e h p k =
    ap (λ (o : List ℕ). o ++ encode_utf8_all (squeezed true false (chars rest))) p
    ∙ append_assoc out (encode_utf8_all (lead (b && g) c)) (encode_utf8_all (squeezed true false (chars rest)))
    ∙ ap (λ (cs : List ℕ). out ++ cs) (sym (encodes-append (lead (b && g) c) (squeezed true false (chars rest))))
    ∙ ap (λ (cs : List ℕ). out ++ encode_utf8_all cs) (sym (ap (squeezed b g) (chars_past_char text rest c u e) ∙ squeezed_other b g c (chars rest) h)) ∙ k

no_chars : (text : List ℕ) → length text ≡ 0 → chars text ≡ []
no_chars [] e = chars-nil
no_chars (c ∷ cs) e = absurd (omega (arith, e))

pub all_squeezed : (out rest cs : List ℕ) (b g : Bool) → IsUtf8 out → length rest ≡ 0 → out ++ encode_utf8_all (squeezed b g (chars rest)) ≡ encode_utf8_all cs → chars out ≡ cs
all_squeezed out rest cs b g u e k =
    sym (chars_from_encodes cs out u (sym k ∙ ap (λ (l : List ℕ). out ++ encode_utf8_all (squeezed b g l)) (no_chars rest e) ∙ append-nil out))
