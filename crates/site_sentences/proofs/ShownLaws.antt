-- What is shown of a text, a character more.
use Rattle.std.proofs.Common.{◌≡◌, ℕ, List, [], ◌∷◌, ◌++◌, length, IsUtf8, refl, sym, ap, ◌∙◌, append_assoc, append-nil, encode_utf8, encode_utf8_all}
use Rattle.std.specs.Prelude.{map}
use Rattle.std.proofs.lemmas.Str.{chars-encodes, chars_past_char}
use Rattle.site_sentences.specs.Shown.{shown, shown_char}

pub shown-more : (c put : ℕ) (old new rest behind whole : List ℕ) → IsUtf8 rest → new ≡ old ++ encode_utf8 put → put ≡ shown_char c → rest ≡ encode_utf8 c ++ behind → old ++ shown rest ≡ whole → new ++ shown behind ≡ whole
shown-more c put old new rest behind whole readable n p r w =
    let read : shown rest ≡ encode_utf8 (shown_char c) ++ shown behind = ap (λ (cs : List ℕ). encode_utf8_all (map shown_char cs)) (chars_past_char rest behind c readable r) in
    ap (λ (t : List ℕ). t ++ shown behind) (n ∙ ap (λ (d : ℕ). old ++ encode_utf8 d) p)
    ∙ append_assoc old (encode_utf8 (shown_char c)) (shown behind)
    ∙ ap (λ (t : List ℕ). old ++ t) (sym read)
    ∙ w

empty : (rest : List ℕ) → length rest ≡ 0 → rest ≡ []
empty [] none = refl
empty (c ∷ rest) none = absurd (cc (none))

pub shown-end : (made rest whole : List ℕ) → length rest ≡ 0 → made ++ shown rest ≡ whole → made ≡ whole
shown-end made rest whole none so_far =
    let nothing : shown [] ≡ [] = ap (λ (cs : List ℕ). encode_utf8_all (map shown_char cs)) (chars-encodes [] refl) in
    sym (append-nil made) ∙ ap (λ (t : List ℕ). made ++ t) (sym (ap shown (empty rest none) ∙ nothing)) ∙ so_far
