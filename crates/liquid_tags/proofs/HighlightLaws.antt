-- The text that `highlight` writes: cuts at line ends, and the name of a class.
use Rattle.std.proofs.Common.{◌≡◌, ◌≢◌, ℕ, zero, suc, ◌+◌, ◌-◌, ◌<◌, ◌≤◌, true, false, List, [], ◌∷◌, ◌++◌, length, map, get_or, reverse, ap, arith, subst, sym, ◌∙◌, refl, encode_utf8, append-nil, append_assoc, eq-eqb, Bool, cond}
use Rattle.std.specs.Prelude.{◌==◌}
use Rattle.std.specs.List.{prefix_len, suffix_len}
use Rattle.std.specs.Str.{IsCharBoundary, IsUtf8}
use Rattle.std.proofs.lemmas.Bool.{ne_eqb, eqb-true}
use Rattle.std.proofs.lemmas.Bool.Decides.{nat_tests}
use Rattle.std.proofs.lemmas.List.{length-reverse, get_or-reverse, map-append}
use Rattle.std.proofs.lemmas.List.Sums.{prefix_len_passes, prefix_len-le-length}
use Rattle.std.proofs.lemmas.Str.{IsCharBoundary-start, IsCharBoundary-end, IsCharBoundary-before_ascii, IsCharBoundary-after_ascii, encode_ascii, inside_one}
use Rattle.liquid_tags.specs.Highlights.{is_line_end, class_byte}

line_end_ascii : (c : ℕ) → is_line_end c ≡ true → c < 128
line_end_ascii c e = grind (arith, nat_tests)

pub front_cut : (xs : List ℕ) (n : ℕ) → IsUtf8 xs → n ≡ prefix_len is_line_end xs → IsCharBoundary xs n
front_cut xs zero u e = IsCharBoundary-start xs u
front_cut xs (suc n) u e =
    let ends : is_line_end (get_or xs n 0) ≡ true = prefix_len_passes is_line_end xs n 0 (omega (arith, e)) in
    let one : n + 1 ≡ suc n = omega arith in
    subst (IsCharBoundary xs) one (IsCharBoundary-after_ascii xs n u (omega (arith, e, prefix_len-le-length is_line_end xs)) (line_end_ascii _ ends))

pub end_cut : (xs : List ℕ) (n : ℕ) → n ≡ suffix_len is_line_end xs → IsCharBoundary xs (length xs - n)
end_cut xs zero e = subst (IsCharBoundary xs) (let k : length xs ≡ length xs - 0 = omega arith in k) (IsCharBoundary-end xs)
end_cut xs (suc n) e =
    let le : suc n ≤ length xs = omega (arith, e, prefix_len-le-length is_line_end (reverse xs), length-reverse xs) in
    let ends : is_line_end (get_or (reverse xs) n 0) ≡ true = prefix_len_passes is_line_end (reverse xs) n 0 (omega (arith, e)) in
    let back : get_or (reverse xs) n 0 ≡ get_or xs (length xs - suc n) 0 = get_or-reverse xs n 0 (omega arith) ∙ ap (λ i. get_or xs i 0) (let k : length xs - 1 - n ≡ length xs - suc n = omega arith in k) in
    IsCharBoundary-before_ascii xs (length xs - suc n) (omega arith) (subst (λ c. c < 128) back (line_end_ascii _ ends))

-- ---- `-` for each `+`

class_step : (c : ℕ) (b : Bool) → (c == 43) ≡ b → class_byte c ≡ cond b 45 c
class_step c b e = ap (λ x. cond x 45 c) e

stays : (xs : List ℕ) → ((k : ℕ) → k < length xs → get_or xs k 0 ≢ 43) → map class_byte xs ≡ xs
stays [] none = refl
stays (x ∷ xs) none =
    ap (λ (y : ℕ). y ∷ map class_byte xs) (class_step x false (ne_eqb x 43 (none 0 (omega arith))))
    ∙ ap (λ (ys : List ℕ). x ∷ ys) (stays xs (λ k lt. none (suc k) (omega arith)))

pub class_encoded : (c : ℕ) → encode_utf8 (class_byte c) ≡ map class_byte (encode_utf8 c)
class_encoded c = go (c == 43) refl
  where
    go : (b : Bool) → (c == 43) ≡ b → encode_utf8 (class_byte c) ≡ map class_byte (encode_utf8 c)
    go true e =
        let is : c ≡ 43 = eqb-true c 43 e in
        let plus : encode_utf8 43 ≡ 43 ∷ [] = encode_ascii 43 (omega arith) in
        let dash : encode_utf8 45 ≡ 45 ∷ [] = encode_ascii 45 (omega arith) in
        subst (λ x. encode_utf8 (class_byte x) ≡ map class_byte (encode_utf8 x)) (sym is) (dash ∙ ap (map class_byte) (sym plus))
    go false e =
        ap encode_utf8 (class_step c false e)
        ∙ sym (stays (encode_utf8 c) (λ k lt here.
        let small : get_or (encode_utf8 c) k 0 < 128 = omega (arith, here) in
        let is : c ≡ 43 = inside_one c [] (encode_utf8 c) k (sym (append-nil (encode_utf8 c))) lt small ∙ here in
        let yes : (c == 43) ≡ true = eq-eqb c 43 is in absurd cc))

pub class_more : (made pushed rest whole behind : List ℕ) (c : ℕ) → pushed ≡ made ++ encode_utf8 (class_byte c) → rest ≡ encode_utf8 c ++ behind
    → made ++ map class_byte rest ≡ whole → pushed ++ map class_byte behind ≡ whole
class_more made pushed rest whole behind c p e h =
    ap (λ (t : List ℕ). t ++ map class_byte behind) (p ∙ ap (λ (t : List ℕ). made ++ t) (class_encoded c))
    ∙ append_assoc made (map class_byte (encode_utf8 c)) (map class_byte behind)
    ∙ ap (λ (t : List ℕ). made ++ t) (sym (map-append class_byte (encode_utf8 c) behind) ∙ ap (map class_byte) (sym e)) ∙ h

pub class_end : (made rest whole : List ℕ) → length rest ≡ 0 → made ++ map class_byte rest ≡ whole → made ≡ whole
class_end made [] whole e h = sym (append-nil made) ∙ h
class_end made (c ∷ cs) whole e h = absurd (omega arith)

pub pieced : (s0 s1 s2 s3 s4 s5 s6 s7 a class b name d code e : List ℕ) → s0 ≡ [] → s1 ≡ s0 ++ a → s2 ≡ s1 ++ class → s3 ≡ s2 ++ b → s4 ≡ s3 ++ name → s5 ≡ s4 ++ d → s6 ≡ s5 ++ code → s7 ≡ s6 ++ e
    → s7 ≡ a ++ (class ++ (b ++ (name ++ (d ++ (code ++ e)))))
pieced s0 s1 s2 s3 s4 s5 s6 s7 a class b name d code e e0 e1 e2 e3 e4 e5 e6 e7 = rw (e7, e6, e5, e4, e3, e2, e1, e0) (simp append_assoc)
