-- A slug, character by character.
use Rattle.std.proofs.Common.{◌≡◌, ℕ, suc, ◌+◌, ◌<◌, Bool, true, false, List, [], ◌∷◌, ◌++◌, length, drop, get_or, cond, append_assoc, add-one, drop-cons, refl, ap, sym, ◌∙◌}
use Rattle.std.specs.Prelude.{encode_utf8}
use Rattle.std.specs.Char.{to_ascii_lowercase}
use Rattle.std.proofs.lemmas.List.Concat.{flat_map-append}
use Rattle.std.specs.List.{slice_split, onto_first}
use Rattle.permalinks.specs.Slug.{is_kept, is_gap, nonempty, dashed, hyphenated, slug_chars, with_dash, lower_bytes}

-- what is still to be added, where something was added before or not, and a gap came behind it or not
abbrev pub left : Bool → Bool → List ℕ → List ℕ
left begun gap [] = []
left begun gap (c ∷ cs) = cond (is_kept c) (with_dash gap (c ∷ left true false cs)) (left begun begun cs)

-- the rest of a word, and what comes behind it
abbrev pub inside : List (List ℕ) → List ℕ
inside [] = []
inside (word ∷ words) = word ++ dashed (nonempty words)

pub record Tie (cs : List ℕ) : Type 0 where
  pub within : left true false cs ≡ inside (slice_split is_gap cs)
  pub behind : left true true cs ≡ dashed (nonempty (slice_split is_gap cs))
  pub before : left false false cs ≡ slug_chars cs

-- one more character of a word
kept : (c : ℕ) (rest : List ℕ) (parts : List (List ℕ)) → rest ≡ inside parts →
    (c ∷ rest ≡ inside (onto_first c parts)) × (45 ∷ c ∷ rest ≡ dashed (nonempty (onto_first c parts))) × (c ∷ rest ≡ hyphenated (nonempty (onto_first c parts)))
kept c rest [] h = (ap (λ r. c ∷ r) h, ap (λ r. 45 ∷ c ∷ r) h, ap (λ r. c ∷ r) h)
kept c rest (part ∷ parts) h = (ap (λ r. c ∷ r) h, ap (λ r. 45 ∷ c ∷ r) h, ap (λ r. c ∷ r) h)

step : (c : ℕ) (cs : List ℕ) (v : Bool) → is_kept c ≡ v → Tie cs → Tie (c ∷ cs)
step c cs true e t =
    let k = kept c (left true false cs) (slice_split is_gap cs) t.within in
    record { within = rw e k.0; behind = rw e k.1; before = rw e k.2 }
step c cs false e t = record { within = rw e t.behind; behind = rw e t.behind; before = rw e t.before }

pub tie : (cs : List ℕ) → Tie cs
tie [] = record { within = refl; behind = refl; before = refl }
tie (c ∷ cs) = step c cs (is_kept c) refl (tie cs)

dash_first : (gap : Bool) (c : ℕ) (cs : List ℕ) → with_dash gap (c ∷ cs) ≡ with_dash gap (c ∷ []) ++ cs
dash_first true c cs = refl
dash_first false c cs = refl

-- a character that is kept, and one of a gap
pub kept_step : (begun gap : Bool) (old new : List ℕ) (c : ℕ) (cs : List ℕ) → is_kept c ≡ true → new ≡ old ++ lower_bytes (with_dash gap (c ∷ [])) → old ++ lower_bytes (left begun gap (c ∷ cs)) ≡ new ++ lower_bytes (left true false cs)
kept_step begun gap old new c cs e made =
    let rest = left true false cs in
    let now : left begun gap (c ∷ cs) ≡ with_dash gap (c ∷ rest) = rw e refl in
    let bytes : lower_bytes (left begun gap (c ∷ cs)) ≡ lower_bytes (with_dash gap (c ∷ [])) ++ lower_bytes rest =
    ap lower_bytes (now ∙ dash_first gap c rest) ∙ flat_map-append (λ x. encode_utf8 (to_ascii_lowercase x)) (with_dash gap (c ∷ [])) rest in
    ap (λ x. old ++ x) bytes ∙ sym (append_assoc old (lower_bytes (with_dash gap (c ∷ []))) (lower_bytes rest)) ∙ ap (λ x. x ++ lower_bytes rest) (sym made)

pub gap_step : (begun gap : Bool) (c : ℕ) (cs : List ℕ) → is_kept c ≡ false → left begun gap (c ∷ cs) ≡ left begun begun cs
gap_step begun gap c cs e = rw e refl

pub next_char : (cs : List ℕ) (n c : ℕ) → n < length cs → c ≡ get_or cs n c → drop n cs ≡ c ∷ drop (n + 1) cs
next_char cs n c lt e = rw (add-one, drop-cons cs n c) (ap (λ x. x ∷ drop (suc n) cs) (sym e))
