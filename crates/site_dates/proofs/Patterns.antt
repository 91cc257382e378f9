-- A pattern's parts, as code writes them one after another.
use Rattle.std.proofs.Common.{◌≡◌, ℕ, ◌+◌, ◌<◌, suc, true, false, List, [], ◌∷◌, ◌++◌, length, drop, get_or, append_assoc, refl, ap, sym, ◌∙◌, inl, inr, arith, add-one, drop-cons}
use Rattle.std.specs.Prelude.{Option, Some, None, Result, Ok, Err, MatchResult}
use Rattle.std.specs.List.{slice_split, position_or_len, before_first, after_first}
use Rattle.std.proofs.lemmas.List.{append-nil}
use Rattle.std.proofs.lemmas.List.Elements.{All-from_get_or}
use Rattle.std.proofs.lemmas.List.Sums.{fails_before_first}
use Rattle.std.proofs.lemmas.List.Splits.{slice_split_none, slice_split_first}
use Rattle.site_dates.specs.Shown.{Shown}
use Rattle.site_dates.specs.declared.format.FormatError.{FormatError}
use Rattle.site_dates.specs.Format.{both, part_text, parts_text, pattern_text, is_percent, IsRefusal}

both_assoc : (a b c : Option (List ℕ)) → both a (both b c) ≡ both (both a b) c
both_assoc None b c = refl
both_assoc (Some a) None c = refl
both_assoc (Some a) (Some b) None = refl
both_assoc (Some a) (Some b) (Some c) = ap Some (sym (append_assoc a b c))

no_text : (c : Option (List ℕ)) → both None c ≡ None
no_text c = refl

-- a part with a directive
with_directive : (t : Shown) (part : List ℕ) (parts : List (List ℕ)) → 0 < length part → parts_text t false (part ∷ parts) ≡ both (part_text t part) (parts_text t false parts)
with_directive t [] parts lt = absurd (omega arith)
with_directive t (b ∷ part) parts lt = refl

pub directive_step : (t : Shown) (old new part : List ℕ) (parts : List (List ℕ)) → 0 < length part → both (Some old) (part_text t part) ≡ Some new → both (Some old) (parts_text t false (part ∷ parts)) ≡ both (Some new) (parts_text t false parts)
directive_step t old new part parts lt e =
    ap (both (Some old)) (with_directive t part parts lt) ∙ both_assoc (Some old) (part_text t part) (parts_text t false parts) ∙ ap (λ made. both made (parts_text t false parts)) e

pub directive_refused : (t : Shown) (part : List ℕ) (parts : List (List ℕ)) (e : FormatError) → 0 < length part → IsRefusal (part_text t part) e → IsRefusal (parts_text t false (part ∷ parts)) e
directive_refused t part parts e lt (inl memory) = inl memory
directive_refused t part parts e lt (inr bad) = inr (bad.0, with_directive t part parts lt ∙ ap (λ made. both made (parts_text t false parts)) bad.1)

-- the part behind two `%`
pub escaped_step : (t : Shown) (old new part : List ℕ) (parts : List (List ℕ)) → new ≡ old ++ (37 ∷ part) → both (Some old) (parts_text t true (part ∷ parts)) ≡ both (Some new) (parts_text t false parts)
escaped_step t old new part parts e = both_assoc (Some old) (Some (37 ∷ part)) (parts_text t false parts) ∙ ap (λ made. both (Some made) (parts_text t false parts)) (sym e)

-- the first of two `%`
pub empty_step : (t : Shown) (part : List ℕ) (parts : List (List ℕ)) → length part ≡ 0 → parts_text t false (part ∷ parts) ≡ parts_text t true parts
empty_step t [] parts e = refl
empty_step t (b ∷ part) parts e = absurd (omega arith)

-- where what is left is refused, so is the whole
pub refused_all : (made start : List ℕ) (left whole : Option (List ℕ)) (e : FormatError) → both (Some made) left ≡ both (Some start) whole → IsRefusal left e → IsRefusal whole e
refused_all made start left whole e same (inl memory) = inl memory
refused_all made start left None e same (inr bad) = inr (bad.0, refl)
refused_all made start None (Some whole) e same (inr bad) = absurd (cc)
refused_all made start (Some left) (Some whole) e same (inr bad) = absurd (cc)

pub next_part : (all : List (List ℕ)) (n : ℕ) (part : List ℕ) → n < length all → part ≡ get_or all n part → drop n all ≡ part ∷ drop (n + 1) all
next_part all n part lt e = rw (add-one, drop-cons all n part) (ap (λ p. p ∷ drop (suc n) all) (sym e))

-- a pattern without `%` is its text
pub without_percent : (t : Shown) (bs : List ℕ) → position_or_len is_percent bs ≡ length bs → pattern_text t (slice_split is_percent bs) ≡ Some bs
without_percent t bs e =
    let none = slice_split_none is_percent bs (All-from_get_or (λ b. is_percent b ≡ false) bs 0 (λ k lt. let before : k < position_or_len is_percent bs = omega arith in fails_before_first is_percent bs k 0 before)) in
    ap (pattern_text t) none ∙ ap Some (append-nil bs)

-- what stands before the first `%` is text
pub at_percent : (t : Shown) (bs : List ℕ) → position_or_len is_percent bs < length bs → pattern_text t (slice_split is_percent bs) ≡ both (Some (before_first is_percent bs)) (parts_text t false (slice_split is_percent (after_first is_percent bs)))
at_percent t bs lt = ap (pattern_text t) (slice_split_first is_percent bs 0 lt)

-- what stands before the first `%`, and then the parts behind it
pub start_and_parts : (r : Result (Unit {0}) FormatError) (old start made new : List ℕ) (parts : Option (List ℕ)) → made ≡ old ++ start → MatchResult r (λ _. both (Some made) parts ≡ Some new) (IsRefusal parts) → MatchResult r (λ _. both (Some old) (both (Some start) parts) ≡ Some new) (IsRefusal (both (Some start) parts))
start_and_parts (Ok x) old start made new parts e h = both_assoc (Some old) (Some start) parts ∙ ap (λ text. both (Some text) parts) (sym e) ∙ h
start_and_parts (Err error) old start made new parts e (inl memory) = inl memory
start_and_parts (Err error) old start made new parts e (inr bad) = inr (bad.0, ap (both (Some start)) bad.1)
