-- A template's parts, as code writes them one after another.
use Rattle.std.proofs.Common.{◌≡◌, ℕ, suc, ◌+◌, ◌<◌, Bool, true, false, List, [], ◌∷◌, ◌++◌, length, drop, get_or, append_assoc, refl, ap, sym, ◌∙◌, inl, inr, arith, add-one, drop-cons}
use Rattle.std.specs.Prelude.{Option, Some, None, Result, Ok, Err, MatchResult}
use Rattle.std.specs.List.{slice_split, position_or_len, before_first, after_first}
use Rattle.std.proofs.lemmas.List.{append-nil}
use Rattle.std.proofs.lemmas.List.Elements.{All-from_get_or}
use Rattle.std.proofs.lemmas.List.Sums.{fails_before_first}
use Rattle.std.proofs.lemmas.List.Splits.{slice_split_none, slice_split_first}
use Rattle.permalinks.specs.Placeholders.{Values}
use Rattle.permalinks.specs.declared.template.UrlError.{UrlError}
use Rattle.permalinks.specs.Url.{both, part_text, parts_text, template_text, filled, is_colon, IsRefusal, behind_slashes}

both_assoc : (a b c : Option (List ℕ)) → both a (both b c) ≡ both (both a b) c
both_assoc None b c = refl
both_assoc (Some a) None c = refl
both_assoc (Some a) (Some b) None = refl
both_assoc (Some a) (Some b) (Some c) = ap Some (sym (append_assoc a b c))

-- a part is added
pub part_step : (u : Values) (old new part : List ℕ) (parts : List (List ℕ)) → both (Some old) (part_text u part) ≡ Some new → both (Some old) (parts_text u (part ∷ parts)) ≡ both (Some new) (parts_text u parts)
part_step u old new part parts e = both_assoc (Some old) (part_text u part) (parts_text u parts) ∙ ap (λ made. both made (parts_text u parts)) e

-- or refused
pub part_refused : (u : Values) (part : List ℕ) (parts : List (List ℕ)) (e : UrlError) → IsRefusal (part_text u part) e → IsRefusal (parts_text u (part ∷ parts)) e
part_refused u part parts e (inl memory) = inl memory
part_refused u part parts e (inr bad) = inr (bad.0, ap (λ made. both made (parts_text u parts)) bad.1)

-- where what is left is refused, so is the whole
pub refused_all : (made start : List ℕ) (left whole : Option (List ℕ)) (e : UrlError) → both (Some made) left ≡ both (Some start) whole → IsRefusal left e → IsRefusal whole e
refused_all made start left whole e same (inl memory) = inl memory
refused_all made start left None e same (inr bad) = inr (bad.0, refl)
refused_all made start None (Some whole) e same (inr bad) = absurd (cc)
refused_all made start (Some left) (Some whole) e same (inr bad) = absurd (cc)

pub next_part : (all : List (List ℕ)) (n : ℕ) (part : List ℕ) → n < length all → part ≡ get_or all n part → drop n all ≡ part ∷ drop (n + 1) all
next_part all n part lt e = rw (add-one, drop-cons all n part) (ap (λ p. p ∷ drop (suc n) all) (sym e))

-- a template without `:` is its text
pub without_colon : (u : Values) (bs : List ℕ) → position_or_len is_colon bs ≡ length bs → filled u bs ≡ Some bs
without_colon u bs e =
    let none = slice_split_none is_colon bs (All-from_get_or (λ b. is_colon b ≡ false) bs 0 (λ k lt. let before : k < position_or_len is_colon bs = omega arith in fails_before_first is_colon bs k 0 before)) in
    ap (template_text u) none ∙ ap Some (append-nil bs)

-- what stands before the first `:` is text
pub at_colon : (u : Values) (bs : List ℕ) → position_or_len is_colon bs < length bs → filled u bs ≡ both (Some (before_first is_colon bs)) (parts_text u (slice_split is_colon (after_first is_colon bs)))
at_colon u bs lt = ap (template_text u) (slice_split_first is_colon bs 0 lt)

-- what stands before the first `:`, and then the parts behind it
pub start_and_parts : (r : Result (Unit {0}) UrlError) (old start made new : List ℕ) (parts : Option (List ℕ)) → made ≡ old ++ start → MatchResult r (λ _. both (Some made) parts ≡ Some new) (IsRefusal parts) → MatchResult r (λ _. both (Some old) (both (Some start) parts) ≡ Some new) (IsRefusal (both (Some start) parts))
start_and_parts (Ok x) old start made new parts e h = both_assoc (Some old) (Some start) parts ∙ ap (λ text. both (Some text) parts) (sym e) ∙ h
start_and_parts (Err error) old start made new parts e (inl memory) = inl memory
start_and_parts (Err error) old start made new parts e (inr bad) = inr (bad.0, ap (both (Some start)) bad.1)

-- a segment that is empty, and one that is not
pub empty_segment : (ends : Bool) (segment : List ℕ) (segments : List (List ℕ)) → length segment ≡ 0 → behind_slashes ends (segment ∷ segments) ≡ behind_slashes true segments
empty_segment true [] segments e = refl
empty_segment false [] segments e = refl
empty_segment ends (b ∷ segment) segments e = absurd (omega arith)

pub one_segment : (ends : Bool) (segment : List ℕ) (segments : List (List ℕ)) → 0 < length segment → behind_slashes ends (segment ∷ segments) ≡ (47 ∷ segment) ++ behind_slashes false segments
one_segment ends [] segments lt = absurd (omega arith)
one_segment true (b ∷ segment) segments lt = refl
one_segment false (b ∷ segment) segments lt = refl

pub segment_step : (ends : Bool) (old new segment : List ℕ) (segments : List (List ℕ)) → 0 < length segment → new ≡ old ++ (47 ∷ segment) → old ++ behind_slashes ends (segment ∷ segments) ≡ new ++ behind_slashes false segments
segment_step ends old new segment segments lt e = rw (e, one_segment ends segment segments lt) (sym (append_assoc old (47 ∷ segment) (behind_slashes false segments)))
