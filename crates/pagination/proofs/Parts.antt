-- The parts of a pattern, as code cuts it: at its first colon, and then at the others.
use Rattle.std.proofs.Common.{◌≡◌, ℕ, ◌<◌, ◌++◌, List, length, flat_map, false, ◌∙◌, ap, arith}
use Rattle.std.specs.List.{slice_split, position_or_len, before_first, after_first}
use Rattle.std.proofs.lemmas.List.Elements.{All-from_get_or}
use Rattle.std.proofs.lemmas.List.Sums.{fails_before_first}
use Rattle.std.proofs.lemmas.List.Splits.{slice_split_none, slice_split_first}
use Rattle.std.proofs.lemmas.List.{append-nil}
use Rattle.pagination.specs.Pages.{is_colon, joined, filled, numbered}

-- a pattern without a colon stays as it is
pub without_colon : (digits bs : List ℕ) → position_or_len is_colon bs ≡ length bs → filled digits bs ≡ bs
without_colon digits bs e =
    let none = slice_split_none is_colon bs (All-from_get_or (λ b. is_colon b ≡ false) bs 0 (λ k lt. let before : k < position_or_len is_colon bs = omega arith in fails_before_first is_colon bs k 0 before)) in
    ap (joined digits) none ∙ append-nil bs

-- what stands before the first colon stays, and what follows are the parts behind colons
pub at_colon : (digits bs : List ℕ) → position_or_len is_colon bs < length bs → filled digits bs ≡ before_first is_colon bs ++ flat_map (numbered digits) (slice_split is_colon (after_first is_colon bs))
at_colon digits bs lt = ap (joined digits) (slice_split_first is_colon bs 0 lt)
