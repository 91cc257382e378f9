-- Cuts at white space.
use Rattle.std.proofs.Common.{◌≡◌, ℕ, zero, suc, ◌+◌, ◌-◌, ◌<◌, ◌≤◌, true, List, length, get_or, reverse, ap, arith, subst, ◌∙◌}
use Rattle.std.specs.List.{prefix_len, suffix_len}
use Rattle.std.specs.Str.{IsCharBoundary, IsUtf8}
use Rattle.std.proofs.lemmas.Bool.Decides.{nat_tests}
use Rattle.std.proofs.lemmas.List.{length-reverse, get_or-reverse}
use Rattle.std.proofs.lemmas.List.Sums.{prefix_len_passes, prefix_len-le-length}
use Rattle.std.proofs.lemmas.Str.{IsCharBoundary-start, IsCharBoundary-end, IsCharBoundary-before_ascii, IsCharBoundary-after_ascii}
use Rattle.markdown_grammar.specs.Tables.{is_cell_white}

white_ascii : (c : ℕ) → is_cell_white c ≡ true → c < 128
white_ascii c e = grind (arith, nat_tests)

pub white_cut : (xs : List ℕ) (n : ℕ) → IsUtf8 xs → n ≡ prefix_len is_cell_white xs → IsCharBoundary xs n
white_cut xs zero u e = IsCharBoundary-start xs u
white_cut xs (suc n) u e =
    let white : is_cell_white (get_or xs n 0) ≡ true = prefix_len_passes is_cell_white xs n 0 (omega (arith, e)) in
    let one : n + 1 ≡ suc n = omega arith in
    subst (IsCharBoundary xs) one (IsCharBoundary-after_ascii xs n u (omega (arith, e, prefix_len-le-length is_cell_white xs)) (white_ascii _ white))

pub white_end_cut : (xs : List ℕ) (n : ℕ) → n ≡ suffix_len is_cell_white xs → IsCharBoundary xs (length xs - n)
white_end_cut xs zero e = subst (IsCharBoundary xs) (let k : length xs ≡ length xs - 0 = omega arith in k) (IsCharBoundary-end xs)
white_end_cut xs (suc n) e =
    let le : suc n ≤ length xs = omega (arith, e, prefix_len-le-length is_cell_white (reverse xs), length-reverse xs) in
    let white : is_cell_white (get_or (reverse xs) n 0) ≡ true = prefix_len_passes is_cell_white (reverse xs) n 0 (omega (arith, e)) in
    let back : get_or (reverse xs) n 0 ≡ get_or xs (length xs - suc n) 0 = get_or-reverse xs n 0 (omega arith) ∙ ap (λ i. get_or xs i 0) (let k : length xs - 1 - n ≡ length xs - suc n = omega arith in k) in
    IsCharBoundary-before_ascii xs (length xs - suc n) (omega arith) (subst (λ c. c < 128) back (white_ascii _ white))
