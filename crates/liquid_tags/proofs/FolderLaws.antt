-- Up to the last slash.
use Rattle.std.proofs.Common.{◌≡◌, ◌≢◌, ◌∙◌, ℕ, ◌+◌, ◌-◌, ◌<◌, ◌≤◌, Bool, true, false, cond, List, [], length, take, get_or, refl, sym, ap, arith, eq-eqb}
use Rattle.std.specs.Prelude.{◌==◌}
use Rattle.std.specs.List.{suffix_len}
use Rattle.std.proofs.lemmas.Bool.{ne_eqb}
use Rattle.std.proofs.lemmas.List.Sums.{suffix_len_is}
use Rattle.liquid_tags.specs.Includes.{is_not_slash, folder_of}

test_is : (c : ℕ) (b : Bool) → (c == 47) ≡ b → is_not_slash c ≡ cond b false true
test_is c b e = ap (λ x. cond x false true) e

other : (c : ℕ) → c ≢ 47 → is_not_slash c ≡ true
other c none = test_is c false (ne_eqb c 47 none)

slash : (c : ℕ) → c ≡ 47 → is_not_slash c ≡ false
slash c e = test_is c true (eq-eqb c 47 e)

upto : (path : List ℕ) (n : ℕ) → n ≤ length path → suffix_len is_not_slash path ≡ length path - n → take n path ≡ folder_of path
upto path n le e = ap (λ k. take k path) {x = n} {y = length path - suffix_len is_not_slash path} (omega (arith, le, e))

pub folder_some : (path : List ℕ) (k : ℕ) → (k < length path) × (get_or path k 0 ≡ 47) × ((i : ℕ) → k < i → i < length path → get_or path i 0 ≢ 47) → take (k + 1 - 0) path ≡ folder_of path
folder_some path k (lt, is, later) =
    let before : k + 1 - 1 ≡ k = omega arith in
    let whole : k + 1 - 0 ≡ k + 1 = omega arith in
    ap (λ n. take n path) whole ∙ upto path (k + 1) (omega arith)
    (suffix_len_is is_not_slash path (k + 1) 0 (omega arith) (λ i low high. other (get_or path i 0) (later i (omega arith) high)) (λ some. slash (get_or path (k + 1 - 1) 0) (ap (λ i. get_or path i 0) before ∙ is)))

pub folder_none : (path : List ℕ) → ((i : ℕ) → i < length path → get_or path i 0 ≢ 47) → [] ≡ folder_of path
folder_none path none =
    upto path 0 (omega arith) (suffix_len_is is_not_slash path 0 0 (omega arith) (λ i low high. other (get_or path i 0) (none i high)) (λ few. absurd (omega arith)))
