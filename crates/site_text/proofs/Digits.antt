-- A number of at most ten digits is small.
use Rattle.std.proofs.Common.{◌≡◌, ◌∙◌, ap, List, length, drop, get_or, sym, subst, add-one, ℕ, zero, suc, ◌+◌, ◌*◌, ◌<◌, ◌≤◌, arith}
use Rattle.std.proofs.lemmas.List.{drop_more}
use Rattle.std.specs.Char.{digit_value}
use Rattle.std.specs.Str.Parse.{digits_value_after}
use Rattle.std.proofs.Math.Nat.{mul-le-mul_left}

-- above what i digits spell
abbrev pub cap : ℕ → ℕ
cap zero = 1
cap (suc i) = 64 * cap i

pub cap_some : (i : ℕ) → 0 < cap i
cap_some zero = omega arith
cap_some (suc i) = omega (arith, cap_some i)

pub cap_small : (i : ℕ) → i < 10 → cap i ≤ 18014398509481984
cap_small zero h = omega arith
cap_small (suc zero) h = omega arith
cap_small (suc (suc zero)) h = omega arith
cap_small (suc (suc (suc zero))) h = omega arith
cap_small (suc (suc (suc (suc zero)))) h = omega arith
cap_small (suc (suc (suc (suc (suc zero))))) h = omega arith
cap_small (suc (suc (suc (suc (suc (suc zero)))))) h = omega arith
cap_small (suc (suc (suc (suc (suc (suc (suc zero))))))) h = omega arith
cap_small (suc (suc (suc (suc (suc (suc (suc (suc zero)))))))) h = omega arith
cap_small (suc (suc (suc (suc (suc (suc (suc (suc (suc zero))))))))) h = omega arith
cap_small (suc (suc (suc (suc (suc (suc (suc (suc (suc (suc i)))))))))) h = absurd (omega (arith, h))

pub shifted_small : (value base : ℕ) → base ≤ 16 → value * base ≤ value * 16
shifted_small value base h = mul-le-mul_left value h

pub digit_more : (value base d i : ℕ) → base ≤ 16 → d ≤ 36 → value < cap i → value * base + d < cap (i + 1)
digit_more value base d i h k lt = subst (λ (n : ℕ). value * base + d < cap n) (sym (add-one i)) (omega (arith, shifted_small value base h, k, lt, cap_some i))

pub mul_fits : (value base i : ℕ) → base ≤ 16 → i < 10 → value < cap i → value * base < 18446744073709551616
mul_fits value base i h k lt = omega (arith, shifted_small value base h, cap_small i k, lt)

pub add_fits : (value base d i : ℕ) → base ≤ 16 → d ≤ 36 → i < 10 → value < cap i → value * base + d < 18446744073709551616
add_fits value base d i h e k lt = omega (arith, shifted_small value base h, cap_small i k, lt, e)

pub number_more : (base value d i : ℕ) (ds : List ℕ) (n : ℕ) → i < length ds → d ≡ digit_value (get_or ds i 0) → digits_value_after base value (drop i ds) ≡ n → digits_value_after base (value * base + d) (drop (i + 1) ds) ≡ n
number_more base value d i ds n lt e h =
    ap (λ (k : ℕ). digits_value_after base (value * base + k) (drop (i + 1) ds)) e ∙ sym (ap (digits_value_after base value) (drop_more ds i 0 lt)) ∙ h
