-- A number of at most eight hexadecimal digits is small.
use Rattle.std.proofs.Common.{ℕ, zero, suc, ◌+◌, ◌*◌, ◌<◌, ◌≤◌, ◌^◌, arith}

-- a bound on what some bytes give, taken as hexadecimal digits
abbrev pub cap : ℕ → ℕ
cap zero = 0
cap (suc n) = cap n * 16 + 255

pub cap_small : (n : ℕ) → n < 8 → cap n ≤ 2 ^ 40
cap_small zero h = omega arith
cap_small (suc zero) h = omega arith
cap_small (suc (suc zero)) h = omega arith
cap_small (suc (suc (suc zero))) h = omega arith
cap_small (suc (suc (suc (suc zero)))) h = omega arith
cap_small (suc (suc (suc (suc (suc zero))))) h = omega arith
cap_small (suc (suc (suc (suc (suc (suc zero)))))) h = omega arith
cap_small (suc (suc (suc (suc (suc (suc (suc zero))))))) h = omega arith
cap_small (suc (suc (suc (suc (suc (suc (suc (suc n)))))))) h = absurd (omega arith)
