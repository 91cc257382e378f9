-- Whole numbers in decimal.
use Rattle.std.specs.Prelude.{ℕ, suc, ◌+◌, ◌/◌, ◌%◌, ℤ, pos, negsuc, List, [], ◌∷◌, ◌++◌, nat_lt, if◌then◌else◌}
use Rattle.site_base.specs.Recursion.{down}

abbrev pub decimal_step : (ℕ → List ℕ) → ℕ → List ℕ
decimal_step rest n = if nat_lt n 10 then (48 + n) ∷ [] else rest (n / 10) ++ (48 + n % 10) ∷ []

-- the digits of a number, without a leading zero
unfoldable pub decimal : ℕ → List ℕ
decimal n = down (λ m. m) [] decimal_step n

-- with `-` before the digits of a negative number
abbrev pub signed : ℤ → List ℕ
signed (pos n) = decimal n
signed (negsuc n) = 45 ∷ decimal (suc n)
