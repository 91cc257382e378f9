-- The filters of numbers. After the reference of Liquid 4 (Shopify), "Filters".
use Rattle.std.specs.Prelude.{ℤ, pos, int_lt, if◌then◌else◌, ◌+ℤ◌, ◌-ℤ◌, ◌*ℤ◌, neg_ℤ, unsigned_abs, List, Result, Ok, Err}
use Rattle.std.specs.Int.{int_div_euclid, int_rem_euclid, int_max, int_min}
use Rattle.site_base.specs.Chains.{◌>>=◌}
use Rattle.site_base.specs.Plain.{Plain}
use Rattle.site_base.specs.declared.faults.FaultKind.{FaultKind}
use Rattle.site_base.specs.declared.faults.FaultKind.TheVariants.{DividedByZero}
use Rattle.filter_base.specs.Arguments.{no_more, one}
use Rattle.filter_base.specs.Numerals.{num, fitting}
use Rattle.liquid_filters.specs.declared.numbers.NumberFilter.{NumberFilter}
use Rattle.liquid_filters.specs.declared.numbers.NumberFilter.TheVariants.{Abs, AtLeast, AtMost, Ceil, DividedBy, Floor, Minus, Modulo, Plus, Round, Times}

abbrev pub absolute : ℤ → Result ℤ FaultKind
absolute n = fitting (pos (unsigned_abs n))

abbrev pub sum : ℤ → ℤ → Result ℤ FaultKind
sum n m = fitting (n +ℤ m)

abbrev pub difference : ℤ → ℤ → Result ℤ FaultKind
difference n m = fitting (n -ℤ m)

abbrev pub product : ℤ → ℤ → Result ℤ FaultKind
product n m = fitting (n *ℤ m)

-- rounded down; by a number below 0 it is the quotient of both numbers turned
abbrev pub quotient : ℤ → ℤ → Result ℤ FaultKind
quotient n m =
    if int_lt (pos 0) m then fitting (int_div_euclid n m)
    else if int_lt m (pos 0) then fitting (int_div_euclid (neg_ℤ n) (neg_ℤ m))
    else Err DividedByZero

-- what such a quotient leaves, which has the divisor's sign
abbrev pub remainder : ℤ → ℤ → Result ℤ FaultKind
remainder n m =
    if int_lt (pos 0) m then fitting (int_rem_euclid n m)
    else if int_lt m (pos 0) then fitting (neg_ℤ (int_rem_euclid (neg_ℤ n) (neg_ℤ m)))
    else Err DividedByZero

-- the input as a number
abbrev pub lone : Plain → List Plain → Result ℤ FaultKind
lone v ws = no_more ws >>= λ _. num v

-- the input and the argument as numbers
abbrev pub both : Plain → List Plain → Result (ℤ × ℤ) FaultKind
both v ws = one ws >>= λ w. num v >>= λ n. num w >>= λ m. Ok (n, m)

abbrev pub number_filter : NumberFilter → Plain → List Plain → Result ℤ FaultKind
number_filter Abs v ws = lone v ws >>= absolute
number_filter AtLeast v ws = both v ws >>= λ p. Ok (int_max p.0 p.1)
number_filter AtMost v ws = both v ws >>= λ p. Ok (int_min p.0 p.1)
number_filter Ceil v ws = lone v ws
number_filter DividedBy v ws = both v ws >>= λ p. quotient p.0 p.1
number_filter Floor v ws = lone v ws
number_filter Minus v ws = both v ws >>= λ p. difference p.0 p.1
number_filter Modulo v ws = both v ws >>= λ p. remainder p.0 p.1
number_filter Plus v ws = both v ws >>= λ p. sum p.0 p.1
number_filter Round v ws = lone v ws
number_filter Times v ws = both v ws >>= λ p. product p.0 p.1
