-- What a filter of lists takes its input for. After the reference of Liquid 4 (Shopify), "Filters".
use Rattle.std.specs.Prelude.{ℕ, zero, suc, ◌+◌, ℤ, pos, ◌+ℤ◌, ◌-ℤ◌, unsigned_abs, nat_lt, if◌then◌else◌, Result, Ok, Err}
use Rattle.std.specs.Int.RustNames.{int_le}
use Rattle.site_base.specs.Chains.{◌>>=◌}
use Rattle.site_base.specs.Plain.{Plain, nil, bool, int, text, list, hash, site_item, range, Items, no_items, item}
use Rattle.site_base.specs.declared.faults.FaultKind.{FaultKind}
use Rattle.site_base.specs.declared.faults.FaultKind.TheVariants.{RangeTooLong}
use Rattle.filter_base.specs.Limits.{most_counted}

-- so many numbers from the first on
abbrev pub counted : ℤ → ℕ → Items
counted a zero = no_items
counted a (suc n) = item (int a) (counted (a +ℤ pos 1) n)

-- how many numbers a range has
abbrev pub range_len : ℤ → ℤ → ℕ
range_len a b = if int_le a b then unsigned_abs (b -ℤ a) + 1 else 0

-- there may be only so many
abbrev pub range_count : ℕ → Result ℕ FaultKind
range_count n = if nat_lt most_counted n then Err RangeTooLong else Ok n

abbrev pub alone : Plain → Items
alone v = item v no_items

-- those of a list, the numbers of a range, none of nil, and any other value by itself
abbrev pub elements : Plain → Result Items FaultKind
elements nil = Ok no_items
elements (bool b) = Ok (alone (bool b))
elements (int n) = Ok (alone (int n))
elements (text t) = Ok (alone (text t))
elements (list is) = Ok is
elements (hash ps) = Ok (alone (hash ps))
elements (site_item path part) = Ok (alone (site_item path part))
elements (range a b) = range_count (range_len a b) >>= λ n. Ok (counted a n)
