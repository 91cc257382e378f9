-- Limits that several crates cite.
use Rattle.std.specs.Prelude.{ℕ}

-- the most bytes of a file
abbrev pub most_bytes : ℕ
most_bytes = 16777216

-- the last moment, in seconds since 1970: 9999-12-30 23:59:59 UTC, so that a year has four digits at every offset
abbrev pub last_moment : ℕ
last_moment = 253402214399
