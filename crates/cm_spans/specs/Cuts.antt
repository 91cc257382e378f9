-- Where a text may be cut behind a span.
use Rattle.std.specs.Prelude.{List, ℕ, ◌<◌}
use Rattle.std.specs.Str.{IsCharBoundary}

-- something is taken, and the text may be cut behind it
pub record Ends (t : List ℕ) (n : ℕ) : Type 0 where
  pub some : 0 < n
  pub cut : IsCharBoundary t n
