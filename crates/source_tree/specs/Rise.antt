-- Paths in byte order.
use Rattle.std.specs.Prelude.{ℕ, List, map}
use Rattle.site_base.specs.Places.{PathsRise}

-- paths as the entries of a map that holds nothing besides
abbrev pub units : List (List ℕ) → List (List ℕ × Unit {0})
units paths = map (λ path. (path, tt {0})) paths

-- the paths strictly rise
abbrev pub Rise : List (List ℕ) → Type 0
Rise paths = PathsRise (units paths)
