-- A map of paths with other values.
use Rattle.std.specs.Prelude.{map}
use Rattle.std.specs.FinMap.{FinMap, entries, from_sorted}
use Rattle.site_base.specs.Places.{path_cmp}

-- each path, with what the function makes of its value
abbrev pub map_values : {V W : Type 0} → (V → W) → FinMap path_cmp V → FinMap path_cmp W
map_values f m = from_sorted (map (λ e. (e.0, f e.1)) (entries m))
