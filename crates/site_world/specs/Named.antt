-- What a map from names gives.
use Rattle.std.specs.Prelude.{ℕ, List, Option}
use Rattle.std.specs.Option.{option_copied}
use Rattle.std.specs.Str.{bytes_eq}
use Rattle.indexmap.specs.IndexMap.{get_by}
use Rattle.site_world.specs.declared.named.Named.{Named}

-- what stands under a name
abbrev pub named : {T : Type 0} → Named T → List ℕ → Option T
named m x = option_copied (get_by (λ k. bytes_eq x k.now) m.values)
