-- What a shelf gives.
use Rattle.std.specs.Prelude.{ℕ, List, Option}
use Rattle.std.specs.BTreeMap.{get_by_text}
use Rattle.site_base.specs.Plain.{Plain}
use Rattle.site_world.specs.declared.shelf.Shelf.{Shelf}

-- the value under a name
abbrev pub shelved : Shelf → List ℕ → Option Plain
shelved s x = get_by_text s.values x
