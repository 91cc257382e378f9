-- A set of the names that collections have.
use Rattle.std.specs.Prelude.{◌≡◌, ℕ, List, String}
use Rattle.std.specs.declared.alloc.Global.{Global}
use Rattle.std.specs.BTreeSet.{BTreeSet, contains_text}
use Rattle.site_config.specs.declared.collection.Collection.{Collection}
use Rattle.site_config.specs.Config.{is_named}

abbrev pub HasNames : BTreeSet (String Global) → List Collection → Type 0
HasNames seen cs = (name : List ℕ) → contains_text seen name ≡ is_named name cs
