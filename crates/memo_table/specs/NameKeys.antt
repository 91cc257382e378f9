-- Names as the keys of a map of the kit.
use Rattle.std.specs.Prelude.{◌≡◌, ℕ, Bool, List, ◌∷◌, map, slice_get, Some}
use Rattle.std.specs.Hash as fed
use Rattle.std.specs.FinMap.{FinMap, from_entries, get}
use Rattle.site_base.specs.declared.item_name.ItemName.{ItemName}
use Rattle.memo_table.specs.declared.name_key.NameKey.{NameKey}
use Rattle.memo_table.specs.declared.name_key.NameKey.TheVariants.{Kept, Asked}
use Rattle.memo_table.specs.Names.{name_cmp, same_name}

-- the name that a key is
abbrev pub name_of : NameKey → ItemName
name_of (Kept name) = name
name_of (Asked name) = name.now

abbrev pub same_key : NameKey → NameKey → Bool
same_key a b = same_name (name_of a) (name_of b)

-- what of a key is fed to a hasher
abbrev pub key_writes : NameKey → List (List ℕ)
key_writes k = let name = name_of k in name.path ∷ fed.u32 name.part

module _ {V : Type 0} where
  -- the map of a list, where the first value of a name counts
  abbrev pub as_map : List (NameKey × V) → FinMap name_cmp V
  as_map es = from_entries (map (λ e. (name_of e.0, e.1)) es)

  -- the value of the name stands at this place
  pub record StandsAt (name : ItemName) (es : List (NameKey × V)) (place : ℕ) : Type 0 where
    pub key : NameKey
    pub value : V
    pub there : slice_get es place ≡ Some (key, value)
    pub named : name_of key ≡ name
    pub found : get (as_map es) name ≡ Some value
