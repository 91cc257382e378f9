-- How a table keeps its keys: each number with its key, and each key with its number; and what leads to reads.
use Rattle.std.specs.Prelude.{◌≡◌, ℕ, List, map, Some, is_some, option_map}
use Rattle.std.specs.Map.{lookup}
use Rattle.slab.specs.Slab.{Slab, get}
use Rattle.read_record.specs.declared.key.Key.{Key}
use Rattle.read_record.specs.declared.key_table.KeySlot.{KeySlot}
use Rattle.read_record.specs.declared.shared_key.TableKey.{TableKey}
use Rattle.read_record.specs.Keys.{same_key}
use Rattle.read_record.specs.Queries.{Reads}
use Rattle.read_record.specs.Stores.{HeldKey, Keys}
use Rattle.read_record.specs.TableKeys.{key_in, same_table_key}

abbrev pub held_in : KeySlot → HeldKey
held_in slot = record { key = slot.key; count = slot.count }

abbrev pub as_keys : Slab KeySlot → Keys
as_keys slots = map (option_map held_in) slots.slots

-- a key leads to a number that has this key
abbrev pub LeadsRight : List (TableKey × ℕ) → Slab KeySlot → Type 0
LeadsRight numbers slots =
    (asked : TableKey) (number : ℕ) → lookup (same_table_key asked) numbers ≡ Some number → option_map (λ (slot : KeySlot). slot.key) (get slots number) ≡ Some (key_in asked)

-- an index has the keys of these reads, and no others
abbrev pub Indexes : {X : Type 0} → List (TableKey × X) → Reads → Type 0
Indexes index reads = (asked : TableKey) → is_some (lookup (same_table_key asked) index) ≡ is_some (lookup (same_key (key_in asked)) reads)

-- a key leads to a read of this key
abbrev pub HoldsItsKeys : List (TableKey × (Key × List ℕ)) → Type 0
HoldsItsKeys reads = (asked : TableKey) (read : Key × List ℕ) → lookup (same_table_key asked) reads ≡ Some read → read.0 ≡ key_in asked
