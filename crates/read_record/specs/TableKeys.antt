-- Keys as the keys of a map of the kit.
use Rattle.std.specs.Prelude.{◌≡◌, ℕ, Bool, List, IsTrue}
use Rattle.std.specs.Cmp.{IsEquivalence}
use Rattle.std.proofs.lemmas.Cmp.{on_equiv}
use Rattle.read_record.specs.declared.key.Key.{Key}
use Rattle.read_record.specs.declared.shared_key.TableKey.{TableKey}
use Rattle.read_record.specs.declared.shared_key.TableKey.TheVariants.{Kept, Asked}
use Rattle.read_record.specs.Keys.{same_key, key_writes}
use Rattle.read_record.specs.SameKeys.{same_key-equiv, key_writes-same}

-- the key that is kept, or asked for
abbrev pub key_in : TableKey → Key
key_in (Kept key) = key
key_in (Asked key) = key.now

abbrev pub same_table_key : TableKey → TableKey → Bool
same_table_key a b = same_key (key_in a) (key_in b)

-- what of a key is fed to a hasher
abbrev pub table_key_writes : TableKey → List (List ℕ)
table_key_writes key = key_writes (key_in key)

pub same_table_key-equiv : IsEquivalence same_table_key
same_table_key-equiv = on_equiv key_in same_key-equiv

pub table_key_writes-same : (a b : TableKey) → IsTrue (same_table_key a b) → table_key_writes a ≡ table_key_writes b
table_key_writes-same a b h = key_writes-same (key_in a) (key_in b) h
