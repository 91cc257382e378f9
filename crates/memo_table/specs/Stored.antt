-- Entries by numbers of a store, and what the store holds for them.
use Rattle.std.specs.Prelude.{◌≡◌, ℕ, List, [], ◌∷◌, ◌++◌, map, length}
use Rattle.std.specs.FinMap.{empty, entries, from_entries}
use Rattle.std.specs.List.{IsDistinct, sum_by}
use Rattle.std.specs.Map.{values_of}
use Rattle.read_record.specs.Entries.{Kept}
use Rattle.read_record.specs.Stores.{Store, Numbers, HasMore}
use Rattle.read_record.specs.Numbered.{KeptNumbers, entry_in}
use Rattle.site_base.specs.declared.faults.SiteFault.{SiteFault}
use Rattle.site_base.specs.declared.item_name.ItemName.{ItemName}
use Rattle.read_record.specs.Queries.{Query}
use Rattle.read_record.specs.Outcomes.{Page}
use Rattle.memo_table.specs.declared.name_key.NameKey.{NameKey}
use Rattle.memo_table.specs.Entries.{Entries, AreCertified, AreNamed}
use Rattle.memo_table.specs.NameKeys.{as_map}
use Rattle.memo_table.specs.Names.{same_name}

-- entries under names
abbrev pub Listed : Type 0
Listed = List (NameKey × KeptNumbers)

-- with what their numbers stand for
abbrev pub resolved_all : Store → Listed → List (NameKey × Kept)
resolved_all store es = map (λ e. (e.0, entry_in store e.1)) es

-- the map that they are
abbrev pub as_entries : Store → Listed → Entries
as_entries store es = as_map (resolved_all store es)

-- all reads of entries
abbrev pub all_reads : List KeptNumbers → Numbers
all_reads [] = []
all_reads (k ∷ ks) = k.reads ++ all_reads ks

-- the store of no reads
abbrev pub no_reads : Store
no_reads = record { keys = []; codes = empty }

-- the store holds the reads of these entries and of those that were replaced, and no others
abbrev pub HoldsJust : Store → Listed → List KeptNumbers → Type 0
HoldsJust store es replaced = HasMore no_reads store (all_reads (values_of es ++ replaced))

-- the store lost nothing that it held
abbrev pub Grew : Store → Store → Type 0
Grew old new = (reads : Numbers) × HasMore old new reads

-- what a memo keeps
pub record IsSound (item : ItemName → Query SiteFault Page) (store : Store) (es : Listed) (replaced : List KeptNumbers) : Type 0 where
  pub named : AreNamed (as_entries store es)
  pub certified : AreCertified item (as_entries store es)
  pub just : HoldsJust store es replaced

-- ---- what is left once nothing waits

-- the entries that numbers stand for in a store, by their names
abbrev pub entries_in : Store → List KeptNumbers → Entries
entries_in store kept = from_entries (map (λ k. (k.name, entry_in store k)) kept)

-- The store holds just the reads of these entries: each has its numbers, which stand for it in the store, and the store has each number of
-- a key and of a code as often as it stands in these.
pub record HoldsKept (store : Store) (entries : Entries) : Type 0 where
  pub kept : List KeptNumbers
  pub differ : IsDistinct same_name (map (λ k. k.name) kept)
  pub are : entries_in store kept ≡ entries
  pub just : HasMore no_reads store (all_reads kept)

-- how many reads entries have
abbrev pub read_count : Entries → ℕ
read_count kept = sum_by (λ e. length e.1.reads) (entries kept)
