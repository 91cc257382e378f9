-- Entries that are lent: as they were made, or by numbers of a store.
use Rattle.read_record.specs.declared.kept_entry.EntryPlace.{EntryPlace}
use Rattle.read_record.specs.declared.kept_entry.EntryPlace.TheVariants.{Whole, Numbered}
use Rattle.read_record.specs.Entries.{Kept}
use Rattle.read_record.specs.Stores.{Has}
use Rattle.read_record.specs.Numbered.{entry_in}

module _ {M : Type 0} where
  -- the entry that stands there
  abbrev pub entry_at : EntryPlace M → Kept
  entry_at (Whole entry) = entry.now
  entry_at (Numbered entry store) = entry_in store.now entry.now

  -- the store holds what the numbers stand for
  abbrev pub HasReads : EntryPlace M → Type 0
  HasReads (Whole entry) = Unit {0}
  HasReads (Numbered entry store) = Has store.now entry.now.reads
