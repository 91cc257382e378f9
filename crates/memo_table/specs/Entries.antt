-- The entries that are kept, by the names of their items.
use Rattle.std.specs.Prelude.{◌≡◌, List, Some}
use Rattle.std.specs.FinMap.{FinMap, get, insert, retain_keys}
use Rattle.site_base.specs.declared.faults.SiteFault.{SiteFault}
use Rattle.site_base.specs.declared.item_name.ItemName.{ItemName}
use Rattle.read_record.specs.Queries.{Query}
use Rattle.read_record.specs.Records.{Certifies}
use Rattle.read_record.specs.Outcomes.{Page, met_of}
use Rattle.read_record.specs.Entries.{Kept}
use Rattle.memo_table.specs.Names.{name_cmp, is_among}

-- from names to entries
abbrev pub Entries : Type 0
Entries = FinMap name_cmp Kept

-- with an entry, in place of the one of its name
abbrev pub with_entry : Kept → Entries → Entries
with_entry kept entries = insert entries kept.name kept

-- what stands under these names
abbrev pub of_names : {V : Type 0} → List ItemName → FinMap name_cmp V → FinMap name_cmp V
of_names names entries = retain_keys entries (is_among names)

-- each entry stands under its own name
abbrev pub AreNamed : Entries → Type 0
AreNamed entries = (name : ItemName) (kept : Kept) → get entries name ≡ Some kept → kept.name ≡ name

-- the record of each alone gives its outcome, and each key of it is needed
abbrev pub AreCertified : (ItemName → Query SiteFault Page) → Entries → Type 0
AreCertified item entries = (name : ItemName) (kept : Kept) → get entries name ≡ Some kept → Certifies kept.reads (item kept.name) (met_of kept.outcome)
