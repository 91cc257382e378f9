-- A memo that is lent to one who asks a world.
use Rattle.std.specs.Prelude.{◌≡◌, ℕ, Some, slice_get, refl}
use Rattle.std.specs.Coded.{Coded, code_by, coded×}
use Rattle.std.specs.Map.{values_of}
use Rattle.site_base.specs.declared.faults.SiteFault.{SiteFault}
use Rattle.site_base.specs.declared.item_name.ItemName.{ItemName}
use Rattle.read_record.specs.Numbered.{KeptNumbers}
use Rattle.read_record.specs.Outcomes.{Page}
use Rattle.read_record.specs.Queries.{Query}
use Rattle.read_record.specs.Stores.{Store, Has}
use Rattle.memo_table.specs.Entries.{Entries, AreCertified, AreNamed}
use Rattle.memo_table.specs.Stored.{Listed, as_entries}

-- the entries, and the world that is asked
pub record EntriesAndWorld (W : Type 0) : Type 0 where
  pub entries : Entries
  pub world : W

abbrev pub lent_code : {W : Type 0} → Coded Entries → Coded W → Coded (EntriesAndWorld W)
lent_code {W} entries world = code_by (Entries × W) (coded× entries world) (λ l. (l.entries, l.world)) (λ p. record { entries = p.0; world = p.1 }) (λ _. refl)

-- what holds of entries that are lent
pub record IsLent (item : ItemName → Query SiteFault Page) (store : Store) (es : Listed) : Type 0 where
  pub named : AreNamed (as_entries store es)
  pub certified : AreCertified item (as_entries store es)
  pub has : (place : ℕ) (kept : KeptNumbers) → slice_get (values_of es) place ≡ Some kept → Has store kept.reads
