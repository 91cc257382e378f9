-- Renders that are kept.
use Rattle.std.specs.Prelude.{◌≡◌, refl}
use Rattle.std.specs.Coded.{Coded, code_by, coded×}
use Rattle.site_base.specs.declared.faults.SiteFault.{SiteFault}
use Rattle.site_base.specs.declared.item_name.ItemName.{ItemName}
use Rattle.read_record.specs.declared.outcome.Outcome.{Outcome}
use Rattle.read_record.specs.declared.outcome.Checked.TheVariants as checked
use Rattle.read_record.specs.Queries.{Query, View, interpret, Reads}
use Rattle.read_record.specs.Records.{first_other, Certifies}
use Rattle.read_record.specs.Outcomes.{Page, met_of}

-- what contracts see of an entry
pub record Kept : Type 0 where
  pub name : ItemName
  pub reads : Reads
  pub outcome : Outcome

abbrev pub kept_code : Coded ItemName → Coded Reads → Coded Outcome → Coded Kept
kept_code name reads outcome =
    code_by (ItemName × (Reads × Outcome)) (coded× name (coded× reads outcome)) (λ k. (k.name, (k.reads, k.outcome))) (λ p. record { name = p.0; reads = p.1.0; outcome = p.1.1 }) (λ k. refl)

-- the entry is certified, and tells what the item's query gives over the view, with which its record agrees
pub record Tells (view : View) (name : ItemName) (query : Query SiteFault Page) (kept : Kept) : Type 0 where
  pub named : kept.name ≡ name
  pub outcome : interpret view query ≡ met_of kept.outcome
  pub agrees : first_other kept.reads view ≡ checked.Agrees
  pub certified : Certifies kept.reads query (met_of kept.outcome)
