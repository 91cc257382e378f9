-- Entries whose records have numbers of a store.
use Rattle.std.specs.Prelude.{refl}
use Rattle.std.specs.Coded.{Coded, code_by, coded×, coded_list, coded_ℕ}
use Rattle.site_base.specs.declared.faults.SiteFault.{SiteFault}
use Rattle.site_base.specs.declared.item_name.ItemName.{ItemName}
use Rattle.read_record.specs.declared.outcome.Outcome.{Outcome}
use Rattle.read_record.specs.Queries.{Query}
use Rattle.read_record.specs.Records.{Certifies}
use Rattle.read_record.specs.Outcomes.{Page, met_of}
use Rattle.read_record.specs.Entries.{Kept}
use Rattle.read_record.specs.Stores.{Store, Numbers, resolved}

-- what contracts see of such an entry
pub record KeptNumbers : Type 0 where
  pub name : ItemName
  pub reads : Numbers
  pub outcome : Outcome

abbrev pub numbers_code : Coded ItemName → Coded Outcome → Coded KeptNumbers
numbers_code name outcome =
    code_by (ItemName × (Numbers × Outcome)) (coded× name (coded× (coded_list (coded× coded_ℕ coded_ℕ)) outcome)) (λ k. (k.name, (k.reads, k.outcome))) (λ p. record { name = p.0; reads = p.1.0; outcome = p.1.1 }) (λ k. refl)

-- the entry that it stands for
abbrev pub entry_in : Store → KeptNumbers → Kept
entry_in store kept = record { name = kept.name; reads = resolved store kept.reads; outcome = kept.outcome }

-- its record alone gives its outcome, and each key of it is needed
abbrev pub IsCertified : (ItemName → Query SiteFault Page) → Store → KeptNumbers → Type 0
IsCertified item store kept = Certifies (resolved store kept.reads) (item kept.name) (met_of kept.outcome)
