-- What an item comes to.
use Rattle.std.specs.Prelude.{ℕ, Bool, true, false, List, Option, Some, None}
use Rattle.site_base.specs.declared.faults.SiteFault.{SiteFault}
use Rattle.read_record.specs.declared.outcome.Outcome.{Outcome}
use Rattle.read_record.specs.declared.outcome.Outcome.TheVariants.{Done, Fault}
use Rattle.read_record.specs.Queries.{Met, Gave, Failed}

-- the converted text of an item, and the text that is written
pub record Page : Type 0 where
  pub content : List ℕ
  pub output : List ℕ

abbrev pub met_of : Outcome → Met SiteFault Page
met_of (Done content output) = Gave (record { content = content; output = output })
met_of (Fault f) = Failed f

abbrev pub is_done : Option Outcome → Bool
is_done (Some (Done content output)) = true
is_done (Some (Fault f)) = false
is_done None = false
