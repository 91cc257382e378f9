-- What a run over the look of a world leaves.
use Rattle.std.proofs.Common.{◌≡◌, [], Some}
use Rattle.site_base.specs.declared.faults.SiteFault.{SiteFault}
use Rattle.site_base.specs.declared.item_name.ItemName.{ItemName}
use Rattle.read_record.specs.declared.outcome.Outcome.{Outcome}
use Rattle.read_record.specs.declared.outcome.Outcome.TheVariants.{Done, Fault}
use Rattle.read_record.specs.Queries.{Query, View, Trace, Reads, run, ran}
use Rattle.read_record.specs.Records.{IsMade}
use Rattle.read_record.specs.Outcomes.{Page, met_of}
use Rattle.read_record.specs.Entries.{Kept, Tells}
use Rattle.read_record.proofs.RecordLaws.{Left, left}

pub outcome-made : (o : Outcome) → IsMade (met_of o)
outcome-made (Done content output) = tt
outcome-made (Fault f) = tt

pub left_at : (view view' : View) (t : Trace) (q : Query SiteFault Page) (o : Outcome) (reads : Reads) → view' ≡ view → t ≡ Some [] → run view' t q ≡ ran (met_of o) (Some reads) → Left view q (met_of o) reads
left_at view view' t q o reads e f h = left view q (met_of o) reads (rw (← e, ← f) h) (outcome-made o)

pub told : (view : View) (name kept_name : ItemName) (q : Query SiteFault Page) (kept : Kept) (reads reads' : Reads) (o : Outcome) →
    kept_name ≡ name → kept ≡ record { name = kept_name; reads = reads'; outcome = o } → reads' ≡ reads → Left view q (met_of o) reads → Tells view name q kept
told view name kept_name q kept reads reads' o n k r l =
    rw k (record { named = n; outcome = l.met_there; agrees = rw r l.agreeing; certified = rw r l.certified })
