-- What a render answers, by what was made of the item.
use Rattle.std.proofs.Common.{Result, Ok, Err}
use Rattle.site_base.specs.declared.faults.SiteFault.{SiteFault}
use Rattle.page_render.specs.Items.{in_pages, rendered_by}
use Rattle.page_render.specs.declared.item.Made.{Made}
use Rattle.read_record.specs.Answers.{Finds, Renders}
use Rattle.read_record.specs.Outcomes.{Page}
use Rattle.read_record.specs.Queries.{Ran, Trace}
use Rattle.read_record.specs.declared.stop.Stop.{Stop}
use Rattle.read_record.specs.declared.stop.Stop.TheVariants as stop

pub renders : (r : Ran SiteFault Page) (x : Result Made (Stop SiteFault)) (t : Trace) → Finds r (in_pages x) t → Renders r (rendered_by x) t
renders r (Ok m) t h = h
renders r (Err (stop.Fault f)) t h = h
renders r (Err (stop.Needs j)) t h = h
renders r (Err stop.Memory) t h = tt
