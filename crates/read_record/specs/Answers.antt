-- What calls answer, in terms of queries.
use Rattle.std.specs.Prelude.{◌≡◌, ℕ, List, [], ◌∷◌, ◌++◌, Result, Ok, Err}
use Rattle.site_base.specs.Code.{code}
use Rattle.site_base.specs.Plain.{Plain}
use Rattle.site_base.specs.View.{plain}
use Rattle.site_base.specs.declared.faults.SiteFault.{SiteFault}
use Rattle.site_base.specs.declared.value.Value.{Value}
use Rattle.site_base.specs.declared.item_name.ItemName.{ItemName}
use Rattle.read_record.specs.declared.key.Key.{Key}
use Rattle.read_record.specs.declared.look.Answer.{Answer}
use Rattle.read_record.specs.declared.look.Answer.TheVariants as answer
use Rattle.read_record.specs.declared.renderer.Rendered.{Rendered}
use Rattle.read_record.specs.declared.renderer.Rendered.TheVariants as rendered
use Rattle.read_record.specs.declared.stop.Stop.{Stop}
use Rattle.read_record.specs.declared.stop.Stop.TheVariants as stop
use Rattle.read_record.specs.Queries.{Reply, Known, Missing, Trace, note, Ran, RanTo, FailedAt, WaitsFor, ran}
use Rattle.read_record.specs.Outcomes.{Page, met_of}

-- a look-up answers by the reply of the view
abbrev pub IsReply : Reply → Answer → Type 0
IsReply reply (answer.Seen v) = reply ≡ Known (plain v)
IsReply reply (answer.Needs j) = reply ≡ Missing j
IsReply reply answer.Memory = Unit {0}

-- the bytes are the code of the value that the view gives
abbrev pub IsCodeOf : Reply → List ℕ → Type 0
IsCodeOf (Known v) bytes = bytes ≡ code v
IsCodeOf (Missing j) bytes = ⊥

-- the same, and where reads are kept, a value that was seen is noted
abbrev pub IsNoted : Reply → Key → Trace → Answer → Trace → Type 0
IsNoted reply k old (answer.Seen v) new = (reply ≡ Known (plain v)) × (new ≡ note k (plain v) old)
IsNoted reply k old (answer.Needs j) new = (reply ≡ Missing j) × (new ≡ old)
IsNoted reply k old answer.Memory new = Unit {0}

-- a render answers by the run of its item's query
abbrev pub Renders : Ran SiteFault Page → Rendered → Trace → Type 0
Renders run (rendered.Out o) new = run ≡ ran (met_of o) new
Renders run (rendered.Needs j) new = run ≡ WaitsFor j new
Renders run rendered.Memory new = Unit {0}

-- the names that were rendered, once a render answered
abbrev pub rendered_names : Rendered → ItemName → List ItemName → List ItemName
rendered_names (rendered.Out o) name names = names ++ name ∷ []
rendered_names (rendered.Needs j) name names = names
rendered_names rendered.Memory name names = names

-- ---- calls that look things up

-- a call stopped as a run does
abbrev pub Stops : {F A : Type 0} → Ran F A → Stop F → Trace → Type 0
Stops run (stop.Fault e) t = run ≡ FailedAt e t
Stops run (stop.Needs j) t = run ≡ WaitsFor j t
Stops run stop.Memory t = Unit {0}

-- a call gives what a run comes to
abbrev pub Finds : {F A : Type 0} → Ran F A → Result A (Stop F) → Trace → Type 0
Finds run (Ok a) t = run ≡ RanTo a t
Finds run (Err e) t = Stops run e t

abbrev pub in_plain : {E : Type 0} → Result Value E → Result Plain E
in_plain (Ok v) = Ok (plain v)
in_plain (Err e) = Err e
