-- What the ends of a run show at one moment.
use Rattle.std.specs.Prelude.{◌≡◌, ℕ, ◌+◌, ◌-◌, ◌^◌, ◌≤◌, ◌<◌, min, max, List, Option}
use Rattle.out_tree.specs.declared.step.Call.{Call}
use Rattle.site_base.specs.Ends.{Rose}
use Rattle.site_base.specs.Places.{Files}
use Rattle.site_base.specs.declared.item_name.ItemName.{ItemName}
use Rattle.site_session.specs.Scenes.{Scene, scene}
use Rattle.site_program.specs.declared.status.Status.{Status}
use Rattle.site_program.specs.declared.status.Status.TheVariants.{Done, Site, Usage, SourceFault, OutFault, InputFault, SinkFault, Script, Memory}

-- a sink: the bytes that it took where it tells them, and how often it failed
pub record SinkSeen : Type 0 where
  pub taken : Option (List ℕ)
  pub failures : ℕ

abbrev pub sink_seen : {K : Type 0} → (K → Option (List ℕ)) → (K → ℕ) → K → SinkSeen
sink_seen taken failures sink = record { taken = taken sink; failures = failures sink }

-- an input: itself, the bytes that are left of it where it tells them, and how often it failed
pub record InputSeen (I : Type 0) : Type 0 where
  pub value : I
  pub left : Option (List ℕ)
  pub failures : ℕ

abbrev pub input_seen : {I : Type 0} → (I → Option (List ℕ)) → (I → ℕ) → I → InputSeen I
input_seen left failures input = record { value = input; left = left input; failures = failures input }

-- what its lines may change besides a session, and what takes the replies
pub record Stage (S D : Type 0) : Type 0 where
  pub scene : Scene S D
  pub sink : SinkSeen

-- the stage of these ends, each seen by what it tells
abbrev pub stage : {S D K : Type 0} → (S → Option Files) → (S → ℕ) → (D → Option Files) → (D → Option (List Call)) → (D → ℕ) → (K → Option (List ℕ)) → (K → ℕ) → S → D → List ItemName → K → Stage S D
stage source_files source_failures output_files output_calls output_failures taken sink_failures source output tally sink = record {
  scene = scene source_files source_failures output_files output_calls output_failures source output tally;
  sink = sink_seen taken sink_failures sink;
}

-- a failure of source, output or sink is answered only where that end failed
pub record Blames {S D : Type 0} (was now : Stage S D) (ended : Status) : Type 0 where
  pub source : ended ≡ SourceFault → Rose was.scene.source.failures now.scene.source.failures
  pub output : (count : ℕ) → ended ≡ OutFault count → min (was.scene.output.failures + max count 1) (2 ^ 64 - 1) ≤ now.scene.output.failures
  pub sink : ended ≡ SinkFault → Rose was.sink.failures now.sink.failures

-- and so is one of the input
abbrev pub BlamesInput : {I : Type 0} → InputSeen I → InputSeen I → Status → Type 0
BlamesInput was now ended = ended ≡ InputFault → Rose was.failures now.failures

-- ---- what a run comes to whose ends do not fail

-- a count of failures that is not at its last value, and stayed
abbrev pub Stayed : ℕ → ℕ → Type 0
Stayed before now = (now ≡ before) × (before < 2 ^ 64 - 1)

pub record NoneFailed {S D : Type 0} (was now : Stage S D) : Type 0 where
  pub source : Stayed was.scene.source.failures now.scene.source.failures
  pub output : Stayed was.scene.output.failures now.scene.output.failures
  pub sink : Stayed was.sink.failures now.sink.failures

-- all was done that was asked for, up to the first fault of the site or the first bad line of the script
abbrev pub Comes : Status → Type 0
Comes Done = Unit {0}
Comes (Site fault) = Unit {0}
Comes (Script number kind) = Unit {0}
Comes (Usage kind) = ⊥
Comes SourceFault = ⊥
Comes (OutFault count) = ⊥
Comes InputFault = ⊥
Comes SinkFault = ⊥
Comes Memory = ⊥

-- a run for which memory was found, and whose ends did not fail, came to its end
abbrev pub Completes : {S D : Type 0} → Stage S D → Stage S D → Status → Type 0
Completes was now ended = (ended ≡ Memory → ⊥) → NoneFailed was now → Comes ended
