-- What a scenario gives the ends of its run, what is wrong with it, and what an output is compared with.
use Rattle.std.specs.Prelude.{◌≡◌, ℕ, Bool, true, false, ◌==◌, ◌&&◌, List, [], length, map, ◌++◌, Option, Some, None}
use Rattle.std.specs.Borrow.{Bor}
use Rattle.std.specs.List.{list_all, list_any}
use Rattle.std.specs.Option.{is_some}
use Rattle.std.specs.Str.{bytes_eq}
use Rattle.std.specs.FinMap.{from_entries, get, len}
use Rattle.site_base.specs.Clash.{ClashFree}
use Rattle.site_base.specs.Ends.{SinkState}
use Rattle.site_base.specs.Path.{path_refusal}
use Rattle.site_base.specs.Places.{AllDiffer, Files, paths_of}
use Rattle.site_base.specs.declared.item_name.ItemName.{ItemName}
use Rattle.site_base.specs.declared.path.PathError.{PathError}
use Rattle.site_base.specs.declared.path.PathError.TheVariants as path_error
use Rattle.out_tree.specs.Memory.{OutState}
use Rattle.source_tree.specs.Memory.{SourceState}
use Rattle.site_program.specs.Stages.{Stage, stage}
use Rattle.site_session.specs.Session.{Given}
use Rattle.site_words.specs.declared.orders.Options.{Options}
use Rattle.site_tests.specs.declared.scenario.Scenario.{Scenario}
use Rattle.site_tests.specs.declared.scenario_error.ScenarioError.{ScenarioError}
use Rattle.site_tests.specs.declared.scenario_error.ScenarioError.TheVariants.{Memory, Path, Clash}

-- a refusal of a path, which may be want of memory
abbrev pub of_path : PathError → ScenarioError
of_path path_error.Memory = Memory
of_path path_error.Empty = Path
of_path path_error.Absolute = Path
of_path path_error.DotSegment = Path
of_path path_error.EmptySegment = Path
of_path path_error.Control = Path
of_path path_error.Long = Path

-- words as their bytes
abbrev pub word_list : List (Bor (List ℕ)) → List (List ℕ)
word_list words = map (λ word. word.now) words

-- paths with texts as their bytes
abbrev pub file_list : List (Bor (List ℕ) × Bor (List ℕ)) → List (List ℕ × List ℕ)
file_list files = map (λ file. (file.0.now, file.1.now)) files

abbrev pub files_of : List (Bor (List ℕ) × Bor (List ℕ)) → Files
files_of files = from_entries (file_list files)

-- the files of the two ends
abbrev pub given_of : Scenario → Given
given_of scenario = record { source = files_of scenario.sources.now; output = files_of scenario.outputs.now; why = false }

-- the same where a command line says whether reasons are told
abbrev pub told_of : Scenario → Options → Given
told_of scenario options = record (given_of scenario) { why = options.why }

-- the output before the run
abbrev pub output_of : Scenario → OutState
output_of scenario = record { files = files_of scenario.outputs.now; told = Some []; fail = scenario.output_fails.now; calls = 0; failures = 0; short = 0 }

-- the source before the run
abbrev pub source_of : Scenario → SourceState
source_of scenario = record { files = files_of scenario.sources.now; fail = scenario.source_fails.now; calls = 0; failures = 0 }

-- the sink before the run
abbrev pub sink_of : Scenario → SinkState
sink_of scenario = record { taken = []; fail = scenario.sink_fails.now; calls = 0; failures = 0; short = 0 }

-- ends in memory tell all that they hold
abbrev pub memory_stage : SourceState → OutState → List ItemName → SinkState → Stage SourceState OutState
memory_stage = stage (λ source. Some source.files) (λ source. source.failures) (λ out. Some out.files) (λ out. out.told) (λ out. out.failures) (λ sink. Some sink.taken) (λ sink. sink.failures)

-- no call of an end is listed as one that fails
pub record FailsNowhere (scenario : Scenario) : Type 0 where
  pub source : scenario.source_fails.now ≡ []
  pub output : scenario.output_fails.now ≡ []
  pub input : scenario.input_fails.now ≡ []
  pub sink : scenario.sink_fails.now ≡ []

-- a path is none of a site
abbrev pub has_refused : List (List ℕ × List ℕ) → Bool
has_refused files = list_any (λ file. is_some (path_refusal file.0)) files

-- no path stands twice, and none is a folder of another
abbrev pub StandApart : List (List ℕ × List ℕ) → Type 0
StandApart files = AllDiffer (paths_of files) × ClashFree (paths_of files)

-- what is wrong with a scenario; memory may be wanting at any time
abbrev pub IsFault : Scenario → ScenarioError → Type 0
IsFault scenario Memory = Unit {0}
IsFault scenario Path = has_refused (file_list scenario.sources.now ++ file_list scenario.outputs.now) ≡ true
IsFault scenario Clash = StandApart (file_list scenario.sources.now) × StandApart (file_list scenario.outputs.now) → ⊥

abbrev pub is_text : Option (List ℕ) → List ℕ → Bool
is_text None text = false
is_text (Some bytes) text = bytes_eq bytes text

-- each file that is wanted is there with its text
abbrev pub has_all : Files → List (List ℕ × List ℕ) → Bool
has_all files wanted = list_all (λ file. is_text (get files file.0) file.1) wanted

-- and the files are as many as are wanted
abbrev pub has_just : Files → List (List ℕ × List ℕ) → Bool
has_just files wanted = (len files == length wanted) && has_all files wanted
