-- What standard error has of a run.
use Rattle.std.specs.Prelude.{◌≡◌, ◌==◌, ℕ, List, [], if◌then◌else◌, Option, Some, None}
use Rattle.site_program.specs.declared.status.Status.{Status}
use Rattle.site_program.specs.declared.status.Status.TheVariants as status
use Rattle.site_sentences.specs.Lines.{FaultSays, UsageSays, ScriptSays, FailureSays}
use Rattle.site_sentences.specs.Questions.{AnswerSays, asked}
use Rattle.site_sentences.specs.declared.questions.Question.{Question}
use Rattle.site_words.specs.declared.faults.UsageKind.{UsageKind}
use Rattle.site_sentences.specs.declared.failure.Failure.{Failure}
use Rattle.site_sentences.specs.declared.failure.Failure.TheVariants as failure

-- an output failed at so many paths, or gave no list of its files
abbrev pub output_failure : ℕ → Failure
output_failure count = if count == 0 then failure.List else failure.Writes count

-- the failure of a folder that a status tells
abbrev pub failure_of_folder : Status → Option Failure
failure_of_folder status.SourceFault = Some failure.Source
failure_of_folder (status.OutFault count) = Some (output_failure count)
failure_of_folder _ = None

-- words that give no command are answered, where they ask something, and else told what is wrong with them
abbrev pub WordsSay : Option Question → UsageKind → List ℕ → Type 0
WordsSay (Some question) kind text = AnswerSays question text
WordsSay None kind text = UsageSays kind text

-- nothing of a run that was done, and a line of any other
abbrev pub StatusSays : List (List ℕ) → Status → List ℕ → Type 0
StatusSays words status.Done text = text ≡ []
StatusSays words (status.Site fault) text = FaultSays fault text
StatusSays words (status.Usage kind) text = WordsSay (asked words) kind text
StatusSays words status.SourceFault text = FailureSays failure.Source text
StatusSays words (status.OutFault count) text = FailureSays (output_failure count) text
StatusSays words status.InputFault text = FailureSays failure.Input text
StatusSays words status.SinkFault text = FailureSays failure.Sink text
StatusSays words (status.Script number kind) text = ScriptSays number kind text
StatusSays words status.Memory text = FailureSays failure.Memory text
