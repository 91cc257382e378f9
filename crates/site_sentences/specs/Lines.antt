-- The lines that a person reads: where something is wrong, the sentence, and its code.
use Rattle.std.specs.Prelude.{◌≡◌, ℕ, Bool, true, ◌&&◌, nat_le, nat_lt, length, List, [], ◌++◌, ◌==◌, codes, if◌then◌else◌}
use Rattle.std.specs.Fmt.{decimal}
use Rattle.std.specs.List.{list_all}
use Rattle.site_base.specs.Faults.{fault_number}
use Rattle.site_base.specs.declared.faults.SiteFault.{SiteFault}
use Rattle.site_script.specs.Line.{script_number}
use Rattle.site_script.specs.declared.line.ScriptKind.{ScriptKind}
use Rattle.site_words.specs.Words.{usage_number}
use Rattle.site_words.specs.declared.faults.UsageKind.{UsageKind}
use Rattle.site_sentences.specs.Shown.{shown}
use Rattle.site_sentences.specs.declared.failure.Failure.{Failure}
use Rattle.site_sentences.specs.declared.failure.Failure.TheVariants.{Source, List as NoList, Writes, Input, Sink, Memory}

abbrev pub Text : Type 0
Text = List ℕ

-- the status that a run ends with after a failure
abbrev pub failure_number : Failure → ℕ
failure_number Source = 3
failure_number NoList = 4
failure_number (Writes count) = 4
failure_number Input = 5
failure_number Sink = 6
failure_number Memory = 8

-- something, in one line: there is no control character in it
abbrev pub is_sentence : Text → Bool
is_sentence text = nat_lt 0 (length text) && list_all (nat_le 32) text

-- a line, whose place has its own `: ` where it is not empty
abbrev pub line_of : Text → Text → Text → Text
line_of place sentence code = codes "sitebuild: " ++ (place ++ (sentence ++ (codes " (" ++ (code ++ codes ")\n"))))

-- a file, with a line of it where there is one
abbrev pub file_place : Text → ℕ → Text
file_place path line = if line == 0 then path ++ codes ": " else path ++ (codes ":" ++ (decimal line ++ codes ": "))

abbrev pub input_place : ℕ → Text
input_place line = codes "standard input:" ++ (decimal line ++ codes ": ")

abbrev pub fault_code : SiteFault → Text
fault_code fault = codes "F" ++ decimal (fault_number fault.kind)

abbrev pub usage_code : UsageKind → Text
usage_code kind = codes "usage " ++ decimal (usage_number kind)

abbrev pub script_code : ScriptKind → Text
script_code kind = codes "script " ++ decimal (script_number kind)

-- with how many paths failed, where that is what failed
abbrev pub failure_code : Failure → Text
failure_code (Writes count) = codes "status " ++ (decimal (failure_number (Writes count)) ++ (codes ", paths: " ++ decimal count))
failure_code failure = codes "status " ++ decimal (failure_number failure)

-- a text is the line of a sentence; which sentence it is, the table in the code alone says
abbrev pub Says : Text → Text → Text → Type 0
Says place code text = (sentence : Text) × (is_sentence sentence ≡ true) × (text ≡ line_of place sentence code)

abbrev pub FaultSays : SiteFault → Text → Type 0
FaultSays fault text = Says (file_place (shown fault.path) fault.line) (fault_code fault) text

abbrev pub ScriptSays : ℕ → ScriptKind → Text → Type 0
ScriptSays number kind text = Says (input_place number) (script_code kind) text

abbrev pub FailureSays : Failure → Text → Type 0
FailureSays failure text = Says [] (failure_code failure) text

-- the same with the place at which the run was cut short
abbrev pub ObstacleSays : Failure → Text → Text → Type 0
ObstacleSays failure place text = Says (file_place (shown place) 0) (failure_code failure) text

-- the line, and behind it the commands
abbrev pub UsageSays : UsageKind → Text → Type 0
UsageSays kind text = (sentence : Text) × (commands : Text) × (is_sentence sentence ≡ true) × (text ≡ line_of [] sentence (usage_code kind) ++ commands)
