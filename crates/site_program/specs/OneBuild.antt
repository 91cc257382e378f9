-- One build from nothing: a scan, and the build where the scan answers a number.
use Rattle.std.specs.Prelude.{◌≡◌, ◌⊎◌, ℕ, Bool, List, [], ◌++◌, take, Option, Some, Result}
use Rattle.site_base.specs.declared.errors.Memory.{Memory}
use Rattle.site_script.specs.declared.line.Line.TheVariants as line
use Rattle.site_script.specs.declared.line.ScriptKind.{ScriptKind}
use Rattle.site_session.specs.Bytes.{reply_bytes}
use Rattle.site_session.specs.Makes.{IsShort}
use Rattle.site_session.specs.Replies.{IsQuiet, SourceLeft, built_reply}
use Rattle.site_session.specs.Scenes.{SourceSeen}
use Rattle.site_session.specs.Session.{Given, Answers}
use Rattle.site_session.specs.Standing.{Standing}
use Rattle.site_session.specs.declared.build.Rebuilt.{Rebuilt}
use Rattle.site_session.specs.declared.reply.Reply.{Reply}
use Rattle.site_words.specs.declared.faults.UsageKind.{UsageKind}
use Rattle.site_program.specs.Once.{after_scan, Ended, Took, Untouched}
use Rattle.site_program.specs.Runs.{OnceRun}
use Rattle.site_program.specs.Stages.{Blames, Completes, Stage}
use Rattle.site_program.specs.declared.status.Status.{Status}
use Rattle.site_program.specs.declared.status.Status.TheVariants as status

-- ---- replies that are told

-- a scan was done, and the sink took its reply
pub record ScanTold {S : Type 0} (why : Bool) (old new : Standing) (source source' : SourceSeen S) (taken taken' : Option (List ℕ)) (reply : Reply) : Type 0 where
  pub answers : (given : Given) → source.files ≡ Some given.source → Answers given old 1 line.Scan reply new
  pub bytes : (before : List ℕ) → taken ≡ Some before → taken' ≡ Some (before ++ reply_bytes why reply)
  pub quiet : IsQuiet reply
  pub belief : new.belief ≡ old.belief
  pub left : SourceLeft line.Scan reply source source'

-- a scan was done, and the sink took a part of its reply
pub record HalfScan {S : Type 0} (given : Given) (old : Standing) (source source' : SourceSeen S) (part : List ℕ) : Type 0 where
  pub reply : Reply
  pub new : Standing
  pub answers : Answers given old 1 line.Scan reply new
  pub quiet : IsQuiet reply
  pub belief : new.belief ≡ old.belief
  pub left : SourceLeft line.Scan reply source source'
  pub taken : ℕ
  pub part_is : part ≡ take taken (reply_bytes given.why reply)

-- what the sink took of a reply that was not told whole; for want of memory it took nothing
pub record Part (short : Type 0) (before : List ℕ) (after : Option (List ℕ)) (part : List ℕ) : Type 0 where
  pub bytes : after ≡ Some (before ++ part)
  pub memory : short → part ≡ []

-- a scan was not done for want of memory, and the source did not fail
pub record NoScan {S : Type 0} (short : Type 0) (source source' : SourceSeen S) (part : List ℕ) : Type 0 where
  pub memory : short
  pub nothing : part ≡ []
  pub files : source'.files ≡ source.files
  pub failures : source'.failures ≡ source.failures

-- the run ends at the scan
abbrev pub ScanStops : Type 0 → {S : Type 0} → Bool → Standing → SourceSeen S → SourceSeen S → Option (List ℕ) → Option (List ℕ) → Type 0
ScanStops short why old source source' taken taken' =
    (given : Given) (before : List ℕ) → given.why ≡ why → source.files ≡ Some given.source → taken ≡ Some before
    → (part : List ℕ) × Part short before taken' part × (NoScan short source source' part ⊎ HalfScan given old source source' part)

-- a build was done, and the sink took its reply
pub record BuildTold (why : Bool) (rebuilt : Result Rebuilt Memory) (taken taken' : Option (List ℕ)) (reply : Reply) : Type 0 where
  pub is : built_reply rebuilt ≡ Some reply
  pub bytes : (before : List ℕ) → taken ≡ Some before → taken' ≡ Some (before ++ reply_bytes why reply)

-- a build was done, and the sink took a part of its reply
pub record HalfBuild (why : Bool) (rebuilt : Result Rebuilt Memory) (part : List ℕ) : Type 0 where
  pub reply : Reply
  pub is : built_reply rebuilt ≡ Some reply
  pub taken : ℕ
  pub part_is : part ≡ take taken (reply_bytes why reply)

-- the run ends at the build
abbrev pub BuildStops : Type 0 → Bool → Result Rebuilt Memory → Option (List ℕ) → Option (List ℕ) → Type 0
BuildStops short why rebuilt taken taken' =
    (before : List ℕ) → taken ≡ Some before → (part : List ℕ) × Part short before taken' part × ((IsShort rebuilt × short × (part ≡ [])) ⊎ HalfBuild why rebuilt part)

-- ---- the whole

-- When each status comes and what the output then has, what the sink took, and how the run is one of a session, where the ends tell it
pub record OneBuild {S D : Type 0} (first : Standing) (why : Bool) (was now : Stage S D) (ended : Status) : Type 0 where
  pub told : (given : Given) → was.scene.source.files ≡ Some given.source → was.scene.output.files ≡ Some given.output
      → Ended (after_scan given first) was.scene.output.files now.scene.output.files ended
  pub took : (given : Given) (before : List ℕ) → given.why ≡ why → was.scene.source.files ≡ Some given.source → was.scene.output.files ≡ Some given.output → was.sink.taken ≡ Some before
      → Took given (after_scan given first) before now.sink.taken ended
  pub run : (given : Given) (before : List ℕ) → given.why ≡ why → was.scene.source.files ≡ Some given.source → was.scene.output.files ≡ Some given.output → was.sink.taken ≡ Some before
      → OnceRun given first before was now ended
  pub no_usage : (kind : UsageKind) → ended ≡ status.Usage kind → ⊥
  pub no_input : ended ≡ status.InputFault → ⊥
  pub no_script : (number : ℕ) (kind : ScriptKind) → ended ≡ status.Script number kind → ⊥
  -- a run that did not come to build left the output alone
  pub untouched : Untouched ended → now.scene.output ≡ was.scene.output
  pub blames : Blames was now ended
  pub completes : Completes was now ended
