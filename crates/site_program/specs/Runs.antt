-- Whole runs of a session, and runs that are cut short.
use Rattle.std.specs.Prelude.{◌≡◌, ◌⊎◌, ℕ, List, [], ◌∷◌, ◌++◌, length, take, Option, Some}
use Rattle.site_script.specs.Line.{line_number}
use Rattle.site_script.specs.declared.line.Line.{Line}
use Rattle.site_script.specs.declared.line.Line.TheVariants as line
use Rattle.site_session.specs.Standing.{Standing, Holds}
use Rattle.site_session.specs.Session.{Given, Answers, Run}
use Rattle.site_session.specs.Replies.{LineLeaves, LineSpares, AllLeave}
use Rattle.site_session.specs.Scenes.{Scene}
use Rattle.site_session.specs.declared.reply.Reply.{Reply}
use Rattle.site_session.specs.declared.reply.Reply.TheVariants.{Scanned, ScanFailed, Faulty, Marked, Unlisted}
use Rattle.site_session.specs.Bytes.{reply_bytes, written}
use Rattle.site_program.specs.Stages.{Stage}
use Rattle.site_program.specs.declared.status.Status.{Status}
use Rattle.site_program.specs.declared.status.Status.TheVariants.{Done, Site, Usage, SourceFault, OutFault, InputFault, SinkFault, Script, Memory}

abbrev pub status_number : Status → ℕ
status_number Done = 0
status_number (Site fault) = 1
status_number (Usage kind) = 2
status_number SourceFault = 3
status_number (OutFault count) = 4
status_number InputFault = 5
status_number SinkFault = 6
status_number (Script number kind) = 7
status_number Memory = 8

-- what a build, or a scan that answers no number, ends with
abbrev pub reply_status : Reply → Status
reply_status (Faulty fault) = Site fault
reply_status ScanFailed = SourceFault
reply_status (Marked paths) = OutFault (length paths)
reply_status Unlisted = OutFault 0
reply_status _ = Done

-- a line that was not done for want of memory; what is believed of the output stays true
pub record NotDone (short : Type 0) {S D : Type 0} (given : Given) (now : Standing) (line : Line) (before after : Scene S D) (part : List ℕ) : Type 0 where
  pub memory : short
  pub spares : LineSpares now line before after
  pub output : Holds after.output.files now.belief given.output
  pub nothing : part ≡ []

-- a line that was done, without its whole reply
pub record HalfTold {S D : Type 0} (given : Given) (old : Standing) (number : ℕ) (line : Line) (before after : Scene S D) (part : List ℕ) : Type 0 where
  pub reply : Reply
  pub new : Standing
  pub answers : Answers given old number line reply new
  pub output : Holds after.output.files new.belief given.output
  pub leaves : LineLeaves old line reply new.belief before after
  pub taken : ℕ
  pub part_is : part ≡ take taken (reply_bytes given.why reply)

-- a line at which a run was cut short: it was not done, or done without its whole reply
abbrev pub Stopped : Type 0 → {S D : Type 0} → Given → Standing → ℕ → Line → Scene S D → Scene S D → List ℕ → Type 0
Stopped short given old number line before after part = NotDone short given old line before after part ⊎ HalfTold given old number line before after part

-- the script of one build from nothing, which is as long as the replies tell: the build follows where the scan answers a number
abbrev pub once_lines : List Reply → List Line
once_lines (Scanned count ∷ replies) = line.Scan ∷ line.Build ∷ []
once_lines _ = line.Scan ∷ []

-- lines of the script of one build were done and their replies taken, and at the next the run was cut short
pub record Cut {S D : Type 0} (given : Given) (first : Standing) (before : List ℕ) (was now : Stage S D) (status : Status) : Type 0 where
  pub done : List Line
  pub next : Line
  pub replies : List Reply
  pub mid : Standing
  pub there : Scene S D
  pub part : List ℕ
  pub whole : once_lines replies ≡ done ++ next ∷ []
  pub run : Run given first 0 done replies mid
  pub leave : AllLeave given first 0 done replies was.scene there
  pub stopped : Stopped (status ≡ Memory) given mid (line_number (length done)) next there now.scene part
  pub bytes : now.sink.taken ≡ Some (before ++ (written given.why replies ++ part))

-- what a run that was cut short ends with; without memory no part of a reply was taken
pub record IsCut (status : Status) (part : List ℕ) : Type 0 where
  pub cases : (status ≡ SinkFault) ⊎ (status ≡ Memory)
  pub memory : status ≡ Memory → part ≡ []

-- the status of the last reply
abbrev pub once_status : List Reply → Status
once_status [] = Done
once_status (reply ∷ []) = reply_status reply
once_status (reply ∷ second ∷ replies) = reply_status second

-- the script was done whole, its replies taken, and what is believed at its end is true of the output
pub record OnceWhole {S D : Type 0} (given : Given) (first : Standing) (before : List ℕ) (was now : Stage S D) (status : Status) : Type 0 where
  pub replies : List Reply
  pub last : Standing
  pub run : Run given first 0 (once_lines replies) replies last
  pub leave : AllLeave given first 0 (once_lines replies) replies was.scene now.scene
  pub bytes : now.sink.taken ≡ Some (before ++ written given.why replies)
  pub output : Holds now.scene.output.files last.belief given.output
  pub status_is : status ≡ once_status replies

pub data OnceRun {S D : Type 0} (given : Given) (first : Standing) (before : List ℕ) (was now : Stage S D) (status : Status) : Type 0 where
  Whole : OnceWhole given first before was now status → OnceRun given first before was now status
  CutShort : (cut : Cut given first before was now status) → IsCut status cut.part → OnceRun given first before was now status
