-- Whole runs of a session over the bytes of a script, and how they end.
use Rattle.std.specs.Prelude.{◌≡◌, ◌⊎◌, All, ℕ, ◌-◌, ◌^◌, min, sum_by, Bool, false, List, [], ◌∷◌, ◌++◌, length, Option, Some, None}
use Rattle.site_script.specs.Line.{line_number, ends}
use Rattle.site_script.specs.Script.{Taken, first_line, IsCutOff, IsFirst, IsFirstOr}
use Rattle.site_script.specs.declared.line.ScriptKind.{ScriptKind}
use Rattle.site_script.specs.declared.line.Line.{Line}
use Rattle.site_script.specs.declared.line.Line.TheVariants as line
use Rattle.site_session.specs.Standing.{Standing, Holds}
use Rattle.site_session.specs.Session.{Given, Answers, Run, source_failures, output_failures}
use Rattle.site_session.specs.Replies.{LineLeaves, AllLeave}
use Rattle.site_session.specs.Scenes.{Rises, Scene}
use Rattle.site_session.specs.declared.reply.Reply.{Reply}
use Rattle.site_session.specs.declared.reply.Reply.TheVariants.{BadLine}
use Rattle.site_session.specs.Bytes.{reply_bytes, written}
use Rattle.site_program.specs.Runs.{Stopped, IsCut}
use Rattle.site_program.specs.Stages.{Blames, BlamesInput, Completes, Stayed, InputSeen, Stage}
use Rattle.site_program.specs.declared.status.Status.{Status}
use Rattle.site_program.specs.declared.status.Status.TheVariants.{Done, Site, Usage, SourceFault, OutFault, SinkFault, InputFault, Script, Memory}

-- a bad line ends the session
abbrev pub bad_status : Reply → Option Status
bad_status (BadLine number kind) = Some (Script number kind)
bad_status _ = None

-- the counts of failures rose by at least what the replies show, and stayed where they show none
pub record Counted {S D : Type 0} (was now : Scene S D) (replies : List Reply) : Type 0 where
  pub source : Rises (sum_by source_failures replies) was.source.failures now.source.failures
  pub output : Rises (sum_by output_failures replies) was.output.failures now.output.failures

-- of this text these lines were taken and done, with these replies, and this is left of it; none of the lines ends the script,
-- no reply is that of a bad line, and each line has left of the scene what its reply says
pub record Gone {S D : Type 0} (given : Given) (first : Standing) (text : List ℕ) (lines : List Line) (replies : List Reply) (now : Standing) (left : List ℕ) (was there : Scene S D) : Type 0 where
  pub taken : Taken 0 text lines left
  pub run : Run given first 0 lines replies now
  pub leave : AllLeave given first 0 lines replies was there
  pub none_ends : All (λ at. ends at ≡ false) lines
  pub none_bad : All (λ reply. bad_status reply ≡ None) replies
  pub counted : Counted was there replies

-- the same, with all replies written
pub record Going {S D : Type 0} (given : Given) (first : Standing) (text before : List ℕ) (lines : List Line) (replies : List Reply) (now : Standing) (left : List ℕ) (was there : Stage S D) : Type 0 where
  pub gone : Gone given first text lines replies now left was.scene there.scene
  pub bytes : there.sink.taken ≡ Some (before ++ written given.why replies)
  pub output : Holds there.scene.output.files now.belief given.output

-- the line that comes next, and what follows it
abbrev pub next_of : List Line → List ℕ → Line × List ℕ
next_of lines left = first_line (line_number (length lines)) left

-- how a session ends that takes this text
pub data SessionRun {S D : Type 0} (given : Given) (first : Standing) (text before : List ℕ) (unread : Option (List ℕ)) (was now : Stage S D) (status : Status) : Type 0 where
  -- at `end`, with what follows it unread, or at the end of the input
  AtEnd : (lines : List Line) (replies : List Reply) (last : Standing) (left : List ℕ) → Going given first text before lines replies last left was now
      → ((next_of lines left).0 ≡ line.End) ⊎ ((next_of lines left).0 ≡ line.Eof) → unread ≡ Some (next_of lines left).1 → status ≡ Done
      → SessionRun given first text before unread was now status
  -- at the first bad line, which changed nothing and whose reply was written; no byte behind it was taken
  AtBad : (lines : List Line) (replies : List Reply) (last : Standing) (left : List ℕ) (number : ℕ) (kind : ScriptKind) → Gone given first text lines replies last left was.scene now.scene
      → IsFirst (next_of lines left) left (next_of lines left).0 unread → Answers given last (line_number (length lines)) (next_of lines left).0 (BadLine number kind) last
      → now.sink.taken ≡ Some (before ++ (written given.why replies ++ reply_bytes given.why (BadLine number kind))) → Holds now.scene.output.files last.belief given.output
      → status ≡ Script number kind → SessionRun given first text before unread was now status
  -- the input failed: all lines that the bytes taken hold whole were done
  AtInput : (lines : List Line) (replies : List Reply) (last : Standing) (left : List ℕ) → Going given first text before lines replies last left was now
      → IsCutOff left unread → status ≡ InputFault → SessionRun given first text before unread was now status
  -- the sink failed, or memory was wanting, at the line that came next; no byte behind it was taken
  AtLine : (lines : List Line) (replies : List Reply) (mid : Standing) (left part : List ℕ) (there : Scene S D) (at : Line) → Gone given first text lines replies mid left was.scene there
      → IsFirstOr (next_of lines left) left at unread → Stopped (status ≡ Memory) given mid (line_number (length lines)) (next_of lines left).0 there now.scene part
      → now.sink.taken ≡ Some (before ++ (written given.why replies ++ part)) → IsCut status part
      → SessionRun given first text before unread was now status

-- a session that goes on: its lines and replies so far
pub record SoFar {S D : Type 0} (given : Given) (first : Standing) (text before : List ℕ) (now : Standing) (number : ℕ) (unread : Option (List ℕ)) (was there : Stage S D) : Type 0 where
  pub lines : List Line
  pub replies : List Reply
  pub left : List ℕ
  pub going : Going given first text before lines replies now left was there
  pub unread_is : unread ≡ Some left
  pub number_is : number ≡ min (length lines) (2 ^ 64 - 1)

-- neither the input nor memory failed
abbrev pub IsRead : Line → Type 0
IsRead at = (at ≡ line.Failed → ⊥) × (at ≡ line.Memory → ⊥)

-- nothing was done, and source, output and tally are the same values
pub record Undone {S D : Type 0} (given : Given) (old : Standing) (before : List ℕ) (was now : Stage S D) : Type 0 where
  pub bytes : now.sink.taken ≡ Some before
  pub output : Holds now.scene.output.files old.belief given.output
  pub same : now.scene ≡ was.scene

-- the line could not be read for want of memory, or it was cut short
abbrev pub Halted : {S D : Type 0} → Given → Standing → ℕ → Line → List ℕ → Stage S D → Stage S D → Status → Type 0
Halted given old number at before was now status =
    ((at ≡ line.Memory) × (status ≡ Memory) × Undone given old before was now)
    ⊎ (IsRead at × ((part : List ℕ) × Stopped (status ≡ Memory) given old number at was.scene now.scene part × (now.sink.taken ≡ Some (before ++ part)) × IsCut status part))

-- a bad line: it is replied so, and source, output and tally are the same values
pub record TellsBad {S D : Type 0} (given : Given) (old : Standing) (number : ℕ) (at : Line) (before : List ℕ) (new : Standing) (was now : Stage S D) (bad : ℕ) (kind : ScriptKind) : Type 0 where
  pub is_read : IsRead at
  pub answers : Answers given old number at (BadLine bad kind) new
  pub bytes : now.sink.taken ≡ Some (before ++ reply_bytes given.why (BadLine bad kind))
  pub output : Holds now.scene.output.files new.belief given.output
  pub same : now.scene ≡ was.scene

-- a line at which the session ends
abbrev pub EndsAt : {S D : Type 0} → Given → Standing → ℕ → Line → List ℕ → Standing → Stage S D → Stage S D → Status → Type 0
EndsAt given old number at before new was now Done = ((at ≡ line.End) ⊎ (at ≡ line.Eof)) × Undone given old before was now
EndsAt given old number at before new was now InputFault = (at ≡ line.Failed) × Undone given old before was now
EndsAt given old number at before new was now (Script bad kind) = TellsBad given old number at before new was now bad kind
EndsAt given old number at before new was now SinkFault = Halted given old number at before was now SinkFault
EndsAt given old number at before new was now Memory = Halted given old number at before was now Memory
EndsAt given old number at before new was now (Site fault) = ⊥
EndsAt given old number at before new was now (Usage kind) = ⊥
EndsAt given old number at before new was now SourceFault = ⊥
EndsAt given old number at before new was now (OutFault count) = ⊥

-- a line after which the session goes on, as neither it nor its reply ends it
pub record GoesOn {S D : Type 0} (given : Given) (old : Standing) (number : ℕ) (at : Line) (before : List ℕ) (new : Standing) (was now : Stage S D) : Type 0 where
  pub reply : Reply
  pub goes : ends at ≡ false
  pub good : bad_status reply ≡ None
  pub answers : Answers given old number at reply new
  pub bytes : now.sink.taken ≡ Some (before ++ reply_bytes given.why reply)
  pub leaves : LineLeaves old at reply new.belief was.scene now.scene

-- a session blames neither source nor output in its status
abbrev pub EndsSession : Status → Type 0
EndsSession Done = Unit {0}
EndsSession InputFault = Unit {0}
EndsSession SinkFault = Unit {0}
EndsSession (Script number kind) = Unit {0}
EndsSession Memory = Unit {0}
EndsSession (Site fault) = ⊥
EndsSession (Usage kind) = ⊥
EndsSession SourceFault = ⊥
EndsSession (OutFault count) = ⊥

-- a session that takes the script on its input: it does the lines one after another, tells what it did, and leaves each end as the replies say; it
-- blames the input exactly where that failed
pub record OneSession {S D I : Type 0} (first : Standing) (why : Bool) (was now : Stage S D) (input input' : InputSeen I) (ended : Status) : Type 0 where
  pub run : (given : Given) (text before : List ℕ) → given.why ≡ why → was.scene.source.files ≡ Some given.source → was.scene.output.files ≡ Some given.output
      → input.left ≡ Some text → was.sink.taken ≡ Some before → SessionRun given first text before input'.left was now ended
  pub status : EndsSession ended
  pub blames : Blames was now ended
  pub blames_input : BlamesInput input input' ended
  pub input_steady : (ended ≡ InputFault → ⊥) → input'.failures ≡ input.failures
  pub completes : Stayed input.failures input'.failures → Completes was now ended
