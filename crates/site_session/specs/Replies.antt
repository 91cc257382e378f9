-- The reply that an answer of a session's call goes with; want of memory has none.
use Rattle.std.specs.Prelude.{◌≡◌, ◌⊎◌, ℕ, ◌+◌, Bool, true, false, List, [], ◌∷◌, map, Option, Some, None, Result, Ok, Err}
use Rattle.site_base.specs.declared.errors.Memory.{Memory}
use Rattle.site_script.specs.Line.{line_number}
use Rattle.site_script.specs.declared.line.Line.{Line}
use Rattle.site_script.specs.declared.line.Line.TheVariants as line
use Rattle.source_tree.specs.declared.scan_error.ScanError.{ScanError}
use Rattle.source_tree.specs.declared.scan_error.ScanError.TheVariants as scan_error
use Rattle.site_session.specs.Session.{Given, event_of, plan, step, Reply, Scanned, ScanFailed, Faulty, Fine, Absent, Built, Marked, Unlisted, BadLine, Silent, output_failures, source_failures}
use Rattle.site_base.specs.Places.{Files}
use Rattle.out_tree.specs.Belief.{Belief, all_marked}
use Rattle.out_tree.specs.Device.{Calls}
use Rattle.out_tree.specs.declared.step.Call.{Call}
use Rattle.out_tree.specs.declared.step.Call.TheVariants as call
use Rattle.render_workers.specs.Tallies.{Grows}
use Rattle.site_session.specs.Standing.{Standing, Holds, MakesBut, MarksExactly}
use Rattle.site_session.specs.Feeds.{Shows}
use Rattle.site_session.specs.Full.{full}
use Rattle.site_session.specs.Rounds.{in_any_order}
use Rattle.site_session.specs.Scenes.{OutputSeen, SourceSeen, Scene, Rises}
use Rattle.site_session.specs.Settled.{IsSettled}
use Rattle.site_session.specs.Tallied.{LineTallied}
use Rattle.site_session.specs.declared.output.Written.{Written}
use Rattle.site_session.specs.declared.reply.Reply.TheVariants as replies
use Rattle.site_session.specs.declared.build.Rebuilt.{Rebuilt}
use Rattle.site_session.specs.declared.build.Rebuilt.TheVariants as rebuilt

abbrev pub scan_reply : Result ℕ ScanError → Option Reply
scan_reply (Ok count) = Some (Scanned count)
scan_reply (Err scan_error.Failed) = Some ScanFailed
scan_reply (Err (scan_error.Limit fault)) = Some (Faulty fault)
scan_reply (Err scan_error.Memory) = None

abbrev pub built_reply : Result Rebuilt Memory → Option Reply
built_reply (Ok (rebuilt.Built report)) = Some (Built report)
built_reply (Ok (rebuilt.Fault fault)) = Some (Faulty fault)
built_reply (Ok (rebuilt.Marked paths)) = Some (Marked paths)
built_reply (Ok rebuilt.Unlisted) = Some Unlisted
built_reply (Err error) = None

-- a build that took place sets the base of the addresses
abbrev pub based_by : Result Rebuilt Memory → (base made : List ℕ) → List ℕ
based_by (Ok (rebuilt.Built report)) base made = made
based_by (Ok (rebuilt.Marked paths)) base made = made
based_by (Ok (rebuilt.Fault fault)) base made = base
based_by (Ok rebuilt.Unlisted) base made = base
based_by (Err error) base made = base

-- the build took place, and the writes and removals of these paths failed
abbrev pub FailedAt : Result Rebuilt Memory → List (List ℕ) → Type 0
FailedAt (Ok (rebuilt.Built report)) failed = failed ≡ []
FailedAt (Ok (rebuilt.Marked paths)) failed = failed ≡ paths
FailedAt (Ok (rebuilt.Fault fault)) failed = ⊥
FailedAt (Ok rebuilt.Unlisted) failed = ⊥
FailedAt (Err error) failed = ⊥

-- what the held files stand for is what the output was made, but for these paths, and these are marked
pub record Leaves (now : Standing) (failed : List (List ℕ)) (told tells : Option Files) (belief : Option Belief) : Type 0 where
  pub written : Written
  pub stands_for : full now.files now.moment now.settings ≡ Ok written
  pub made : MakesBut failed written told tells
  pub shows : Shows now.files now.moment now.settings failed tells
  pub marked : MarksExactly failed written.keep belief

-- what a build that is replied so has left; another reply tells nothing of the output
abbrev pub LeavesBy : Standing → Reply → Option Files → Option Files → Option Belief → Type 0
LeavesBy now (Built report) told tells belief = Leaves now [] told tells belief
LeavesBy now (Marked paths) told tells belief = Leaves now paths told tells belief
LeavesBy now (Scanned count) told tells belief = Unit {0}
LeavesBy now ScanFailed told tells belief = Unit {0}
LeavesBy now (Faulty fault) told tells belief = Unit {0}
LeavesBy now Fine told tells belief = Unit {0}
LeavesBy now Absent told tells belief = Unit {0}
LeavesBy now Unlisted told tells belief = tells ≡ told
LeavesBy now (BadLine number kind) told tells belief = Unit {0}
LeavesBy now (replies.Links report) told tells belief = Unit {0}
LeavesBy now Silent told tells belief = Unit {0}

-- a reply to a line that has called the output
abbrev pub has_called_output : Reply → Bool
has_called_output (Built report) = true
has_called_output (Marked paths) = true
has_called_output Unlisted = true
has_called_output (Scanned count) = false
has_called_output ScanFailed = false
has_called_output (Faulty fault) = false
has_called_output Fine = false
has_called_output Absent = false
has_called_output (BadLine number kind) = false
has_called_output (replies.Links report) = false
has_called_output Silent = false

-- a reply that tells of no output
pub record IsQuiet (reply : Reply) : Type 0 where
  pub called : has_called_output reply ≡ false
  pub failures : output_failures reply ≡ 0

-- the calls of a build on the output: a list where it was not listed, and then each step of the plan
abbrev pub build_calls : Option Belief → Files → Written → List Call
build_calls (Some belief) first written = map call.Try (plan belief written)
build_calls None first written = call.List ∷ map call.Try (plan (all_marked first) written)

-- where memory was wanting: no call, or the first list
abbrev pub ListsAtMost : Option Belief → Option (List Call) → Option (List Call) → Type 0
ListsAtMost belief old new = Calls old new [] ⊎ ((belief ≡ None) × Calls old new (call.List ∷ []))

-- where the output tells its calls, how a build called it that ended so; one that gives no list is called for nothing else
abbrev pub Called : Option Belief → Files → Written → Result Rebuilt Memory → Option (List Call) → Option (List Call) → Type 0
Called belief first written (Ok (rebuilt.Built report)) old new = Calls old new (build_calls belief first written)
Called belief first written (Ok (rebuilt.Marked paths)) old new = Calls old new (build_calls belief first written)
Called belief first written (Ok rebuilt.Unlisted) old new = Calls old new (call.List ∷ [])
Called belief first written (Ok (rebuilt.Fault fault)) old new = Calls old new []
Called belief first written (Err error) old new = ListsAtMost belief old new

-- a build called the output as what the held files stand for asks
pub record BuildsBy (now : Standing) (first : Files) (old new : Option (List Call)) : Type 0 where
  pub written : Written
  pub stands_for : full now.files now.moment now.settings ≡ Ok written
  pub calls : Calls old new (build_calls now.belief first written)

-- where the output tells its calls, how a line called it that is replied so; only a build calls it
abbrev pub CalledBy : Standing → Files → Reply → Option (List Call) → Option (List Call) → Type 0
CalledBy now first (Built report) old new = BuildsBy now first old new
CalledBy now first (Marked paths) old new = BuildsBy now first old new
CalledBy now first Unlisted old new = Calls old new (call.List ∷ [])
CalledBy now first (Scanned count) old new = Calls old new []
CalledBy now first ScanFailed old new = Calls old new []
CalledBy now first (Faulty fault) old new = Calls old new []
CalledBy now first Fine old new = Calls old new []
CalledBy now first Absent old new = Calls old new []
CalledBy now first (BadLine number kind) old new = Calls old new []
CalledBy now first (replies.Links report) old new = Calls old new []
CalledBy now first Silent old new = Calls old new []

-- what a line that is replied so has done to the output, of which this is believed then, and is true: a build leaves what `LeavesBy` says, by the calls
-- of `CalledBy`; an output that was not called is the same value, and so is one for which nothing was to be done; its count of failures rose by what
-- the reply shows
pub record OutputLeft {D : Type 0} (now : Standing) (reply : Reply) (belief : Option Belief) (before after : OutputSeen D) : Type 0 where
  pub holds : (first : Files) → Holds before.files now.belief first → Holds after.files belief first
  pub built : (first : Files) → Holds before.files now.belief first → LeavesBy now reply before.files after.files belief
  pub called : (first : Files) → Holds before.files now.belief first → CalledBy now first reply before.calls after.calls
  pub untouched : has_called_output reply ≡ false → after ≡ before
  pub idle : IsSettled now → after ≡ before
  pub failed : Rises (output_failures reply) before.failures after.failures

-- what a line that is replied so has done to the source: only a scan touches it, its files stay, and its count of failures rose by what the reply shows
pub record SourceLeft {S : Type 0} (at : Line) (reply : Reply) (before after : SourceSeen S) : Type 0 where
  pub untouched : (at ≡ line.Scan → ⊥) → after ≡ before
  pub files : after.files ≡ before.files
  pub failed : Rises (source_failures reply) before.failures after.failures

-- what a line has left that is replied so; what it rendered has joined the tally
pub record LineLeaves {S D : Type 0} (now : Standing) (at : Line) (reply : Reply) (belief : Option Belief) (before after : Scene S D) : Type 0 where
  pub output : OutputLeft now reply belief before.output after.output
  pub source : SourceLeft at reply before.source after.source
  pub tallied : LineTallied in_any_order now at before.tally after.tally

-- for want of memory a build was not done: it listed the output at most, and no end failed
pub record OutputSpared {D : Type 0} (belief : Option Belief) (before after : OutputSeen D) : Type 0 where
  pub files : after.files ≡ before.files
  pub called : (first : Files) → Holds before.files belief first → ListsAtMost belief before.calls after.calls
  pub failures : after.failures ≡ before.failures

-- for want of memory a line was not done: only a build may have touched output and tally, and only a scan the source, and no end failed
pub record LineSpares {S D : Type 0} (now : Standing) (at : Line) (before after : Scene S D) : Type 0 where
  pub output : OutputSpared now.belief before.output after.output
  pub output_untouched : (at ≡ line.Build → ⊥) → after.output ≡ before.output
  pub tallied : Grows before.tally after.tally
  pub untallied : (at ≡ line.Build → ⊥) → after.tally ≡ before.tally
  pub source_untouched : (at ≡ line.Scan → ⊥) → after.source ≡ before.source
  pub source_files : after.source.files ≡ before.source.files
  pub source_failures : after.source.failures ≡ before.source.failures

-- after so many lines, the session gives these replies to these lines, and each has left what it may
abbrev pub AllLeave : {S D : Type 0} → Given → Standing → ℕ → List Line → List Reply → Scene S D → Scene S D → Type 0
AllLeave given old before [] replies first last = last ≡ first
AllLeave given old before (line ∷ lines) [] first last = ⊥
AllLeave {S} {D} given old before (line ∷ lines) (reply ∷ replies) first last =
    let new = (step given old (line_number before) line (event_of reply)).0 in
    (there : Scene S D) × LineLeaves old line reply new.belief first there × AllLeave given new (before + 1) lines replies there last
