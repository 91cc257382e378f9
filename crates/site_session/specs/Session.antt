-- A session: what each line of a script does, and its reply. It is a fold over the lines, and does not know how the output is
-- compared.
use Rattle.std.specs.Prelude.{◌≡◌, ℕ, ℤ, ◌+◌, Bool, List, [], ◌∷◌, filter, length, max, Option, Some, None, Ok, Err, if◌then◌else◌}
use Rattle.std.specs.FinMap.{entries, empty, insert, remove, contains_key, len}
use Rattle.site_base.specs.Places.{Files, is_listed}
use Rattle.site_base.specs.declared.faults.SiteFault.{SiteFault}
use Rattle.site_base.specs.declared.settings.Settings.{Settings}
use Rattle.site_script.specs.Line.{line_number}
use Rattle.site_script.specs.declared.line.Line.{Line}
use Rattle.site_script.specs.declared.line.Line.TheVariants.{Scan, Put, Delete, Time, Build, Links, End, Eof, Bad, Failed, Memory}
use Rattle.site_script.specs.declared.line.ScriptKind.TheVariants as kind
pub use Rattle.site_session.specs.declared.reply.Reply.{Reply}
pub use Rattle.site_session.specs.declared.reply.Reply.TheVariants.{Scanned, ScanFailed, Faulty, Fine, Absent, Built, Marked, Unlisted, BadLine, Silent}
use Rattle.site_session.specs.declared.reply.Reply.TheVariants as reply
use Rattle.source_tree.specs.Put.{put_refusal}
use Rattle.source_tree.specs.Scan.{scan_fault}
use Rattle.source_tree.specs.declared.put_error.PutError.{PutError}
use Rattle.source_tree.specs.declared.put_error.PutError.TheVariants as refusal
use Rattle.out_tree.specs.Plan.{planned, removals, writes}
use Rattle.out_tree.specs.Belief.{Belief, after, all_marked, believed}
use Rattle.out_tree.specs.Device.{step_paths}
use Rattle.out_tree.specs.declared.step.Step.{Step}
use Rattle.site_session.specs.Standing.{Standing}
use Rattle.site_base.specs.declared.item_name.ItemName.{ItemName}
use Rattle.site_reader.specs.Found.{Found}
use Rattle.site_reader.specs.Sites.{site}
use Rattle.site_reader.specs.declared.site.Site.{Site}
use Rattle.site_session.specs.Full.{fault_of, full, output_in, kept_after, names_behind, names_rendered}
use Rattle.site_session.specs.Pages.{broken, pages, unseen}
use Rattle.site_session.specs.declared.build.Report.{Report}
use Rattle.site_session.specs.declared.links.LinkReport.{LinkReport}
use Rattle.site_session.specs.declared.output.Output.{Output}
use Rattle.site_session.specs.declared.output.Written.{Written}

-- the session before its first line
abbrev pub start : Settings → ℤ → Standing
start settings moment = record { files = empty; moment = moment; settings = settings; kept = empty; belief = None; base = []; scanned = empty }

-- what is given: the files of the source, those that the output has at first, and whether reasons are told
pub record Given : Type 0 where
  pub source : Files
  pub output : Files
  pub why : Bool

-- what failed at a line
pub data Event : Type 0 where
  Nothing : Event
  TheScan : Event
  TheList : Event
  TheSteps : List (List ℕ) → Event

-- a reply shows what failed
abbrev pub event_of : Reply → Event
event_of ScanFailed = TheScan
event_of Unlisted = TheList
event_of (Marked paths) = TheSteps paths
event_of (Scanned count) = Nothing
event_of (Faulty fault) = Nothing
event_of Fine = Nothing
event_of Absent = Nothing
event_of (Built report) = Nothing
event_of (BadLine number bad) = Nothing
event_of (reply.Links report) = Nothing
event_of Silent = Nothing

-- a scan that does not fail holds the source's files in place of all others, or tells their first fault
abbrev pub scan : Given → Standing → Option SiteFault → Event → Standing × Reply
scan given now None Nothing = (record now { files = given.source }, Scanned (len given.source))
scan given now (Some fault) Nothing = (now, Faulty fault)
scan given now fault TheScan = (now, ScanFailed)
scan given now fault TheList = (now, Silent)
scan given now fault (TheSteps paths) = (now, Silent)

-- a file that may not be held makes its line bad
abbrev pub refused : PutError → ℕ → Reply
refused refusal.Clash number = BadLine number kind.Clash
refused refusal.FileTooLong number = BadLine number kind.Limit
refused refusal.TooManyFiles number = BadLine number kind.Limit
refused refusal.SiteTooLong number = BadLine number kind.Limit
refused refusal.Memory number = Silent

abbrev pub put : Standing → ℕ → List ℕ → List ℕ → Option PutError → Standing × Reply
put now number path bytes None = (record now { files = insert now.files path bytes }, Fine)
put now number path bytes (Some error) = (now, refused error number)

-- the paths at which a step of a build failed
abbrev pub failed_of : Event → List (List ℕ)
failed_of (TheSteps paths) = paths
failed_of Nothing = []
failed_of TheScan = []
failed_of TheList = []

abbrev pub report : Belief → Output → Report
report belief output = record {
  rendered = output.rendered;
  reused = output.reused;
  written = length (writes belief output.written.tree);
  removed = length (removals belief output.written.tree output.written.keep);
  why = output.why;
}

abbrev pub build_reply : Belief → Output → List (List ℕ) → Reply
build_reply belief output [] = Built (report belief output)
build_reply belief output (path ∷ paths) = Marked (path ∷ paths)

-- what is removed and written, where this is believed
abbrev pub plan : Belief → Written → List Step
plan belief written = planned belief written.tree written.keep

-- the paths of these that failed, in the order in which the steps are tried
abbrev pub failed_in : List Step → List (List ℕ) → List (List ℕ)
failed_in steps failed = filter (λ path. is_listed path failed) (step_paths steps)

-- an output that has been listed is made equal to the tree, but for what failed; its addresses have the base of what it was made
abbrev pub build_listed : Standing → Output → Belief → List (List ℕ) → Standing × Reply
build_listed now output belief failed =
    (record now { belief = Some (after belief (plan belief output.written) failed); base = output.written.base }, build_reply belief output (failed_in (plan belief output.written) failed))

-- the first build whose list of the output succeeds marks every path that is there
abbrev pub build_tree : Given → Standing → Output → Option Belief → Event → Standing × Reply
build_tree given now output (Some belief) event = build_listed now output belief (failed_of event)
build_tree given now output None TheList = (now, Unlisted)
build_tree given now output None Nothing = build_listed now output (all_marked given.output) []
build_tree given now output None TheScan = build_listed now output (all_marked given.output) []
build_tree given now output None (TheSteps paths) = build_listed now output (all_marked given.output) paths

-- a build tells the first fault of the files that are held, or makes the output equal to what they stand for
abbrev pub build : Given → Standing → Found Output → Event → Standing × Reply
build given now (Err fault) event = (now, Faulty fault)
build given now (Ok output) event = build_tree given now output now.belief event

-- the site that the held files make
abbrev pub site_now : Standing → Found Site
site_now now = site now.files now.moment now.settings

-- what the held files stand for, and what is rendered for that
abbrev pub full_now : Standing → Found Output
full_now now = output_in now.files now.kept (site_now now)

-- the first fault of what the held files stand for
abbrev pub first_fault : Standing → Option SiteFault
first_fault now = fault_of (full now.files now.moment now.settings)

-- a build keeps what was rendered
abbrev pub rendered_now : Standing → Standing
rendered_now now = record now { kept = kept_after now.files now.kept (site_now now) }

-- the names of the items that a build renders
abbrev pub names_now : Standing → List ItemName
names_now now = names_rendered now.files now.kept (site_now now)

-- and those behind the first fault, some of which it may render too
abbrev pub names_past_now : Standing → List ItemName
names_past_now now = names_behind now.files now.kept (site_now now)

-- the links of what is believed of the output, and how many of its pages were not looked at before
abbrev pub links_now : Standing → LinkReport
links_now now = record { broken = broken (believed now.belief) now.base; scanned = unseen now.scanned (believed now.belief) }

-- all pages that are known are then looked at
abbrev pub linked : Standing → Standing
linked now = record now { scanned = pages (believed now.belief) }

-- what follows a line that has this number, and its reply
abbrev pub step : Given → Standing → ℕ → Line → Event → Standing × Reply
step given now number Scan event = scan given now (scan_fault (entries given.source)) event
step given now number (Put path bytes) event = put now number path bytes (put_refusal now.files path bytes)
step given now number (Delete path) event =
    (record now { files = remove now.files path }, if contains_key now.files path then Fine else Absent)
step given now number (Time seconds) event = (record now { moment = seconds }, Fine)
step given now number Build event = build given (rendered_now now) (full_now now) event
step given now number Links event = (linked now, reply.Links (links_now now))
step given now number (Bad at bad) event = (now, BadLine at bad)
step given now number End event = (now, Silent)
step given now number Eof event = (now, Silent)
step given now number Failed event = (now, Silent)
step given now number Memory event = (now, Silent)

-- at this line the session may give this reply and go on to the new standing
abbrev pub Answers : Given → Standing → ℕ → Line → Reply → Standing → Type 0
Answers given old number line reply new = step given old number line (event_of reply) ≡ (new, reply)

-- after so many lines, the session gives these replies to these lines, one each
abbrev pub Run : Given → Standing → ℕ → List Line → List Reply → Standing → Type 0
Run given old before [] [] new = new ≡ old
Run given old before (line ∷ lines) (reply ∷ replies) new =
    (mid : Standing) × Answers given old (line_number before) line reply mid × Run given mid (before + 1) lines replies new
Run given old before [] (reply ∷ replies) new = ⊥
Run given old before (line ∷ lines) [] new = ⊥

-- by how much the output's count of failures rises at least
abbrev pub output_failures : Reply → ℕ
output_failures (Marked paths) = max (length paths) 1
output_failures Unlisted = 1
output_failures (Scanned count) = 0
output_failures ScanFailed = 0
output_failures (Faulty fault) = 0
output_failures Fine = 0
output_failures Absent = 0
output_failures (Built report) = 0
output_failures (BadLine number bad) = 0
output_failures (reply.Links report) = 0
output_failures Silent = 0

-- by how much the source's count of failures rises at least
abbrev pub source_failures : Reply → ℕ
source_failures ScanFailed = 1
source_failures (Marked paths) = 0
source_failures Unlisted = 0
source_failures (Scanned count) = 0
source_failures (Faulty fault) = 0
source_failures Fine = 0
source_failures Absent = 0
source_failures (Built report) = 0
source_failures (BadLine number bad) = 0
source_failures (reply.Links report) = 0
source_failures Silent = 0
