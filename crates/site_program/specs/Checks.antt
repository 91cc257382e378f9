-- What a check answers of a site, and what the sink then took.
use Rattle.std.specs.Prelude.{◌≡◌, ◌⊎◌, ℕ, false, List, ◌++◌, codes, Option, Some, None}
use Rattle.std.specs.FinMap.{entries}
use Rattle.site_base.specs.Ends.{Rose}
use Rattle.site_base.specs.declared.faults.SiteFault.{SiteFault}
use Rattle.source_tree.specs.Scan.{scan_fault}
use Rattle.site_session.specs.Bytes.{fault_line, reply_bytes}
use Rattle.site_session.specs.Session.{Given, first_fault}
use Rattle.site_session.specs.Scenes.{SourceSeen}
use Rattle.site_session.specs.Standing.{Standing}
use Rattle.site_script.specs.declared.line.ScriptKind.{ScriptKind}
use Rattle.site_words.specs.declared.faults.UsageKind.{UsageKind}
use Rattle.site_program.specs.Once.{after_scan, scanned, site_fault}
use Rattle.site_program.specs.Stages.{Comes, Completes, SinkSeen, Stage}
use Rattle.site_program.specs.declared.status.Status.{Status}
use Rattle.site_program.specs.declared.status.Status.TheVariants.{Done, Site, Usage, SourceFault, OutFault, InputFault, SinkFault, Script, Memory}

-- by the site, when each status comes
abbrev pub Checked : Standing → Status → Type 0
Checked now Done = site_fault now ≡ None
Checked now (Site fault) = site_fault now ≡ Some fault
Checked now SourceFault = Unit {0}
Checked now SinkFault = Unit {0}
Checked now Memory = Unit {0}
Checked now (OutFault count) = ⊥
Checked now (Usage kind) = ⊥
Checked now InputFault = ⊥
Checked now (Script number kind) = ⊥

-- the line of a first fault, or that there is none, and what the check then ends with
abbrev pub verdict : Option SiteFault → List ℕ
verdict None = codes "clean\n"
verdict (Some fault) = fault_line fault

abbrev pub verdict_status : Option SiteFault → Status
verdict_status None = Done
verdict_status (Some fault) = Site fault

-- what is written of a site: the fault of its scan, or the number of its files and the verdict
abbrev pub check_bytes_by : Given → Standing → Option SiteFault → List ℕ
check_bytes_by given now (Some fault) = fault_line fault
check_bytes_by given now None = reply_bytes false (scanned given) ++ verdict (first_fault now)

abbrev pub check_bytes : Given → Standing → List ℕ
check_bytes given now = check_bytes_by given now (scan_fault (entries given.source))

-- what is written of a source that fails
abbrev pub failed_bytes : List ℕ
failed_bytes = codes "scan-fault\n"

abbrev pub IsFrontOf : List ℕ → List ℕ → Type 0
IsFrontOf part whole = (rest : List ℕ) × (whole ≡ part ++ rest)

-- what the sink took where it is told
abbrev pub CheckTook : Given → Standing → List ℕ → Option (List ℕ) → Status → Type 0
CheckTook given now before after Done = after ≡ Some (before ++ check_bytes given now)
CheckTook given now before after (Site fault) = after ≡ Some (before ++ check_bytes given now)
CheckTook given now before after SourceFault = after ≡ Some (before ++ failed_bytes)
CheckTook given now before after SinkFault = (part : List ℕ) × (IsFrontOf part (check_bytes given now) ⊎ IsFrontOf part failed_bytes) × (after ≡ Some (before ++ part))
CheckTook given now before after Memory = (after ≡ Some before) ⊎ ((scan_fault (entries given.source) ≡ None) × (after ≡ Some (before ++ reply_bytes false (scanned given))))
CheckTook given now before after (OutFault count) = ⊥
CheckTook given now before after (Usage kind) = ⊥
CheckTook given now before after InputFault = ⊥
CheckTook given now before after (Script number kind) = ⊥

-- the check of what a session's first scan finds: when each status comes and what the sink took, where the ends tell it
pub record CheckDone {S : Type 0} (first : Standing) (source source' : SourceSeen S) (sink sink' : SinkSeen) (ended : Status) : Type 0 where
  pub told : (given : Given) → source.files ≡ Some given.source → Checked (after_scan given first) ended
  pub took : (given : Given) (before : List ℕ) → source.files ≡ Some given.source → sink.taken ≡ Some before → CheckTook given (after_scan given first) before sink'.taken ended
  pub no_usage : (kind : UsageKind) → ended ≡ Usage kind → ⊥
  pub no_input : ended ≡ InputFault → ⊥
  pub no_script : (number : ℕ) (kind : ScriptKind) → ended ≡ Script number kind → ⊥
  pub no_output : (count : ℕ) → ended ≡ OutFault count → ⊥
  pub source_fault : ended ≡ SourceFault → Rose source.failures source'.failures
  pub source_steady : Comes ended → source'.failures ≡ source.failures
  pub sink_fault : ended ≡ SinkFault → Rose sink.failures sink'.failures

-- the same, which leaves the output alone
pub record OneCheck {S D : Type 0} (first : Standing) (was now : Stage S D) (ended : Status) : Type 0 where
  pub done : CheckDone first was.scene.source now.scene.source was.sink now.sink ended
  pub output : now.scene.output ≡ was.scene.output
  pub completes : Completes was now ended

-- ---- parts of a check

-- one of these ends
abbrev pub EndsAs : Status → Status → Type 0
EndsAs wanted status = (status ≡ wanted) ⊎ ((status ≡ SinkFault) ⊎ (status ≡ Memory))

-- what the sink took of a text, by how its writing ended
abbrev pub Said : List ℕ → Status → List ℕ → Option (List ℕ) → Status → Type 0
Said whole wanted before after status =
    ((status ≡ wanted) × (after ≡ Some (before ++ whole)))
    ⊎ (((status ≡ SinkFault) × ((part : List ℕ) × IsFrontOf part whole × (after ≡ Some (before ++ part))))
    ⊎ ((status ≡ Memory) × (after ≡ Some before)))

-- the same of a line and of what follows it
abbrev pub SaidBoth : List ℕ → List ℕ → Status → List ℕ → Option (List ℕ) → Status → Type 0
SaidBoth first second wanted before after status =
    ((status ≡ wanted) × (after ≡ Some (before ++ (first ++ second))))
    ⊎ (((status ≡ SinkFault) × ((part : List ℕ) × IsFrontOf part (first ++ second) × (after ≡ Some (before ++ part))))
    ⊎ ((status ≡ Memory) × ((after ≡ Some before) ⊎ (after ≡ Some (before ++ first)))))
