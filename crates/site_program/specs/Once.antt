-- When each status of one build from nothing comes, what the output then has, and what the sink then took.
use Rattle.std.specs.Prelude.{◌≡◌, ◌⊎◌, ℕ, ℤ, List, [], ◌∷◌, ◌++◌, length, Option, Some, None, Result, Ok}
use Rattle.std.specs.Option.{option_or}
use Rattle.std.specs.FinMap.{entries, len}
use Rattle.site_base.specs.Places.{Files}
use Rattle.site_base.specs.declared.faults.SiteFault.{SiteFault}
use Rattle.source_tree.specs.Scan.{scan_fault}
use Rattle.out_tree.specs.Belief.{all_marked}
use Rattle.site_session.specs.Feeds.{Shows}
use Rattle.site_session.specs.Full.{full}
use Rattle.site_session.specs.Standing.{Standing, MakesBut}
use Rattle.site_session.specs.Session.{Given, first_fault, full_now, report}
use Rattle.site_session.specs.declared.output.Output.{Output}
use Rattle.site_session.specs.declared.output.Written.{Written}
use Rattle.site_session.specs.declared.reply.Reply.{Reply}
use Rattle.site_session.specs.declared.reply.Reply.TheVariants.{Scanned, ScanFailed, Faulty, Built, Marked, Unlisted}
use Rattle.site_session.specs.Bytes.{written}
use Rattle.site_words.specs.declared.orders.Order.{Order}
use Rattle.site_words.specs.declared.faults.UsageKind.{UsageKind}
use Rattle.site_program.specs.Usage.{order_of}
use Rattle.site_program.specs.declared.usage.TopCall.TheVariants.{Once, Jobs}
use Rattle.site_program.specs.declared.status.Status.{Status}
use Rattle.site_program.specs.declared.status.Status.TheVariants.{Done, Site, Usage, SourceFault, OutFault, InputFault, SinkFault, Script, Memory}

abbrev pub once_order : List (List ℕ) → ℤ → Result Order UsageKind
once_order = order_of Once

abbrev pub jobs_order : List (List ℕ) → ℤ → Result Order UsageKind
jobs_order = order_of Jobs

-- the standing after a scan that answered a number
abbrev pub after_scan : Given → Standing → Standing
after_scan given first = record first { files = given.source }

-- the first fault of a site: of the scan of its files, or else of what they stand for
abbrev pub site_fault : Standing → Option SiteFault
site_fault now = option_or (scan_fault (entries now.files)) (first_fault now)

-- the answer to words with this usage kind, unless the sink fails or memory is wanting
abbrev pub WasUsage : UsageKind → Status → Type 0
WasUsage kind status = (status ≡ Usage kind) ⊎ ((status ≡ SinkFault) ⊎ (status ≡ Memory))

-- by the site, when each status comes after words that are a command line; a failed end and want of memory come before the others
abbrev pub Answered : Standing → Status → Type 0
Answered now Done = site_fault now ≡ None
Answered now (Site fault) = site_fault now ≡ Some fault
Answered now (OutFault count) = site_fault now ≡ None
Answered now SourceFault = Unit {0}
Answered now SinkFault = Unit {0}
Answered now Memory = Unit {0}
Answered now (Usage kind) = ⊥
Answered now InputFault = ⊥
Answered now (Script number kind) = ⊥

-- but for the paths that failed, the output is exactly what the site stands for
pub record LeftBut (failed : List (List ℕ)) (now : Standing) (told tells : Option Files) : Type 0 where
  pub written : Written
  pub stands_for : full now.files now.moment now.settings ≡ Ok written
  pub made : MakesBut failed written told tells
  pub shows : Shows now.files now.moment now.settings failed tells

-- what the output has where it is told; after a failed sink or want of memory `OnceRun` tells what is believed of it
abbrev pub Left : Standing → Option Files → Option Files → Status → Type 0
Left now told tells Done = LeftBut [] now told tells
Left now told tells (OutFault count) = ((count ≡ 0) × (tells ≡ told)) ⊎ ((failed : List (List ℕ)) × (length failed ≡ count) × LeftBut failed now told tells)
Left now told tells (Site fault) = tells ≡ told
Left now told tells SourceFault = tells ≡ told
Left now told tells SinkFault = Unit {0}
Left now told tells Memory = Unit {0}
Left now told tells (Usage kind) = ⊥
Left now told tells InputFault = ⊥
Left now told tells (Script number kind) = ⊥

-- the reply to a scan that answers a number
abbrev pub scanned : Given → Reply
scanned given = Scanned (len given.source)

-- the replies of a run that was not cut short; the first list of the output marks every path that is there
abbrev pub Replies : Given → Standing → Status → List Reply → Type 0
Replies given now Done replies = (output : Output) × (full_now now ≡ Ok output) × (replies ≡ scanned given ∷ Built (report (all_marked given.output) output) ∷ [])
Replies given now (Site fault) replies =
    ((scan_fault (entries given.source) ≡ Some fault) × (replies ≡ Faulty fault ∷ []))
    ⊎ ((scan_fault (entries given.source) ≡ None) × (replies ≡ scanned given ∷ Faulty fault ∷ []))
Replies given now SourceFault replies = replies ≡ ScanFailed ∷ []
Replies given now (OutFault count) replies =
    ((count ≡ 0) × (replies ≡ scanned given ∷ Unlisted ∷ []))
    ⊎ ((failed : List (List ℕ)) × (length failed ≡ count) × (replies ≡ scanned given ∷ Marked failed ∷ []))
Replies given now (Usage kind) replies = ⊥
Replies given now SinkFault replies = ⊥
Replies given now Memory replies = ⊥
Replies given now InputFault replies = ⊥
Replies given now (Script number kind) replies = ⊥

-- the sink took the bytes of these replies whole
pub record Replied (given : Given) (now : Standing) (status : Status) (before : List ℕ) (after : Option (List ℕ)) : Type 0 where
  pub replies : List Reply
  pub are : Replies given now status replies
  pub bytes : after ≡ Some (before ++ written given.why replies)

-- what the sink took where it is told; after a failed sink or want of memory `OnceRun` tells it
abbrev pub Took : Given → Standing → List ℕ → Option (List ℕ) → Status → Type 0
Took given now before after Done = Replied given now Done before after
Took given now before after (Site fault) = Replied given now (Site fault) before after
Took given now before after SourceFault = Replied given now SourceFault before after
Took given now before after (OutFault count) = Replied given now (OutFault count) before after
Took given now before after SinkFault = Unit {0}
Took given now before after Memory = Unit {0}
Took given now before after (Usage kind) = ⊥
Took given now before after InputFault = ⊥
Took given now before after (Script number kind) = ⊥

-- a run that did not come to build
abbrev pub Untouched : Status → Type 0
Untouched Done = ⊥
Untouched (OutFault count) = ⊥
Untouched SinkFault = ⊥
Untouched Memory = ⊥
Untouched (Site fault) = Unit {0}
Untouched (Usage kind) = Unit {0}
Untouched SourceFault = Unit {0}
Untouched InputFault = Unit {0}
Untouched (Script number kind) = Unit {0}

-- when each status comes after words that are a command line, and what the output then has
pub record Ended (now : Standing) (told tells : Option Files) (status : Status) : Type 0 where
  pub comes : Answered now status
  pub left : Left now told tells status
