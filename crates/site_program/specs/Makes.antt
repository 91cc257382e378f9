-- What `make` prints: the replies of a session over a made-up site, which is built, edited and built again.
use Rattle.std.specs.Prelude.{◌≡◌, ℕ, ℤ, true, false, List, [], Option, Some, None}
use Rattle.std.specs.Option.{option_or}
use Rattle.std.specs.FinMap.{empty}
use Rattle.site_base.specs.Ends.{Rose}
use Rattle.site_base.specs.declared.faults.SiteFault.{SiteFault}
use Rattle.site_base.specs.declared.settings.Settings.{Settings}
use Rattle.site_generator.specs.Generator.{edited_site, made_site}
use Rattle.site_script.specs.declared.line.Line.TheVariants as line
use Rattle.site_session.specs.Bytes.{reply_bytes}
use Rattle.site_session.specs.Session.{Given, Nothing, first_fault, start, step}
use Rattle.site_session.specs.Standing.{Standing}
use Rattle.site_session.specs.declared.reply.Reply.{Reply}
use Rattle.site_program.specs.Checks.{EndsAs, SaidBoth, verdict_status}
use Rattle.site_program.specs.Stages.{Completes, SinkSeen, Stage}
use Rattle.site_program.specs.declared.status.Status.{Status}
use Rattle.site_program.specs.declared.status.Status.TheVariants.{SinkFault}

-- an output without files, and no source
abbrev pub in_memory : Given
in_memory = record { source = empty; output = empty; why = false }

-- what follows a build at which nothing fails, and its reply
abbrev pub built : Standing → Standing × Reply
built now = step in_memory now 1 line.Build Nothing

abbrev pub build_bytes : Standing → List ℕ
build_bytes now = reply_bytes false (built now).1

-- posts of the future are wanted, whatever the moment
abbrev pub make_settings : Settings
make_settings = record { drafts = false; future = true }

-- the session that holds the made-up site
abbrev pub made : ℕ → ℕ → ℤ → Standing
made number count moment = record (start make_settings moment) { files = made_site number count }

-- the same once it was built and one post was edited
abbrev pub edited : ℕ → ℕ → ℤ → Standing
edited number count moment = record (built (made number count moment)).0 { files = edited_site number count }

-- the first fault of the site, or else of the edited one
abbrev pub make_fault : ℕ → ℕ → ℤ → Option SiteFault
make_fault number count moment = option_or (first_fault (made number count moment)) (first_fault (edited number count moment))

abbrev pub make_status : ℕ → ℕ → ℤ → Status
make_status number count moment = verdict_status (make_fault number count moment)

-- what follows a reply that tells this fault, or none
abbrev pub unless_fault : Option SiteFault → List ℕ → List ℕ
unless_fault None bytes = bytes
unless_fault (Some fault) bytes = []

-- the reply to the first build, and the reply to the second, which a fault leaves out
abbrev pub first_bytes : ℕ → ℕ → ℤ → List ℕ
first_bytes number count moment = build_bytes (made number count moment)

abbrev pub second_bytes : ℕ → ℕ → ℤ → List ℕ
second_bytes number count moment = unless_fault (first_fault (made number count moment)) (build_bytes (edited number count moment))

-- a made-up site was built, edited and built again: it ends with the first fault, unless the sink fails or memory is wanting, and the sink took the
-- replies
pub record MakeDone (number count : ℕ) (moment : ℤ) (sink sink' : SinkSeen) (ended : Status) : Type 0 where
  pub ends : EndsAs (make_status number count moment) ended
  pub took : (before : List ℕ) → sink.taken ≡ Some before → SaidBoth (first_bytes number count moment) (second_bytes number count moment) (make_status number count moment) before sink'.taken ended
  pub sink_fault : ended ≡ SinkFault → Rose sink.failures sink'.failures

-- the same, which calls neither source nor output
pub record OneMake {S D : Type 0} (number count : ℕ) (moment : ℤ) (was now : Stage S D) (ended : Status) : Type 0 where
  pub done : MakeDone number count moment was.sink now.sink ended
  pub source : now.scene.source ≡ was.scene.source
  pub output : now.scene.output ≡ was.scene.output
  pub completes : Completes was now ended
