-- What the reading and rendering of a build answer, before its output is touched.
use Rattle.std.specs.Prelude.{◌≡◌, List, [], length, Result, Ok, Err}
use Rattle.std.specs.FinMap.{empty}
use Rattle.memo_table.specs.Entries.{Entries}
use Rattle.site_base.specs.Places.{Files}
use Rattle.site_base.specs.declared.item_name.ItemName.{ItemName}
use Rattle.site_reader.specs.Found.{Found}
use Rattle.site_reader.specs.declared.site.Site.{Site}
use Rattle.site_reader.specs.declared.site_error.SiteError.{SiteError}
use Rattle.site_reader.specs.declared.site_error.SiteError.TheVariants as error
use Rattle.site_session.specs.Rounds.{Adds, in_order}
use Rattle.render_workers.specs.Tallies.{Grows}
use Rattle.render_workers.specs.declared.answers.Round.{Round}
use Rattle.render_workers.specs.declared.answers.RoundError.{RoundError}
use Rattle.render_workers.specs.declared.answers.RoundError.TheVariants as round_error
use Rattle.site_session.specs.Full.{kept_after, names_behind, names_rendered, output_in, written_by}
use Rattle.site_session.specs.declared.output.Output.{Output}

-- what was rendered is kept, and its names joined the tally
pub record Settled (adds : Adds) (files : Files) (kept : Entries) (found : Found Site) (new : Entries) (before after : List ItemName) : Type 0 where
  pub kept_is : new ≡ kept_after files kept found
  pub tally : adds (names_rendered files kept found) (names_behind files kept found) before after

-- what the files stand for that make this site, after which nothing is stale, or its first fault, unless memory was wanting
abbrev pub IsOutput : Adds → Files → Entries → Found Site → Result Output SiteError → Entries → List ItemName → List ItemName → Type 0
IsOutput adds files kept found (Ok output) new before after = (output_in files kept found ≡ Ok output) × Settled adds files kept found new before after × (names_rendered files new found ≡ [])
IsOutput adds files kept found (Err (error.Fault fault)) new before after = (output_in files kept found ≡ Err fault) × Settled adds files kept found new before after
IsOutput adds files kept found (Err error.Memory) new before after = Grows before after

-- the same, rendered one after another by a build that keeps nothing: as of one that would leave these entries
abbrev pub IsOutputAnew : Files → Found Site → Result Output SiteError → List ItemName → List ItemName → Type 0
IsOutputAnew files found result before after = (entries : Entries) × IsOutput in_order files empty found result entries before after

-- what a round without a fault makes of a build
abbrev pub output_by : Files → Site → Round → Output
output_by files site round =
    record { written = written_by files (record { site = site; outs = round.outs }); rendered = length round.why; reused = round.reused; why = round.why }

-- a build answers what its round did, unless memory was wanting
abbrev pub Comes : Files → Site → Result Round RoundError → Result Output SiteError → Type 0
Comes files site (Ok round) (Ok output) = output ≡ output_by files site round
Comes files site (Ok round) (Err e) = e ≡ error.Memory
Comes files site (Err (round_error.Fault fault)) (Err e) = e ≡ error.Fault fault
Comes files site (Err round_error.Memory) (Err e) = e ≡ error.Memory
Comes files site (Err e) (Ok output) = ⊥
