-- What is rendered, as a tally has it.
use Rattle.std.specs.Prelude.{◌≡◌, List, Result, Ok, Err}
use Rattle.render_workers.specs.Tallies.{Grows}
use Rattle.site_base.specs.declared.errors.Memory.{Memory}
use Rattle.site_base.specs.declared.item_name.ItemName.{ItemName}
use Rattle.site_script.specs.declared.line.Line.{Line}
use Rattle.site_script.specs.declared.line.Line.TheVariants as line
use Rattle.site_session.specs.Rounds.{Adds}
use Rattle.site_session.specs.Session.{names_now, names_past_now}
use Rattle.site_session.specs.Standing.{Standing}
use Rattle.site_session.specs.declared.build.Rebuilt.{Rebuilt}

-- what a build adds to the tally; where memory is wanting, some names at its end
abbrev pub Tallied : Adds → Standing → Result Rebuilt Memory → List ItemName → List ItemName → Type 0
Tallied adds now (Ok rebuilt) before after = adds (names_now now) (names_past_now now) before after
Tallied adds now (Err error) before after = Grows before after

-- and what a line adds
abbrev pub LineTallied : Adds → Standing → Line → List ItemName → List ItemName → Type 0
LineTallied adds now line.Build before after = adds (names_now now) (names_past_now now) before after
LineTallied adds now line.Links before after = after ≡ before
LineTallied adds now line.Scan before after = after ≡ before
LineTallied adds now (line.Put path bytes) before after = after ≡ before
LineTallied adds now (line.Delete path) before after = after ≡ before
LineTallied adds now (line.Time seconds) before after = after ≡ before
LineTallied adds now (line.Bad at bad) before after = after ≡ before
LineTallied adds now line.End before after = after ≡ before
LineTallied adds now line.Eof before after = after ≡ before
LineTallied adds now line.Failed before after = after ≡ before
LineTallied adds now line.Memory before after = after ≡ before
