-- Text that is written at the end of other text, within the limit of a text that is made.
use Rattle.std.specs.Prelude.{◌≡◌, ◌<◌, ◌++◌, List, ℕ, length, Result, Ok, Err}
use Rattle.site_base.specs.declared.faults.FaultKind.TheVariants.{OutputTooLong}
use Rattle.filter_base.specs.Limits.{most_text}
use Rattle.filter_base.specs.Stops.{Stop}
use Rattle.read_record.specs.declared.stop.Stop.TheVariants as stop

-- memory aside, only a piece with which there would be too much is refused
abbrev pub Refuses : List ℕ → List ℕ → Stop → Type 0
Refuses old piece (stop.Fault k) = (k ≡ OutputTooLong) × (most_text < length (old ++ piece))
Refuses old piece (stop.Needs j) = ⊥
Refuses old piece stop.Memory = Unit {0}

-- the piece stands behind all that stood there before
abbrev pub Writes : List ℕ → List ℕ → List ℕ → Result (Unit {0}) Stop → Type 0
Writes old new piece (Ok done) = new ≡ old ++ piece
Writes old new piece (Err e) = Refuses old piece e
