use Rattle.read_record.proofs.NoteLaws.{none-right}
use Rattle.read_record.proofs.notes.Notes.new.Goals as goal

pub returns : goal.returns
returns c = none-right c.loop.counter c.loop.notes.items c.loop.invariant
