use Rattle.read_record.proofs.NoteLaws.{asked-right}
use Rattle.read_record.proofs.noting.asked.Goals as goal

pub returns-clause-right : goal.returns-clause-right
returns-clause-right g c =
    asked-right c.args.store.now (g.W.World.sight c.args.world.now) c.args.notes.now c.args.read.now c.requires.right (g.met.W.World.lawful c.args.world.now) c.requires.key c.requires.code c.args.reader
    (g.F.Finished.outcomes c.args.outs.now) c.agrees-found.result c.key-key.result.now c.code.result.now c.keep.new.self c.key-key.ensures c.code.ensures c.agrees-found.ensures c.keep.ensures
