use Rattle.read_record.proofs.NoteLaws.{told-same, told-other}
use Rattle.read_record.proofs.noting.found.Goals as goal

pub returns-in-Agrees-clause-found : goal.returns-in-Agrees-clause-found
returns-in-Agrees-clause-found g c =
    told-same c.args.store.now (g.W.World.sight c.args.world.now) c.args.notes.now c.args.read.now c.requires.right c.of.result c.of.ensures c.args.reader (g.F.Finished.outcomes c.args.outs.now) c.in-Agrees.is

pub returns-in-Differs-clause-found : goal.returns-in-Differs-clause-found
returns-in-Differs-clause-found g c =
    told-other c.args.store.now (g.W.World.sight c.args.world.now) c.args.notes.now c.args.read.now c.requires.right c.of.result c.of.ensures c.args.reader (g.F.Finished.outcomes c.args.outs.now) c.in-Differs.is
