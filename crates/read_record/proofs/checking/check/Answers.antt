use Rattle.std.proofs.Common.{◌≡◌, sym, arith}
use Rattle.read_record.specs.declared.outcome.Checked.TheVariants as checked
use Rattle.read_record.specs.Records.{first_other}
use Rattle.read_record.proofs.PlaceLaws.{next-place, no-more}
use Rattle.read_record.proofs.RecordLaws.{carried, carried-missed}
use Rattle.read_record.proofs.checking.check.Goals as goal

pub returns-in-Other-clause-first : goal.returns-in-Other-clause-first
returns-in-Other-clause-first g c =
    let view = g.W.World.sight c.args.world.now c.args.reader (g.F.Finished.outcomes c.args.outs.now) in
    sym (next-place c.args.reads.now view c.loop-place.place c.at.result.0.now c.at.result.1.now c.at.ensures c.loop-place.invariant _ c.in-Other.ensures)

pub returns-in-Needs-clause-first : goal.returns-in-Needs-clause-first
returns-in-Needs-clause-first g c =
    let view = g.W.World.sight c.args.world.now c.args.reader (g.F.Finished.outcomes c.args.outs.now) in
    sym (next-place c.args.reads.now view c.loop-place.place c.at.result.0.now c.at.result.1.now c.at.ensures c.loop-place.invariant _ c.in-Needs.ensures)

pub loop-place-preserved : goal.loop-place-preserved
loop-place-preserved g c =
    let view = g.W.World.sight c.args.world.now c.args.reader (g.F.Finished.outcomes c.args.outs.now) in
    next-place c.args.reads.now view c.loop-place.place c.at.result.0.now c.at.result.1.now c.at.ensures c.loop-place.invariant _ c.in-Same.ensures

pub returns-clause-carries : goal.returns-clause-carries
returns-clause-carries g c h query met certified =
    let view = g.W.World.sight c.args.world.now c.args.reader (g.F.Finished.outcomes c.args.outs.now) in
    let agrees : first_other c.args.reads.now view ≡ checked.Agrees = no-more c.args.reads.now view c.loop-place.place (omega arith) c.loop-place.invariant in
    carried c.args.reads.now view agrees query met certified

pub returns-clause-carries_miss : goal.returns-clause-carries_miss
returns-clause-carries_miss g c h query key item misses there =
    let view = g.W.World.sight c.args.world.now c.args.reader (g.F.Finished.outcomes c.args.outs.now) in
    let agrees : first_other c.args.reads.now view ≡ checked.Agrees = no-more c.args.reads.now view c.loop-place.place (omega arith) c.loop-place.invariant in
    carried-missed c.args.reads.now view agrees query key item misses there
