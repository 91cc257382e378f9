use Rattle.std.proofs.Common.{◌≡◌, ◌≤◌, length, sym, arith}
use Rattle.read_record.specs.declared.outcome.Checked.TheVariants as checked
use Rattle.read_record.specs.Stores.{resolved}
use Rattle.read_record.specs.Records.{first_other}
use Rattle.read_record.proofs.StoreLaws.{has_at, lent-at, length-resolved}
use Rattle.read_record.proofs.PlaceLaws.{next-place, no-more}
use Rattle.read_record.proofs.RecordLaws.{carried, carried-missed}
use Rattle.read_record.proofs.number_checking.check_numbers.Goals as goal

pub key-requires : goal.key-requires
key-requires g c = (has_at c.args.store.now c.args.reads.now c.loop-place.place c.at-read.result.now c.requires.held c.at-read.ensures).0

pub code-requires : goal.code-requires
code-requires g c = (has_at c.args.store.now c.args.reads.now c.loop-place.place c.at-read.result.now c.requires.held c.at-read.ensures).1

pub returns-in-Other-clause-first : goal.returns-in-Other-clause-first
returns-in-Other-clause-first g c =
    let view = g.W.World.sight c.args.world.now c.args.reader (g.F.Finished.outcomes c.args.outs.now) in
    let reads = resolved c.args.store.now c.args.reads.now in
    let key = c.key.result.now in
    let code = c.code.result.now in
    let at = lent-at c.args.store.now c.args.reads.now c.loop-place.place c.at-read.result.now key code c.at-read.ensures c.key.ensures c.code.ensures in
    sym (next-place reads view c.loop-place.place key code at c.loop-place.invariant _ c.in-Other.ensures)

pub returns-in-Needs-clause-first : goal.returns-in-Needs-clause-first
returns-in-Needs-clause-first g c =
    let view = g.W.World.sight c.args.world.now c.args.reader (g.F.Finished.outcomes c.args.outs.now) in
    let reads = resolved c.args.store.now c.args.reads.now in
    let key = c.key.result.now in
    let code = c.code.result.now in
    let at = lent-at c.args.store.now c.args.reads.now c.loop-place.place c.at-read.result.now key code c.at-read.ensures c.key.ensures c.code.ensures in
    sym (next-place reads view c.loop-place.place key code at c.loop-place.invariant _ c.in-Needs.ensures)

pub loop-place-preserved : goal.loop-place-preserved
loop-place-preserved g c =
    let view = g.W.World.sight c.args.world.now c.args.reader (g.F.Finished.outcomes c.args.outs.now) in
    let reads = resolved c.args.store.now c.args.reads.now in
    let key = c.key.result.now in
    let code = c.code.result.now in
    let at = lent-at c.args.store.now c.args.reads.now c.loop-place.place c.at-read.result.now key code c.at-read.ensures c.key.ensures c.code.ensures in
    next-place reads view c.loop-place.place key code at c.loop-place.invariant _ c.in-Same.ensures

pub returns-clause-carries : goal.returns-clause-carries
returns-clause-carries g c h query met certified =
    let view = g.W.World.sight c.args.world.now c.args.reader (g.F.Finished.outcomes c.args.outs.now) in
    let reads = resolved c.args.store.now c.args.reads.now in
    let past : length reads ≤ c.loop-place.place = omega (arith, length-resolved c.args.store.now c.args.reads.now) in
    let agrees : first_other reads view ≡ checked.Agrees = no-more reads view c.loop-place.place past c.loop-place.invariant in
    carried reads view agrees query met certified

pub returns-clause-carries_miss : goal.returns-clause-carries_miss
returns-clause-carries_miss g c h query key item misses there =
    let view = g.W.World.sight c.args.world.now c.args.reader (g.F.Finished.outcomes c.args.outs.now) in
    let reads = resolved c.args.store.now c.args.reads.now in
    let past : length reads ≤ c.loop-place.place = omega (arith, length-resolved c.args.store.now c.args.reads.now) in
    let agrees : first_other reads view ≡ checked.Agrees = no-more reads view c.loop-place.place past c.loop-place.invariant in
    carried-missed reads view agrees query key item misses there
