use Rattle.std.proofs.Common.{◌≡◌, ◌≤◌, length, sym, arith}
use Rattle.text_pool.specs.Texts.{bytes_of}
use Rattle.read_record.specs.declared.outcome.Checked.TheVariants as checked
use Rattle.read_record.specs.Stores.{key_of, resolved}
use Rattle.read_record.specs.Records.{first_other}
use Rattle.read_record.proofs.StoreLaws.{has_at, resolved-at, length-resolved}
use Rattle.read_record.proofs.PlaceLaws.{next-place, no-more}
use Rattle.read_record.proofs.RecordLaws.{carried, carried-missed}
use Rattle.read_record.proofs.noting.check_noted.Goals as goal

pub found-requires-clause-key : goal.found-requires-clause-key
found-requires-clause-key g c = (has_at c.args.store.now c.args.reads.now c.loop-place.place c.at.result.now c.requires.held c.at.ensures).0

pub found-requires-clause-code : goal.found-requires-clause-code
found-requires-clause-code g c = (has_at c.args.store.now c.args.reads.now c.loop-place.place c.at.result.now c.requires.held c.at.ensures).1

pub returns-in-Other-clause-first : goal.returns-in-Other-clause-first
returns-in-Other-clause-first g c =
    let view = g.W.World.sight c.args.world.now c.args.reader (g.F.Finished.outcomes c.args.outs.now) in
    let store = c.args.store.now in
    let read = c.at.result.now in
    sym (next-place (resolved store c.args.reads.now) view c.loop-place.place (key_of store.keys read.0) (bytes_of store.codes read.1) (resolved-at store c.args.reads.now c.loop-place.place read c.at.ensures) c.loop-place.invariant.so_far _ c.in-Other.ensures.found)

pub returns-in-Needs-clause-first : goal.returns-in-Needs-clause-first
returns-in-Needs-clause-first g c =
    let view = g.W.World.sight c.args.world.now c.args.reader (g.F.Finished.outcomes c.args.outs.now) in
    let store = c.args.store.now in
    let read = c.at.result.now in
    sym (next-place (resolved store c.args.reads.now) view c.loop-place.place (key_of store.keys read.0) (bytes_of store.codes read.1) (resolved-at store c.args.reads.now c.loop-place.place read c.at.ensures) c.loop-place.invariant.so_far _ c.in-Needs.ensures.found)

pub loop-place-preserved : goal.loop-place-preserved
loop-place-preserved g c =
    let view = g.W.World.sight c.args.world.now c.args.reader (g.F.Finished.outcomes c.args.outs.now) in
    let store = c.args.store.now in
    let read = c.at.result.now in
    record { right = c.in-Same.ensures.right; so_far = next-place (resolved store c.args.reads.now) view c.loop-place.place (key_of store.keys read.0) (bytes_of store.codes read.1) (resolved-at store c.args.reads.now c.loop-place.place read c.at.ensures) c.loop-place.invariant.so_far _ c.in-Same.ensures.found }

pub returns-clause-carries : goal.returns-clause-carries
returns-clause-carries g c h query met certified =
    let view = g.W.World.sight c.args.world.now c.args.reader (g.F.Finished.outcomes c.args.outs.now) in
    let reads = resolved c.args.store.now c.args.reads.now in
    let past : length reads ≤ c.loop-place.place = omega (arith, length-resolved c.args.store.now c.args.reads.now) in
    let agrees : first_other reads view ≡ checked.Agrees = no-more reads view c.loop-place.place past c.loop-place.invariant.so_far in
    carried reads view agrees query met certified

pub returns-clause-carries_miss : goal.returns-clause-carries_miss
returns-clause-carries_miss g c h query key item misses there =
    let view = g.W.World.sight c.args.world.now c.args.reader (g.F.Finished.outcomes c.args.outs.now) in
    let reads = resolved c.args.store.now c.args.reads.now in
    let past : length reads ≤ c.loop-place.place = omega (arith, length-resolved c.args.store.now c.args.reads.now) in
    let agrees : first_other reads view ≡ checked.Agrees = no-more reads view c.loop-place.place past c.loop-place.invariant.so_far in
    carried-missed reads view agrees query key item misses there
