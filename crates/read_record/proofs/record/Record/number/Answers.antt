use Rattle.std.proofs.Common.{◌≡◌, [], take, sym, subst}
use Rattle.read_record.specs.Stores.{Numbers, resolved, Has, HasMore}
use Rattle.read_record.proofs.StoreLaws.{none_more, take_none, still_has, has_what_it_got, more-then-nothing, all_undone, numbered-one}
use Rattle.read_record.proofs.record.Record.number.Goals as goal

pub loop-place-init : goal.loop-place-init
loop-place-init c =
    let store = c.args.store.now in
    subst (λ (ns : Numbers). (resolved store ns ≡ take 0 c.args.self.now) × HasMore store store ns) (sym c.new.ensures.items) (take_none c.args.self.now, none_more store)

pub release-requires : goal.release-requires
release-requires c =
    let e = c.in-Err.ensures.err in
    subst (λ (ns : Numbers). Has c.add.new.store ns) (sym e.0)
    (still_has c.loop-place.store c.add.new.store c.loop-place.numbered [] (has_what_it_got c.args.store.now c.loop-place.store c.loop-place.numbered c.loop-place.invariant.1) e.1)

pub returns-in-Err-clause-err : goal.returns-in-Err-clause-err
returns-in-Err-clause-err c =
    let e = c.in-Err.ensures.err in
    all_undone c.args.store.now c.add.new.store c.release.new.store c.loop-place.numbered
    (more-then-nothing c.args.store.now c.loop-place.store c.add.new.store c.loop-place.numbered c.loop-place.invariant.1 e.1)
    (subst (λ (ns : Numbers). HasMore c.release.new.store c.add.new.store ns) e.0 c.release.ensures)

pub loop-place-preserved : goal.loop-place-preserved
loop-place-preserved c =
    let e = c.in-Ok.ensures.ok in
    numbered-one c.args.self.now c.args.store.now c.loop-place.store c.add.new.store c.loop-place.numbered c.add.new.self c.loop-place.place c.read_at.result.now.0 c.read_at.result.now.1 e.0 c.read_at.ensures c.loop-place.invariant.0 c.loop-place.invariant.1 e.2 e.3 e.1
