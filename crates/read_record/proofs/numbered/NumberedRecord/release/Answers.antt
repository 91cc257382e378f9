use Rattle.std.proofs.Common.{◌≡◌, length, sym, subst, arith}
use Rattle.read_record.specs.Stores.{Numbers, Has}
use Rattle.read_record.proofs.StoreLaws.{Leaves, leaves-all, leaves-one, leaves-none, has_first, no_items}
use Rattle.read_record.proofs.numbered.NumberedRecord.release.Goals as goal

pub loop-read-init : goal.loop-read-init
loop-read-init c =
    let given = c.into_iter-read-iterator.ensures.into_iter_gives.0 in
    let store = c.args.store.now in
    subst (λ (ns : Numbers). Leaves store store ns c.args.self) (sym given) (subst (λ (ns : Numbers). Leaves store store ns c.args.self) (sym c.self.view_is) (leaves-all store c.args.self c.requires))

pub release-requires-clause-key : goal.release-requires-clause-key
release-requires-clause-key c =
    (has_first c.loop-read.store c.in-Some.read c.next.new.self.rest.items (subst (λ (ns : Numbers). Has c.loop-read.store ns) c.in-Some.ensures.steps.0 c.loop-read.invariant.has)).0

pub release-requires-clause-code : goal.release-requires-clause-code
release-requires-clause-code c =
    (has_first c.loop-read.store c.in-Some.read c.next.new.self.rest.items (subst (λ (ns : Numbers). Has c.loop-read.store ns) c.in-Some.ensures.steps.0 c.loop-read.invariant.has)).1

pub loop-read-preserved : goal.loop-read-preserved
loop-read-preserved c =
    leaves-one c.args.store.now c.loop-read.store c.release.new.self c.in-Some.read c.next.new.self.rest.items c.args.self
    (subst (λ (ns : Numbers). Leaves c.args.store.now c.loop-read.store ns c.args.self) c.in-Some.ensures.steps.0 c.loop-read.invariant)
    c.release.ensures

pub returns : goal.returns
returns c =
    let none : length c.loop-read.read-iterator.rest.items ≡ 0 = omega (arith, c.in-None.ensures.steps.0) in
    leaves-none c.args.store.now c.loop-read.store c.args.self (subst (λ (ns : Numbers). Leaves c.args.store.now c.loop-read.store ns c.args.self) (no_items c.loop-read.read-iterator.rest.items none) c.loop-read.invariant)
