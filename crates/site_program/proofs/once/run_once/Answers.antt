use Rattle.std.proofs.Common.{inl, inr, ℕ, ℤ, false, [], refl, subst}
use Rattle.std.proofs.Math.Facts.{to_z-of_z}
use Rattle.site_session.specs.Session.{start}
use Rattle.site_session.specs.Standing.{Standing}
use Rattle.site_program.specs.Checks.{OneCheck}
use Rattle.site_program.specs.Makes.{OneMake}
use Rattle.site_program.specs.Stages.{stage}
use Rattle.site_program.specs.declared.usage.TopCall.TheVariants as call
use Rattle.site_program.proofs.Completes.{one_check, one_make}
use Rattle.site_program.proofs.OneBuilds.{ends_unread, same_run}
use Rattle.site_program.proofs.Orders.{in_time, known, makes_in_range, none_for_once, ordered, same_check, same_make, same_once, same_start}
use Rattle.site_program.proofs.once.run_once.Goals as goal

pub build_one_by_one-requires : goal.build_one_by_one-requires
build_one_by_one-requires g c = in_time call.Once c.args.words.now _ _ c.in-Ok.ensures

pub scan_and_check-requires : goal.scan_and_check-requires
scan_and_check-requires g c = in_time call.Once c.args.words.now _ _ c.in-Ok.ensures

pub unreachable-requires : goal.unreachable-requires
unreachable-requires g c = none_for_once c.in-Ok.order (known call.Once c.args.words.now _ _ c.in-Ok.ensures) c.in_default.not-Once c.in_default.not-Check c.in_default.not-Make

-- the order is the one that the clause speaks of, and a moment that is handed on is the same number
pub returns-in-Once-clause-once : goal.returns-in-Once-clause-once
returns-in-Once-clause-once g c = λ settings is.
    let at = stage g.S.SourceTree.files g.S.SourceTree.failures g.O.OutTree.contents g.O.OutTree.calls g.O.OutTree.failures g.K.ByteSink.taken g.K.ByteSink.failures in
    let moment_is = to_z-of_z c.ranges.moment in
    let order_is = ordered call.Once c.args.words.now _ _ _ _ moment_is c.in-Ok.ensures is in
    let settings_is = same_once c.in-Ok.order c.in-Once.settings settings c.in-Once.is order_is in (
      c.build_one_by_one.new.tally,
      same_run _ _ false false _ _ _ _ (same_start _ _ _ _ settings_is moment_is) refl (λ i. at c.args.source.now c.args.out.now (c.new-tally.ensures i) c.args.sink.now) c.build_one_by_one.ensures,
    )

pub returns-in-Check-clause-check : goal.returns-in-Check-clause-check
returns-in-Check-clause-check g c = λ settings is.
    let at = stage g.S.SourceTree.files g.S.SourceTree.failures g.O.OutTree.contents g.O.OutTree.calls g.O.OutTree.failures g.K.ByteSink.taken g.K.ByteSink.failures in
    let was = at c.args.source.now c.args.out.now [] c.args.sink.now in
    let now = at c.scan_and_check.new.source c.args.out.now [] c.scan_and_check.new.sink in
    let moment_is = to_z-of_z c.ranges.moment in
    let order_is = ordered call.Once c.args.words.now _ _ _ _ moment_is c.in-Ok.ensures is in
    let settings_is = same_check c.in-Ok.order c.in-Check.settings settings c.in-Check.is order_is in
    subst (λ (s : Standing). OneCheck s was now c.scan_and_check.result) (same_start _ _ _ _ settings_is moment_is) (one_check _ was now c.scan_and_check.result c.scan_and_check.ensures refl)

pub returns-in-Make-clause-make : goal.returns-in-Make-clause-make
returns-in-Make-clause-make g c = λ number count is.
    let at = stage g.S.SourceTree.files g.S.SourceTree.failures g.O.OutTree.contents g.O.OutTree.calls g.O.OutTree.failures g.K.ByteSink.taken g.K.ByteSink.failures in
    let was = at c.args.source.now c.args.out.now [] c.args.sink.now in
    let now = at c.args.source.now c.args.out.now [] c.make.new.sink in
    let moment_is = to_z-of_z c.ranges.moment in
    let order_is = ordered call.Once c.args.words.now _ _ _ _ moment_is c.in-Ok.ensures is in
    let same = same_make c.in-Ok.order c.in-Make.number c.in-Make.count number count c.in-Make.is order_is in
    subst (λ (t : ℕ × (ℕ × ℤ)). OneMake t.0 t.1.0 t.1.1 was now c.make.result) (λ i. (same.0 i, (same.1 i, moment_is i)))
    (one_make c.in-Make.number c.in-Make.count _ was now c.make.result c.make.ensures refl refl)

-- without memory for the words nothing was done
pub returns-clause-once : goal.returns-clause-once
returns-clause-once g c = λ settings is. ([], ends_unread (start settings c.args.moment) false _ _ refl refl)

pub make-requires-clause-moment : goal.make-requires-clause-moment
make-requires-clause-moment g c = in_time call.Once c.args.words.now _ _ c.in-Ok.ensures

pub make-requires-clause-low : goal.make-requires-clause-low
make-requires-clause-low g c = (makes_in_range c.args.words.now _ _ _ _ c.in-Ok.ensures c.in-Make.is).low

pub make-requires-clause-high : goal.make-requires-clause-high
make-requires-clause-high g c = (makes_in_range c.args.words.now _ _ _ _ c.in-Ok.ensures c.in-Make.is).high
