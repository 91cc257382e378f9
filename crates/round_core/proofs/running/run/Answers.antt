use Rattle.std.proofs.Common.{◌≡◌, ◌∙◌, ◌+◌, length, get_or, take, ap, subst, arith}
use Rattle.std.proofs.Math.Seq.{take-length}
use Rattle.round_core.specs.declared.event.Event.TheVariants as event
use Rattle.round_core.specs.Meant.{given_by}
use Rattle.round_core.specs.States.{nobody}
use Rattle.round_core.specs.Steps.{Reaches}
use Rattle.round_core.proofs.FactLaws.{knows-right, step-keeps, reaches-next, element-there}
use Rattle.round_core.proofs.OneWay.{one-state, no-state}
use Rattle.round_core.proofs.running.run.Goals as goal

pub loop-event-preserved : goal.loop-event-preserved
loop-event-preserved g c =
    let w = c.args.world.now in
    let given = given_by (g.W.World.names w) (g.W.World.sight w) g.R.Meaning.ItemMeaning.item c.args.memo.now in
    let i = c.loop-event.event-index in
    let es = c.args.events.now in
    let e = get_or es i (event.Claim 0 0) in
    record {
      index = ap (λ k. k + 1) c.loop-event.invariant.index;
      reached = reaches-next given c.args.workers es i nobody c.loop-event.core c.step.new.core e (element-there es i (event.Claim 0 0) c.loop-event-test.true) c.loop-event.invariant.reached c.in-Done.ensures.step;
      facts = step-keeps given (g.met.W.World.lawful w) c.args.workers c.loop-event.core c.step.new.core e c.loop-event.invariant.facts c.in-Done.ensures.step c.in-Done.ensures.sound;
    }

-- all events were allowed
whole : goal.returns-clause-run
whole g c =
    let w = c.args.world.now in
    let given = given_by (g.W.World.names w) (g.W.World.sight w) g.R.Meaning.ItemMeaning.item c.args.memo.now in
    let i = c.loop-event.event-index in
    let a = c.loop-event-test.false in
    let b = c.loop-event.auto.event-index-end in
    let end : i ≡ length c.args.events.now = omega arith in
    subst (λ es. Reaches given c.args.workers nobody es c.loop-event.core) (ap (λ k. take k c.args.events.now) end ∙ take-length c.args.events.now) c.loop-event.invariant.reached

pub returns-clause-run : goal.returns-clause-run
returns-clause-run g c = whole g c

pub returns-clause-only : goal.returns-clause-only
returns-clause-only g c u r = one-state _ c.args.workers c.args.events.now nobody c.loop-event.core u (whole g c) r

pub returns-clause-known : goal.returns-clause-known
returns-clause-known g c = knows-right _ (g.met.W.World.lawful c.args.world.now) c.loop-event.core c.loop-event.invariant.facts

pub returns-in-Refused-clause-only : goal.returns-in-Refused-clause-only
returns-in-Refused-clause-only g c u r =
    let w = c.args.world.now in
    let given = given_by (g.W.World.names w) (g.W.World.sight w) g.R.Meaning.ItemMeaning.item c.args.memo.now in
    let es = c.args.events.now in
    let i = c.loop-event.event-index in
    let e = get_or es i (event.Claim 0 0) in
    no-state given c.args.workers es i nobody c.loop-event.core e c.loop-event.invariant.reached (element-there es i (event.Claim 0 0) c.loop-event-test.true) c.in-Refused.ensures.step.1 u r
