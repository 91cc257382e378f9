use Rattle.std.proofs.Common.{rules, ◌∙◌, ap, sym, subst}
use Rattle.std.specs.Prelude.{IfSome, slice_get}
use Rattle.std.specs.FinMap.{get}
use Rattle.round_core.specs.Meant.{given_by}
use Rattle.round_core.specs.Hands.{hand_outs}
use Rattle.render_workers.specs.declared.settling.Settled.TheVariants as settle
use Rattle.render_workers.specs.Turns.{IsSettled}
use Rattle.render_workers.specs.Brought.{IsPart}
use Rattle.render_workers.proofs.WorkerLaws.{part-kept, part-new, learned, waits-same}
use Rattle.render_workers.proofs.worker.make.Goals as goal

pub returns-in-Kept-clause-work : goal.returns-in-Kept-clause-work
returns-in-Kept-clause-work g c =
    let w = c.args.world.now in
    let given = given_by (g.W.World.names w) (g.W.World.sight w) g.R.Meaning.ItemMeaning.item c.args.memo.now in
    let at = c.loop.worker in
    let work = c.loop.invariant.work in
    let e = c.in_ok-add-in-Kept.ensures in
    let part = part-kept given (g.met.W.World.lawful w) c.args.table.now at.hand work.1.1 c.args.item c.requires.item at.part.seat c.add.new.self.seat at.part.tally c.settle_lent.new.tally at.part.brought.items c.add.new.self.brought.items
    work.0 e.seat c.in-Kept.entry c.in-Kept.ensures.settled e.brought in
    (subst (λ t. IsPart given c.args.table.now c.add.new.self.seat t c.add.new.self.brought.items) (sym e.tally) part, work.1)

pub returns-in-New-clause-work : goal.returns-in-New-clause-work
returns-in-New-clause-work g c =
    let w = c.args.world.now in
    let given = given_by (g.W.World.names w) (g.W.World.sight w) g.R.Meaning.ItemMeaning.item c.args.memo.now in
    let at = c.loop.worker in
    let work = c.loop.invariant.work in
    let e = c.in_ok-add-in-New.ensures in
    let settled = subst (λ x. IfSome (slice_get (g.W.World.names w) c.args.item) (λ n. IsSettled {M = g.row.R-Meaning.Denot} (get c.args.memo.now n) (g.W.World.sight w c.args.item (hand_outs at.hand)) n (g.R.Meaning.ItemMeaning.item n) (settle.New x c.in-New.why) at.part.tally c.settle_lent.new.tally))
    (sym c.in_ok-entry-in-New.ensures) c.in-New.ensures.settled in
    let part = part-new given (g.met.W.World.lawful w) c.args.table.now at.hand work.1.1 c.args.item c.requires.item at.part.seat c.add-in-New.new.self.seat at.part.tally c.settle_lent.new.tally at.part.brought.items c.add-in-New.new.self.brought.items
    work.0 e.seat c.in_ok-entry-in-New.entry c.in-New.why settled e.brought in
    (subst (λ t. IsPart given c.args.table.now c.add-in-New.new.self.seat t c.add-in-New.new.self.brought.items) (sym e.tally) part, work.1)

pub returns-then-not-learn-clause-work : goal.returns-then-not-learn-clause-work
returns-then-not-learn-clause-work g c =
    let w = c.args.world.now in
    let given = given_by (g.W.World.names w) (g.W.World.sight w) g.R.Meaning.ItemMeaning.item c.args.memo.now in
    let work = c.loop.invariant.work in
    let same = waits-same (g.W.World.names w) c.args.item c.requires.item _ g.R.Meaning.ItemMeaning.item _ _ _ _ c.in-Needs.ensures.settled in
    learned given c.args.table.now _ c.learn.new.worker.part c.loop.worker.part.tally _ c.learn.new.worker.hand c.learn.ensures.part same work.0 work.1 c.learn.ensures.hand

pub loop-preserved : goal.loop-preserved
loop-preserved g c =
    let w = c.args.world.now in
    let given = given_by (g.W.World.names w) (g.W.World.sight w) g.R.Meaning.ItemMeaning.item c.args.memo.now in
    let work = c.loop.invariant.work in
    let same = waits-same (g.W.World.names w) c.args.item c.requires.item _ g.R.Meaning.ItemMeaning.item _ _ _ _ c.in-Needs.ensures.settled in
    record {
      next = search rules;
      finite = search rules;
      lent = c.learn.ensures.lent;
      work = learned given c.args.table.now _ c.learn.new.worker.part c.loop.worker.part.tally _ c.learn.new.worker.hand c.learn.ensures.part same work.0 work.1 c.learn.ensures.hand;
      seat = ap (λ p. p.seat) c.learn.ensures.part ∙ c.loop.invariant.seat;
    }
