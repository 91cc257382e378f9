use Rattle.std.proofs.Common.{◌≡◌, ◌<◌, ◌≤◌, ◌∙◌, Err, Ok, length, refl, sym, subst, arith}
use Rattle.std.specs.FinMap.{empty}
use Rattle.memo_table.specs.Entries.{of_names}
use Rattle.round_core.specs.Meant.{given_by}
use Rattle.render_workers.proofs.FoldLaws.{told}
use Rattle.render_workers.proofs.WhyLaws.{whys-few}
use Rattle.render_workers.specs.Whys.{why_names, whys_below}
use Rattle.render_workers.proofs.RoundLaws.{SoFar, start, went_on, ended_at, whole}
use Rattle.render_workers.proofs.AnewLaws.{turned}
use Rattle.render_workers.proofs.TallyLaws.{grows_more}
use Rattle.render_workers.proofs.anew.render_all.Goals as goal

pub loop-item-init : goal.loop-item-init
loop-item-init g c =
    let w = c.args.world.now in
    let given = given_by (g.W.World.names w) (g.W.World.sight w) g.R.Meaning.ItemMeaning.item empty in
    let p = c.new-progress.result in (
      empty,
      subst (λ n. SoFar given n 0 p empty c.args.tally.now c.args.tally.now) (c.new-progress.ensures.bytes ∙ c.fixed_bytes.ensures) (start given p c.args.tally.now c.new-progress.ensures.outs c.new-progress.ensures.why),
    )

pub returns-in-Err-clause-round : goal.returns-in-Err-clause-round
returns-in-Err-clause-round g c =
    let w = c.args.world.now in
    let given = given_by (g.W.World.names w) (g.W.World.sight w) g.R.Meaning.ItemMeaning.item empty in
    let within : c.loop-item.item < length (g.W.World.names w) = omega (arith, c.items-item-end.ensures, c.loop-item-test.true) in
    let kept = c.loop-item.invariant.0 in
    let t = turned given refl (g.met.W.World.names_differ w) (g.W.World.fixed w) c.loop-item.item within c.loop-item.progress c.render_next.new.progress kept c.args.tally.now c.loop-item.tally c.render_next.new.tally c.loop-item.invariant.1 (Err c.in-Err.error) c.in-Err.ensures.turn in (
      t.0,
      ended_at given (g.met.W.World.names_differ w) (g.W.World.fixed w) c.loop-item.item within c.loop-item.progress c.render_next.new.progress kept t.0 c.args.tally.now c.loop-item.tally c.render_next.new.tally
          c.loop-item.invariant.1 c.in-Err.error t.1,
    )

pub returns-in-Err-clause-grows : goal.returns-in-Err-clause-grows
returns-in-Err-clause-grows g c =
    let w = c.args.world.now in
    let given = given_by (g.W.World.names w) (g.W.World.sight w) g.R.Meaning.ItemMeaning.item empty in
    grows_more _ _ _ (why_names (whys_below given c.loop-item.item), c.loop-item.invariant.1.tally) c.render_next.ensures.grows

pub returns-clause-grows : goal.returns-clause-grows
returns-clause-grows g c =
    let w = c.args.world.now in
    let given = given_by (g.W.World.names w) (g.W.World.sight w) g.R.Meaning.ItemMeaning.item empty in
    (why_names (whys_below given c.loop-item.item), c.loop-item.invariant.1.tally)

pub returns-in-Err-clause-told : goal.returns-in-Err-clause-told
returns-in-Err-clause-told g c = let w = c.args.world.now in told (given_by (g.W.World.names w) (g.W.World.sight w) g.R.Meaning.ItemMeaning.item empty) (g.met.W.World.lawful w) (g.W.World.fixed w)

pub loop-item-preserved : goal.loop-item-preserved
loop-item-preserved g c =
    let w = c.args.world.now in
    let given = given_by (g.W.World.names w) (g.W.World.sight w) g.R.Meaning.ItemMeaning.item empty in
    let within : c.loop-item.item < length (g.W.World.names w) = omega (arith, c.items-item-end.ensures, c.loop-item-test.true) in
    let kept = c.loop-item.invariant.0 in
    let t = turned given refl (g.met.W.World.names_differ w) (g.W.World.fixed w) c.loop-item.item within c.loop-item.progress c.render_next.new.progress kept c.args.tally.now c.loop-item.tally c.render_next.new.tally c.loop-item.invariant.1 (Ok c.in-Ok.field-0) c.in-Ok.ensures.turn in (
      t.0,
      went_on given (g.met.W.World.names_differ w) (g.W.World.fixed w) c.loop-item.item within c.loop-item.progress c.render_next.new.progress kept t.0 c.args.tally.now c.loop-item.tally c.render_next.new.tally
          c.loop-item.invariant.1 c.in-Ok.field-0 t.1,
    )

pub round_of-requires : goal.round_of-requires
round_of-requires g c =
    let w = c.args.world.now in
    let given = given_by (g.W.World.names w) (g.W.World.sight w) g.R.Meaning.ItemMeaning.item empty in
    let few : length c.loop-item.progress.why ≤ c.loop-item.item = subst (λ ws. length ws ≤ c.loop-item.item) (sym c.loop-item.invariant.1.why) (whys-few given c.loop-item.item) in
    omega (arith, few, c.items-item-end.ensures)

pub returns-clause-round : goal.returns-clause-round
returns-clause-round g c =
    let w = c.args.world.now in
    let given = given_by (g.W.World.names w) (g.W.World.sight w) g.R.Meaning.ItemMeaning.item empty in
    let all : c.loop-item.item ≡ length (g.W.World.names w) = omega (arith, c.items-item-end.ensures) in
    let kept = c.loop-item.invariant.0 in
    let e = c.round_of.ensures in (
      of_names (g.W.World.names w) kept,
      whole given (g.met.W.World.names_differ w) (g.W.World.fixed w) c.loop-item.item c.loop-item.progress kept (of_names (g.W.World.names w) kept) c.args.tally.now c.loop-item.tally _ all c.loop-item.invariant.1 e.outs e.why (e.reused ∙ c.items.ensures) refl,
    )

pub returns-clause-told : goal.returns-clause-told
returns-clause-told g c = let w = c.args.world.now in told (given_by (g.W.World.names w) (g.W.World.sight w) g.R.Meaning.ItemMeaning.item empty) (g.met.W.World.lawful w) (g.W.World.fixed w)
