use Rattle.std.proofs.Common.{◌≡◌, ◌<◌, ◌≤◌, ◌∙◌, Err, ap, length, sym, subst, arith}
use Rattle.memo_table.specs.Entries.{of_names}
use Rattle.memo_table.specs.Lending.{EntriesAndWorld}
use Rattle.round_core.specs.Meant.{given_by}
use Rattle.render_workers.proofs.WhyLaws.{whys-few}
use Rattle.render_workers.specs.Rounds.{IsRound}
use Rattle.render_workers.specs.Whys.{why_names, whys_below}
use Rattle.render_workers.proofs.RoundLaws.{SoFar, start, went_on, ended_at, whole}
use Rattle.render_workers.proofs.TallyLaws.{grows_more}
use Rattle.render_workers.proofs.serial.go_over.Goals as goal

pub loop-item-init : goal.loop-item-init
loop-item-init g c =
    let w = c.args.world.now in
    let given = given_by (g.W.World.names w) (g.W.World.sight w) g.R.Meaning.ItemMeaning.item c.args.memo.now in
    let p = c.new-progress.result in
    let none : SoFar given (g.W.World.fixed w) 0 p c.args.memo.now c.args.tally.now c.args.tally.now = subst (λ n. SoFar given n 0 p c.args.memo.now c.args.tally.now c.args.tally.now) (c.new-progress.ensures.bytes ∙ c.fixed_bytes.ensures) (start given p c.args.tally.now c.new-progress.ensures.outs c.new-progress.ensures.why) in
    record {
      world = ap (λ (n : EntriesAndWorld g.row.W.Denot). n.world) c.in_ok-noted.ensures.ok;
      so_far = subst (λ m. SoFar given (g.W.World.fixed w) 0 p m c.args.tally.now c.args.tally.now) (ap (λ (n : EntriesAndWorld g.row.W.Denot). n.entries) (sym c.in_ok-noted.ensures.ok)) none;
    }

pub returns-in-Err-clause-round : goal.returns-in-Err-clause-round
returns-in-Err-clause-round g c =
    let w = c.args.world.now in
    let given = given_by (g.W.World.names w) (g.W.World.sight w) g.R.Meaning.ItemMeaning.item c.args.memo.now in
    let within : c.loop-item.item < length (g.W.World.names w) = omega (arith, c.items-item-end.ensures, c.loop-item-test.true) in
    subst (λ m. IsRound given (g.W.World.fixed w) (Err c.in-Err.error) m c.args.tally.now c.next_item.new.tally) (sym c.give_back.ensures)
    (ended_at given (g.met.W.World.names_differ w) (g.W.World.fixed w) c.loop-item.item within c.loop-item.progress c.next_item.new.progress c.loop-item.noted.entries c.next_item.new.noted.entries c.args.tally.now c.loop-item.tally c.next_item.new.tally
    c.loop-item.invariant.so_far c.in-Err.error c.in-Err.ensures.turn)

pub returns-in-Err-clause-grows : goal.returns-in-Err-clause-grows
returns-in-Err-clause-grows g c =
    let w = c.args.world.now in
    let given = given_by (g.W.World.names w) (g.W.World.sight w) g.R.Meaning.ItemMeaning.item c.args.memo.now in
    grows_more _ _ _ (why_names (whys_below given c.loop-item.item), c.loop-item.invariant.so_far.tally) c.next_item.ensures.grows

pub returns-clause-grows : goal.returns-clause-grows
returns-clause-grows g c =
    let w = c.args.world.now in
    let given = given_by (g.W.World.names w) (g.W.World.sight w) g.R.Meaning.ItemMeaning.item c.args.memo.now in
    (why_names (whys_below given c.loop-item.item), c.loop-item.invariant.so_far.tally)

pub loop-item-preserved : goal.loop-item-preserved
loop-item-preserved g c =
    let w = c.args.world.now in
    let given = given_by (g.W.World.names w) (g.W.World.sight w) g.R.Meaning.ItemMeaning.item c.args.memo.now in
    let within : c.loop-item.item < length (g.W.World.names w) = omega (arith, c.items-item-end.ensures, c.loop-item-test.true) in
    record {
      world = c.next_item.ensures.world;
      so_far = went_on given (g.met.W.World.names_differ w) (g.W.World.fixed w) c.loop-item.item within c.loop-item.progress c.next_item.new.progress c.loop-item.noted.entries c.next_item.new.noted.entries c.args.tally.now c.loop-item.tally c.next_item.new.tally
          c.loop-item.invariant.so_far c.in-Ok.field-0 c.in-Ok.ensures.turn;
    }

pub closed-requires : goal.closed-requires
closed-requires g c =
    let w = c.args.world.now in
    let given = given_by (g.W.World.names w) (g.W.World.sight w) g.R.Meaning.ItemMeaning.item c.args.memo.now in
    let few : length c.loop-item.progress.why ≤ c.loop-item.item = subst (λ ws. length ws ≤ c.loop-item.item) (sym c.loop-item.invariant.so_far.why) (whys-few given c.loop-item.item) in
    omega (arith, c.items-item-end.ensures)

pub returns-clause-round : goal.returns-clause-round
returns-clause-round g c =
    let w = c.args.world.now in
    let given = given_by (g.W.World.names w) (g.W.World.sight w) g.R.Meaning.ItemMeaning.item c.args.memo.now in
    let all : c.loop-item.item ≡ length (g.W.World.names w) = omega (arith, c.items-item-end.ensures) in
    let e = c.closed.ensures in
    whole given (g.met.W.World.names_differ w) (g.W.World.fixed w) c.loop-item.item c.loop-item.progress c.loop-item.noted.entries c.closed.new.memo c.args.tally.now c.loop-item.tally _ all c.loop-item.invariant.so_far e.outs e.why e.reused
    (e.kept ∙ ap (of_names (g.W.World.names w)) c.give_back-2.ensures)
