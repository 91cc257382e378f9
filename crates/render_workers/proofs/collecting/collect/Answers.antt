use Rattle.std.proofs.Common.{◌≡◌, ◌<◌, ◌≤◌, ◌∙◌, None, Err, ap, length, replicate, sym, subst, arith}
use Rattle.std.proofs.lemmas.List.{length-set, length-replicate}
use Rattle.memo_table.specs.Entries.{of_names}
use Rattle.memo_table.specs.Lending.{EntriesAndWorld}
use Rattle.round_core.specs.Meant.{given_by}
use Rattle.render_workers.specs.Brought.{all_placed}
use Rattle.render_workers.specs.Worked.{IsWorked}
use Rattle.render_workers.proofs.WhyLaws.{whys-few}
use Rattle.render_workers.proofs.CollectLaws.{Collected, right-at, went-on, ended-at, collected-all}
use Rattle.render_workers.proofs.TallyLaws.{grows_more}
use Rattle.render_workers.proofs.PlaceLaws.{begun, length-placed}
use Rattle.render_workers.proofs.collecting.collect.Goals as goal

pub loop-item-init : goal.loop-item-init
loop-item-init g c =
    let w = c.args.world.now in
    let given = given_by (g.W.World.names w) (g.W.World.sight w) g.R.Meaning.ItemMeaning.item c.args.memo.now in
    let p = c.new-progress.result in
    let all = c.args.all in
    let ws = c.in_ok-places.places.items in
    let placed : ws ≡ all_placed all.brought.items (replicate (length (g.W.World.names w)) None) = c.in_ok-places.ensures ∙ ap (λ n. all_placed all.brought.items (replicate n None)) c.items.ensures in
    record {
      room = ap length placed ∙ length-placed all.brought.items _ ∙ length-replicate (length (g.W.World.names w)) None;
      grown = (all.tally, c.in_ok-join.ensures);
      world = ap (λ (n : EntriesAndWorld g.row.W.Denot). n.world) c.in_ok-noted.ensures.ok;
      collected = subst (λ m. Collected given (g.W.World.fixed w) 0 p m c.args.tally.now c.join.new.self ws) (ap (λ (n : EntriesAndWorld g.row.W.Denot). n.entries) (sym c.in_ok-noted.ensures.ok))
          (subst (λ n. Collected given n 0 p c.args.memo.now c.args.tally.now c.join.new.self ws) (c.new-progress.ensures.bytes ∙ c.fixed_bytes.ensures)
          (begun _ given p c.args.tally.now c.join.new.self all.tally all.seat all.brought.items ws c.new-progress.ensures.outs c.new-progress.ensures.why c.in_ok-join.ensures c.requires.0 c.requires.1 placed));
    }

pub collect_next-requires-clause-done : goal.collect_next-requires-clause-done
collect_next-requires-clause-done g c = c.loop-item.invariant.collected.so_far.done

pub collect_next-requires-clause-right : goal.collect_next-requires-clause-right
collect_next-requires-clause-right g c =
    let w = c.args.world.now in
    let given = given_by (g.W.World.names w) (g.W.World.sight w) g.R.Meaning.ItemMeaning.item c.args.memo.now in
    let at = c.loop-item in
    let within : at.item < length (g.W.World.names w) = omega (arith, c.items-item-end.ensures, c.loop-item-test.true) in
    right-at given (g.met.W.World.names_differ w) (g.W.World.fixed w) at.item within at.progress at.noted.entries c.args.tally.now at.tally at.places.items c.take_from-work.new.places.items c.take_from-work.result
    at.invariant.collected c.take_from-work.ensures.taken c.take_from-work.ensures.rest

pub returns-in-Err-clause-worked : goal.returns-in-Err-clause-worked
returns-in-Err-clause-worked g c =
    let w = c.args.world.now in
    let given = given_by (g.W.World.names w) (g.W.World.sight w) g.R.Meaning.ItemMeaning.item c.args.memo.now in
    let at = c.loop-item in
    let within : at.item < length (g.W.World.names w) = omega (arith, c.items-item-end.ensures, c.loop-item-test.true) in
    subst (λ m. IsWorked given (g.W.World.fixed w) (Err c.in-Err.error) m c.args.tally.now c.collect_next.new.tally) (sym c.give_back.ensures)
    (ended-at given (g.met.W.World.names_differ w) (g.W.World.fixed w) at.item within at.progress at.noted.entries c.args.tally.now at.tally at.places.items c.take_from-work.new.places.items c.take_from-work.result
    at.invariant.collected c.take_from-work.ensures.taken c.take_from-work.ensures.rest c.collect_next.new.progress c.collect_next.new.noted.entries c.collect_next.new.tally c.in-Err.error c.in-Err.ensures.turn)

pub loop-item-preserved : goal.loop-item-preserved
loop-item-preserved g c =
    let w = c.args.world.now in
    let given = given_by (g.W.World.names w) (g.W.World.sight w) g.R.Meaning.ItemMeaning.item c.args.memo.now in
    let at = c.loop-item in
    let within : at.item < length (g.W.World.names w) = omega (arith, c.items-item-end.ensures, c.loop-item-test.true) in
    record {
      room = ap length c.take_from-work.ensures.rest ∙ length-set at.places.items at.item None ∙ at.invariant.room;
      collected = went-on given (g.met.W.World.names_differ w) (g.W.World.fixed w) at.item within at.progress at.noted.entries c.args.tally.now at.tally at.places.items c.take_from-work.new.places.items c.take_from-work.result
          at.invariant.collected c.take_from-work.ensures.taken c.take_from-work.ensures.rest c.collect_next.new.progress c.collect_next.new.noted.entries c.collect_next.new.tally c.in-Ok.field-0 c.in-Ok.ensures.turn;
      grown = grows_more _ _ _ at.invariant.grown c.collect_next.ensures.grows;
      world = c.collect_next.ensures.world;
    }

pub closed-requires : goal.closed-requires
closed-requires g c =
    let w = c.args.world.now in
    let given = given_by (g.W.World.names w) (g.W.World.sight w) g.R.Meaning.ItemMeaning.item c.args.memo.now in
    let few : length c.loop-item.progress.why ≤ c.loop-item.item = subst (λ ws. length ws ≤ c.loop-item.item) (sym c.loop-item.invariant.collected.so_far.why) (whys-few given c.loop-item.item) in
    omega (arith, c.items-item-end.ensures)

pub returns-in-Err-clause-grows : goal.returns-in-Err-clause-grows
returns-in-Err-clause-grows g c = grows_more _ _ _ c.loop-item.invariant.grown c.collect_next.ensures.grows

pub returns-clause-grows : goal.returns-clause-grows
returns-clause-grows g c = c.loop-item.invariant.grown

pub returns-clause-worked : goal.returns-clause-worked
returns-clause-worked g c =
    let w = c.args.world.now in
    let given = given_by (g.W.World.names w) (g.W.World.sight w) g.R.Meaning.ItemMeaning.item c.args.memo.now in
    let at = c.loop-item in
    let all : at.item ≡ length (g.W.World.names w) = omega (arith, c.items-item-end.ensures) in
    let e = c.closed.ensures in
    collected-all given (g.met.W.World.names_differ w) (g.W.World.fixed w) at.item at.progress at.noted.entries c.closed.new.memo c.args.tally.now at.tally _ c.closed.result all at.invariant.collected e.outs e.why e.reused
    (e.kept ∙ ap (of_names (g.W.World.names w)) c.give_back-2.ensures)
