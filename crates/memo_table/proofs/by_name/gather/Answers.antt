use Rattle.std.proofs.Common.{◌≡◌, false, take, refl, sym, ap, ◌∙◌, arith}
use Rattle.std.proofs.lemmas.List.Sorted.{IsPermutation-refl, IsPermutation-trans}
use Rattle.std.specs.FinMap as map
use Rattle.memo_table.specs.Names.{is_among}
use Rattle.memo_table.specs.NameKeys.{as_map}
use Rattle.memo_table.proofs.PlaceLaws.{same-as_map, stands-within, gathers-none, passes_over, is_new, fits, joins}
use Rattle.memo_table.proofs.by_name.gather.Goals as goal
use Rattle.memo_table.proofs.by_name.gather.Goals.{in-Some, in-None}

pub loop-item-init : goal.loop-item-init
loop-item-init g c =
    let es = c.args.values.now.entries in
    record { same = refl; front = gathers-none (as_map es); below = omega arith; moved = IsPermutation-refl es }

pub swap_indices-requires-clause-a_in_bounds : goal.swap_indices-requires-clause-a_in_bounds
swap_indices-requires-clause-a_in_bounds g c =
    let names = g.W.World.names c.args.world.now in
    let new : is_among (take c.loop-item.item names) c.name.result.now ≡ false = is_new names (g.met.W.World.names_differ c.args.world.now) c.loop-item.item c.name.result.now c.name.ensures in
    fits c.loop-item.values.entries c.loop-item.gathered names c.loop-item.item c.name.result.now (as_map c.args.values.now.entries) c.loop-item.invariant.front new c.in-Some.place c.in-Some.ensures

pub swap_indices-requires-clause-b_in_bounds : goal.swap_indices-requires-clause-b_in_bounds
swap_indices-requires-clause-b_in_bounds g c = stands-within c.loop-item.values.entries c.name.result.now c.in-Some.place c.in-Some.ensures

pub loop-item-preserved : goal.loop-item-preserved
loop-item-preserved g c =
    let names = g.W.World.names c.args.world.now in
    let first = c.args.values.now.entries in
    let es = c.loop-item.values.entries in
    let n = c.name.result.now in
    let old = as_map first in
    let i = c.loop-item.invariant in
    let new : is_among (take c.loop-item.item names) n ≡ false = is_new names (g.met.W.World.names_differ c.args.world.now) c.loop-item.item n c.name.ensures in
    elim c.match-place_of.branch [
      | in-Some w ↦ rw (w.values-is, w.gathered-is) (record {
        same = same-as_map es w.swap_indices.new.self.entries w.swap_indices.ensures.reordered.2 ∙ i.same;
        front = joins es c.loop-item.gathered names c.loop-item.item n old i.front new w.swap_indices.new.self.entries w.in-Some.place w.swap_indices.ensures.entries i.same c.name.ensures
            w.in-Some.ensures;
        below = omega (arith, i.below);
        moved = IsPermutation-trans first es w.swap_indices.new.self.entries i.moved w.swap_indices.ensures.reordered.0;
      })
      | in-None w ↦ rw (w.values-is, w.gathered-is) (record {
        same = i.same;
        front = i.front ∙ passes_over names c.loop-item.item n old c.name.ensures (ap (λ m. map.get m n) (sym i.same) ∙ w.in-None.ensures);
        below = omega (arith, i.below);
        moved = i.moved;
      })
    ]
