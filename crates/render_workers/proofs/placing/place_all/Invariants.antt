use Rattle.std.proofs.Common.{◌≡◌, ◌<◌, All, None, length, replicate}
use Rattle.render_workers.specs.Brought.{all_placed}
use Rattle.render_workers.proofs.placing.place_all.Given as goal

abbrev pub invariant-loop-last : goal.invariant-loop-last
invariant-loop-last g l = record {
  within : All (λ b. b.item < l.fn.items) l.brought.items;
  room : length l.places.items ≡ l.fn.items;
  placed : all_placed l.brought.items l.places.items ≡ all_placed l.initial.brought.items (replicate l.fn.items None);
}

abbrev pub decreases-loop-last : goal.decreases-loop-last
decreases-loop-last g l = length l.brought.items
