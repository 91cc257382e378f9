use Rattle.std.proofs.Common.{◌≡◌, ◌≤◌, ◌+◌, ◌++◌, map, length, vec_len, vec_capacity, []}
use Rattle.site_base.specs.PathMap.{as_map, room}
use Rattle.out_tree.specs.Tries.{Tried}
use Rattle.out_tree.proofs.attempts.try_all.Given as goal

abbrev pub invariant-loop-planned : goal.invariant-loop-planned
invariant-loop-planned g l = record {
  whole : l.fn.steps.items ≡ l.yielded ++ l.planned-iterator.rest.items;
  tried : Tried (map (λ p. p.step) l.yielded) (as_map l.fn.belief) (as_map l.belief) (g.O.OutTree.contents l.fn.device) (g.O.OutTree.contents l.device) (g.O.OutTree.calls l.fn.device) (g.O.OutTree.calls l.device) (g.O.OutTree.failures l.fn.device) (g.O.OutTree.failures l.device) l.fn.failed.items l.failed.items;
  room_left : length l.planned-iterator.rest.items ≤ room l.belief;
  room_used : room l.fn.belief ≤ room l.belief + length l.yielded;
  failed_room : vec_len l.failed + length l.planned-iterator.rest.items ≤ vec_capacity l.failed;
  failed_used : vec_len l.failed + vec_capacity l.fn.failed ≤ vec_len l.fn.failed + length l.yielded + vec_capacity l.failed;
  idle : l.yielded ≡ [] → l.device ≡ l.fn.device;
}
