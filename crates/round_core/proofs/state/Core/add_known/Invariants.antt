use Rattle.std.proofs.Common.{◌≡◌, ◌++◌, take, drop}
use Rattle.round_core.specs.States.{with_known}
use Rattle.round_core.proofs.state.Core.add_known.Given as goal

abbrev pub invariant-loop-place : goal.invariant-loop-place
invariant-loop-place g l = record {
  same : l.self-inside ≡ l.initial.self-inside;
  so_far : with_known l.worker l.item l.self-inside.known.items ≡ take l.place l.self-inside.known.items ++ with_known l.worker l.item (drop l.place l.self-inside.known.items);
}
