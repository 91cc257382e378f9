use Rattle.std.proofs.Common.{length, take, ◌≡◌, ◌≤◌}
use Rattle.cm_containers.specs.Quoted.{up_to_quote}
use Rattle.cm_containers.proofs.open_containers.up_to_quote.Given as goal

abbrev pub invariant-loop-end : goal.invariant-loop-end
invariant-loop-end l = record {
  within : l.end ≤ length l.containers;
  so_far : up_to_quote (take l.end l.containers) ≡ up_to_quote l.containers;
}

abbrev pub decreases-loop-end : goal.decreases-loop-end
decreases-loop-end l = l.end
