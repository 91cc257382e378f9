use Rattle.std.proofs.Common.{length, ◌*◌, ◌≡◌, ◌+◌, ◌-◌, ◌≤◌, drop}
use Rattle.front_yaml.specs.Flow.{node, collection, items, pairs, with_items, with_pairs}
use Rattle.front_yaml.proofs.flow_values.+flow.Given as goal

abbrev pub decreases-collection : goal.decreases-collection
decreases-collection l = 10 * l.depth

abbrev pub decreases-node : goal.decreases-node
decreases-node l = 10 * l.depth + 1

abbrev pub decreases-pair_value : goal.decreases-pair_value
decreases-pair_value l = 10 * l.depth + 2

abbrev pub decreases-entry : goal.decreases-entry
decreases-entry l = 10 * l.depth + 3

abbrev pub decreases-item_part : goal.decreases-item_part
decreases-item_part l = 10 * l.depth + 4

abbrev pub decreases-pair_part : goal.decreases-pair_part
decreases-pair_part l = 10 * l.depth + 4

abbrev pub decreases-add_items : goal.decreases-add_items
decreases-add_items l = 10 * l.depth + 5

abbrev pub decreases-add_pairs : goal.decreases-add_pairs
decreases-add_pairs l = 10 * l.depth + 5

abbrev pub decreases-items : goal.decreases-items
decreases-items l = 10 * l.depth + 6

abbrev pub decreases-pairs : goal.decreases-pairs
decreases-pairs l = 10 * l.depth + 6

abbrev pub decreases-list : goal.decreases-list
decreases-list l = 10 * l.depth + 7

abbrev pub decreases-hash : goal.decreases-hash
decreases-hash l = 10 * l.depth + 7

abbrev pub invariant-add_items-loop-n : goal.invariant-add_items-loop-n
invariant-add_items-loop-n l = record {
  within : l.n ≤ length l.text;
  told : with_items l.n l.list (items (node (collection l.depth)) (drop l.n l.text)) ≡ with_items 0 l.fn.list (items (node (collection l.depth)) l.text);
}

abbrev pub decreases-add_items-loop-n : goal.decreases-add_items-loop-n
decreases-add_items-loop-n l = length l.text - l.n

abbrev pub invariant-add_pairs-loop-n : goal.invariant-add_pairs-loop-n
invariant-add_pairs-loop-n l = record {
  within : l.n ≤ length l.text;
  told : with_pairs l.n l.hash (pairs (node (collection l.depth)) (drop l.n l.text)) ≡ with_pairs 0 l.fn.hash (pairs (node (collection l.depth)) l.text);
}

abbrev pub decreases-add_pairs-loop-n : goal.decreases-add_pairs-loop-n
decreases-add_pairs-loop-n l = length l.text - l.n
