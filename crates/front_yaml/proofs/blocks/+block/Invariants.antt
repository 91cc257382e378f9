use Rattle.std.proofs.Common.{length, ◌*◌, ◌≡◌, ◌+◌}
use Rattle.front_yaml.specs.TextLines.{indent}
use Rattle.front_yaml.specs.LineRuns.{is_item, is_pair}
use Rattle.front_yaml.specs.Blocks.{sequence, mapping, mapping_pairs, block, all_entries}
use Rattle.front_yaml.proofs.Entries.{with_items, with_pairs}
use Rattle.front_yaml.proofs.blocks.+block.Given as goal

abbrev pub decreases-block : goal.decreases-block
decreases-block l = 10 * l.depth

abbrev pub decreases-sequence : goal.decreases-sequence
decreases-sequence l = 10 * l.depth + 7

abbrev pub decreases-mapping : goal.decreases-mapping
decreases-mapping l = 10 * l.depth + 7

abbrev pub decreases-item : goal.decreases-item
decreases-item l = 10 * l.depth + 6

abbrev pub decreases-pair : goal.decreases-pair
decreases-pair l = 10 * l.depth + 6

abbrev pub decreases-item_at : goal.decreases-item_at
decreases-item_at l = 10 * l.depth + 5

abbrev pub decreases-entry_value : goal.decreases-entry_value
decreases-entry_value l = 10 * l.depth + 3

abbrev pub decreases-below : goal.decreases-below
decreases-below l = 10 * l.depth + 2

abbrev pub decreases-below_first : goal.decreases-below_first
decreases-below_first l = 10 * l.depth + 1

abbrev pub invariant-sequence-loop-value : goal.invariant-sequence-loop-value
invariant-sequence-loop-value l = record {
  indent : l.indent ≡ indent l.fn.head;
  told : with_items l.items (sequence l.depth (block l.depth) l.indent (all_entries (is_item l.indent) l.first l.rest)) ≡ sequence l.depth (block l.depth) l.indent (all_entries (is_item l.indent) l.fn.head l.fn.body);
}

abbrev pub decreases-sequence-loop-value : goal.decreases-sequence-loop-value
decreases-sequence-loop-value l = length l.rest

abbrev pub invariant-mapping-loop-pair : goal.invariant-mapping-loop-pair
invariant-mapping-loop-pair l = record {
  indent : l.indent ≡ indent l.fn.head;
  told : with_pairs l.pairs (mapping l.depth (block l.depth) l.indent (all_entries (is_pair l.indent) l.first l.rest)) ≡ mapping_pairs l.depth (block l.depth) l.indent l.fn.head l.fn.body;
}

abbrev pub decreases-mapping-loop-pair : goal.decreases-mapping-loop-pair
decreases-mapping-loop-pair l = length l.rest
