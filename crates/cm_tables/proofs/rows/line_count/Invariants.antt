use Rattle.std.proofs.Common.{◌≡◌, ◌+◌, ◌≤◌, ◌==◌, drop}
use Rattle.std.specs.List.{count_by}
use Rattle.site_text.specs.Bytes.{line_feed}
use Rattle.cm_tables.proofs.rows.line_count.Given as goal

abbrev pub invariant-loop-byte : goal.invariant-loop-byte
invariant-loop-byte l = record {
  so_far : l.count + count_by (λ c. c == line_feed) (drop l.byte-index l.byte-items) ≡ 1 + count_by (λ c. c == line_feed) l.byte-items;
  bound : l.count ≤ l.byte-index + 1;
}
