use Rattle.std.proofs.Common.{◌≡◌, ◌≤◌, length, take}
use Rattle.std.specs.Prelude.{filter}
use Rattle.std.specs.FinMap.{entries}
use Rattle.out_tree.specs.Belief.{believed}
use Rattle.site_session.proofs.Looking.{Looked, is_new, pages_in}
use Rattle.site_session.proofs.links.look.Given as goal

abbrev pub invariant-loop-place : goal.invariant-loop-place
invariant-loop-place l = record {
  looked : Looked l.fn.table (pages_in (take l.place (entries (believed l.keeper)))) l.table;
  count : l.scanned ≡ length (filter (is_new l.fn.table) (pages_in (take l.place (entries (believed l.keeper)))));
  few : l.scanned ≤ l.place;
}
