use Rattle.std.proofs.Common.{◌≡◌, List, ℕ, Some, length, false}
use Rattle.std.specs.List.{list_any}
use Rattle.site_script.specs.Script.{HasRead, is_lf}
use Rattle.site_script.proofs.raw_line.read_raw_line.Given as goal

abbrev pub invariant-loop-count : goal.invariant-loop-count
invariant-loop-count g l = record {
  so_far : (text : List ℕ) → g.I.ByteSource.left l.fn.input ≡ Some text → HasRead text l.bytes.items (g.I.ByteSource.left l.input);
  no_lf : list_any is_lf l.bytes.items ≡ false;
  many : length l.bytes.items ≡ l.count;
  steady : g.I.ByteSource.failures l.input ≡ g.I.ByteSource.failures l.fn.input;
}
