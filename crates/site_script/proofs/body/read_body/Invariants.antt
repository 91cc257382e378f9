use Rattle.std.proofs.Common.{◌≡◌, ◌≤◌, ◌-◌, List, ℕ, Some, length}
use Rattle.site_script.specs.Script.{HasRead}
use Rattle.site_script.proofs.body.read_body.Given as goal

abbrev pub invariant-loop-block : goal.invariant-loop-block
invariant-loop-block g l = record {
  so_far : (text : List ℕ) → g.I.ByteSource.left l.fn.input ≡ Some text → HasRead text l.bytes.items (g.I.ByteSource.left l.input);
  within : length l.bytes.items ≤ l.count;
  steady : g.I.ByteSource.failures l.input ≡ g.I.ByteSource.failures l.fn.input;
}

abbrev pub decreases-loop-block : goal.decreases-loop-block
decreases-loop-block g l = l.count - length l.bytes.items
