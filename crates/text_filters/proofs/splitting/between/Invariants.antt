use Rattle.std.proofs.Common.{◌≡◌, ◌≤◌, ◌+◌, ◌++◌, length}
use denote.Shadow.{shadow}
use denote.Text.{Utf8}
use Rattle.site_base.specs.Plain.{onto}
use Rattle.text_filters.specs.Parts.{parts}
use Rattle.text_filters.specs.Splitting.{empties, text_items, without_empty_end}
use Rattle.text_filters.proofs.splitting.between.Given as goal

abbrev pub invariant-loop-part : goal.invariant-loop-part
invariant-loop-part l = record {
  utf8 : shadow (Utf8 l.rest);
  few : l.waiting + length l.rest ≤ length l.whole;
  so_far : onto l.list (text_items (without_empty_end (empties l.waiting ++ parts l.mark l.rest))) ≡ text_items (without_empty_end (parts l.mark l.whole));
}

abbrev pub decreases-loop-part : goal.decreases-loop-part
decreases-loop-part l = length l.rest
