use Rattle.std.proofs.Common.{◌≡◌, ◌++◌, drop}
use denote.Shadow.{shadow}
use denote.Text.{Utf8}
use Rattle.site_base.specs.View.{items_of}
use Rattle.filter_base.specs.Lists.{texts_behind, joined}
use Rattle.filter_base.proofs.lists.joined.Given as goal

abbrev pub invariant-loop-value : goal.invariant-loop-value
invariant-loop-value l = record {
  utf8 : shadow (Utf8 l.before);
  so_far : l.writer ++ texts_behind l.before l.between (items_of (drop l.value-index l.values)) ≡ joined l.between (items_of l.values);
}
