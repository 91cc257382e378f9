use Rattle.std.proofs.Common.{◌≡◌, ◌++◌, length}
use denote.Shadow.{shadow}
use denote.Text.{Utf8}
use Rattle.link_check.specs.Links.{found}
use Rattle.link_check.proofs.finding.found.Given as goal

abbrev pub invariant-loop-behind : goal.invariant-loop-behind
invariant-loop-behind l = record {
  utf8 : shadow (Utf8 l.rest);
  so_far : l.list ++ found l.rest ≡ found l.text;
}

abbrev pub decreases-loop-behind : goal.decreases-loop-behind
decreases-loop-behind l = length l.rest
