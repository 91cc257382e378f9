use Rattle.std.proofs.Common.{◌≡◌, ◌++◌, length}
use denote.Shadow.{shadow}
use denote.Text.{Utf8}
use Rattle.text_filters.specs.Replacements.{replaced}
use Rattle.text_filters.proofs.replacements.replaced.Given as goal

abbrev pub invariant-loop-before : goal.invariant-loop-before
invariant-loop-before l = record {
  utf8 : shadow (Utf8 l.rest);
  so_far : l.writer ++ replaced l.mark l.instead l.rest ≡ replaced l.mark l.instead l.whole;
}

abbrev pub decreases-loop-before : goal.decreases-loop-before
decreases-loop-before l = length l.rest
