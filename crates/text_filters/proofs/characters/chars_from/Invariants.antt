use Rattle.std.proofs.Common.{◌≡◌}
use denote.Shadow.{shadow}
use denote.Text.{Utf8}
use Rattle.text_filters.specs.Characters.{chars_from}
use Rattle.text_filters.proofs.characters.chars_from.Given as goal

abbrev pub invariant-loop-left : goal.invariant-loop-left
invariant-loop-left l = record {
  utf8 : shadow (Utf8 l.rest);
  so_far : chars_from l.left l.rest ≡ chars_from l.count l.text;
}

abbrev pub decreases-loop-left : goal.decreases-loop-left
decreases-loop-left l = l.left
