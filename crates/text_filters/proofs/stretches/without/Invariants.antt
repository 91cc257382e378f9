use Rattle.std.proofs.Common.{◌≡◌, ◌++◌, length}
use denote.Shadow.{shadow}
use denote.Text.{Utf8}
use Rattle.std.specs.String.{string_bytes}
use Rattle.text_filters.specs.MissingEnds.{LackEnds}
use Rattle.text_filters.specs.Stretches.{without}
use Rattle.text_filters.proofs.stretches.without.Given as goal

abbrev pub invariant-loop-before : goal.invariant-loop-before
invariant-loop-before l = record {
  utf8 : shadow (Utf8 l.rest);
  missing : LackEnds l.missing.items l.rest;
  so_far : string_bytes l.made ++ without l.kinds l.rest ≡ without l.kinds l.text;
}

abbrev pub decreases-loop-before : goal.decreases-loop-before
decreases-loop-before l = length l.rest
