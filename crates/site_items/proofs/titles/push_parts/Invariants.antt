use Rattle.std.proofs.Common.{◌≡◌, ◌++◌, length}
use denote.Shadow.{shadow}
use denote.Text.{Utf8}
use Rattle.std.specs.List.{slice_split}
use Rattle.std.specs.String.{string_bytes}
use Rattle.site_items.specs.Titles.{is_dash, spaced}
use Rattle.site_items.proofs.titles.push_parts.Given as goal

abbrev pub invariant-loop-part : goal.invariant-loop-part
invariant-loop-part l = shadow (Utf8 l.rest) × (string_bytes l.made ++ spaced (slice_split is_dash l.rest) ≡ string_bytes l.initial.made ++ spaced (slice_split is_dash l.parts))

abbrev pub decreases-loop-part : goal.decreases-loop-part
decreases-loop-part l = length l.rest
