use Rattle.std.proofs.Common.{◌≡◌, ◌++◌, flat_map, take}
use Rattle.std.specs.String.{string_bytes}
use Rattle.link_check.specs.Segments.{slash_before, shown}
use Rattle.link_check.proofs.resolving.push_others.Given as goal

abbrev pub invariant-loop-segment : goal.invariant-loop-segment
invariant-loop-segment l = string_bytes l.path ≡ string_bytes l.fn.path ++ flat_map slash_before (shown (take l.segment-index l.segments))
