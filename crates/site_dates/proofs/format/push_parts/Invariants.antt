use Rattle.std.proofs.Common.{◌≡◌, false, length, drop}
use Rattle.std.specs.Prelude.{Some}
use Rattle.std.specs.List.{slice_split}
use Rattle.std.specs.String.{string_bytes}
use Rattle.site_dates.specs.Format.{both, parts_text, is_percent}
use Rattle.site_dates.proofs.format.push_parts.Given as goal

abbrev pub invariant-loop-part : goal.invariant-loop-part
invariant-loop-part l =
    both (Some (string_bytes l.text)) (parts_text l.time l.escaped (drop (length l.yielded) (slice_split is_percent l.rest)))
    ≡ both (Some (string_bytes l.initial.text)) (parts_text l.time false (slice_split is_percent l.rest))
