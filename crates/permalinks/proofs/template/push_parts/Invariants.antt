use Rattle.std.proofs.Common.{◌≡◌, length, drop}
use Rattle.std.specs.Prelude.{Some}
use Rattle.std.specs.List.{slice_split}
use Rattle.std.specs.String.{string_bytes}
use Rattle.permalinks.specs.Url.{both, parts_text, is_colon}
use Rattle.permalinks.proofs.template.push_parts.Given as goal

abbrev pub invariant-loop-part : goal.invariant-loop-part
invariant-loop-part g l =
    both (Some (string_bytes l.text)) (parts_text (g.V.Values.stands_for l.values) (drop (length l.yielded) (slice_split is_colon l.rest)))
    ≡ both (Some (string_bytes l.initial.text)) (parts_text (g.V.Values.stands_for l.values) (slice_split is_colon l.rest))
