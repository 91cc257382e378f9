use Rattle.std.proofs.Common.{◌≡◌, ◌++◌, length, drop}
use Rattle.std.specs.List.{slice_split}
use Rattle.std.specs.String.{string_bytes}
use Rattle.permalinks.specs.Url.{behind_slashes, is_slash, with_slashes}
use Rattle.permalinks.proofs.template.with_slashes.Given as goal

abbrev pub invariant-loop-segment : goal.invariant-loop-segment
invariant-loop-segment l =
    string_bytes l.url ++ behind_slashes l.ends (drop (length l.yielded) (slice_split is_slash l.text)) ≡ with_slashes l.text
