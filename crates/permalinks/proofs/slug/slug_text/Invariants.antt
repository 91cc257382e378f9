use Rattle.std.proofs.Common.{◌≡◌, ◌++◌, length, drop}
use Rattle.std.specs.String.{string_bytes}
use Rattle.std.specs.Str.{chars}
use Rattle.permalinks.specs.Slug.{lower_bytes, slug}
use Rattle.permalinks.proofs.SlugWalk.{left}
use Rattle.permalinks.proofs.slug.slug_text.Given as goal

abbrev pub invariant-loop-c : goal.invariant-loop-c
invariant-loop-c l =
    string_bytes l.slug ++ lower_bytes (left l.begun l.gap (drop (length l.yielded) (chars l.text))) ≡ slug l.text
