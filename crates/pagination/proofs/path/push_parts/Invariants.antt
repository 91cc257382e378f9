use Rattle.std.proofs.Common.{◌≡◌, ◌++◌, flat_map}
use Rattle.std.specs.String.{string_bytes}
use Rattle.pagination.specs.Pages.{numbered}
use Rattle.pagination.proofs.path.push_parts.Given as goal

abbrev pub invariant-loop-part : goal.invariant-loop-part
invariant-loop-part l = string_bytes l.path ≡ string_bytes l.initial.path ++ flat_map (λ part. numbered l.digits part.now) l.yielded
