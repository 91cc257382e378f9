use Rattle.std.proofs.Common.{◌≡◌, ◌++◌, map}
use Rattle.tag_archives.specs.Gathering.{archive_at}
use Rattle.tag_archives.proofs.gathering.listed.Given as goal

abbrev pub invariant-loop-path : goal.invariant-loop-path
invariant-loop-path l = l.list.items ++ map archive_at l.path-iterator ≡ map archive_at l.fn.groups.entries
