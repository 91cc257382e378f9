use Rattle.std.proofs.Common.{◌≡◌, false, drop}
use Rattle.tag_archives.specs.Gathering.{AreKnown, groups_of, has_long}
use Rattle.tag_archives.proofs.gathering.groups.Given as goal

abbrev pub invariant-loop-place : goal.invariant-loop-place
invariant-loop-place l = AreKnown l.word l.known × (has_long l.word (drop l.place l.posts) ≡ false) × (l.groups.entries ≡ groups_of l.word (drop l.place l.posts))
