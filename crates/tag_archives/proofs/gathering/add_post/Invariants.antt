use Rattle.std.proofs.Common.{◌≡◌, false, drop, ◌∷◌}
use Rattle.tag_archives.specs.Gathering.{AreKnown, groups_of, has_long, with_terms}
use Rattle.tag_archives.proofs.gathering.add_post.Given as goal

abbrev pub invariant-loop-place : goal.invariant-loop-place
invariant-loop-place l = AreKnown l.word l.known
    × (has_long l.word (with_terms l.post (drop l.place l.terms) ∷ l.newer) ≡ false)
    × (l.groups.entries ≡ groups_of l.word (with_terms l.post (drop l.place l.terms) ∷ l.newer))
