use Rattle.std.proofs.Common.{take}
use Rattle.site_base.specs.Fingerprints.{IsIndex}
use Rattle.site_base.proofs.value.index.index_of.Given as goal

abbrev pub invariant-loop-place : goal.invariant-loop-place
invariant-loop-place l = IsIndex (take l.place l.pairs) l.places
