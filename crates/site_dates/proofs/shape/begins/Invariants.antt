use Rattle.std.proofs.Common.{◌≡◌, drop}
use Rattle.site_dates.specs.Shape.{begins}
use Rattle.site_dates.proofs.shape.begins.Given as goal

abbrev pub invariant-loop-place : goal.invariant-loop-place
invariant-loop-place l = begins (drop l.place l.shape) (drop l.place l.text) ≡ begins l.shape l.text
