use Rattle.std.proofs.Common.{◌≡◌, ◌-◌, pos, ◌+ℤ◌}
use Rattle.site_base.specs.Plain.{onto}
use Rattle.filter_base.specs.Elements.{counted}
use Rattle.filter_base.proofs.elements.counted.Given as goal

abbrev pub invariant-loop-place : goal.invariant-loop-place
invariant-loop-place l = onto l.list (counted (l.first +ℤ pos l.place) (l.count - l.place)) ≡ counted l.first l.count
