use Rattle.std.proofs.Common.{◌≡◌, drop, map}
use Rattle.std.specs.Prelude.{fold}
use Rattle.site_base.specs.Plain.{no_pairs}
use Rattle.site_items.specs.Defaults.{with_scope}
use Rattle.site_items.proofs.defaults.variables.Given as goal

abbrev pub invariant-loop-scope : goal.invariant-loop-scope
invariant-loop-scope l = fold (with_scope l.config l.kind l.path) l.made (map (λ s. s.now) (drop l.scope-index l.ordered)) ≡ fold (with_scope l.config l.kind l.path) no_pairs (map (λ s. s.now) l.ordered)
