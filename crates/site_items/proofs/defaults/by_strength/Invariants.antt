use Rattle.std.proofs.Common.{◌≡◌, ◌++◌, drop, map}
use Rattle.site_items.proofs.defaults.by_strength.Given as goal

abbrev pub invariant-loop-scope : goal.invariant-loop-scope
invariant-loop-scope l = map (λ s. s.now) l.ordered.items ++ drop l.scope-index l.scopes ≡ l.scopes
