use Rattle.std.proofs.Common.{◌≡◌, ◌+◌, ◌-◌, ◌++◌, Bor, List, ℕ, drop, length, map}
use Rattle.std.specs.Str.{IsCharBoundary}
use Rattle.link_check.specs.Links.{values_of}
use Rattle.link_check.specs.Tags as grammar
use Rattle.link_check.proofs.finding.attributes.Given as goal

abbrev pub invariant-loop-attribute : goal.invariant-loop-attribute
invariant-loop-attribute l = record {
  cut : IsCharBoundary l.text l.count;
  counted : l.count + (grammar.attributes (drop l.count l.text)).count ≡ (grammar.attributes l.text).count;
  values : map (λ (v : Bor (List ℕ)). v.now) l.values.items ++ values_of (grammar.attributes (drop l.count l.text)).value ≡ map (λ (v : Bor (List ℕ)). v.now) l.fn.values.items ++ values_of (grammar.attributes l.text).value;
}

abbrev pub decreases-loop-attribute : goal.decreases-loop-attribute
decreases-loop-attribute l = length l.text - l.count
