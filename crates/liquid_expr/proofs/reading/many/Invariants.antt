use Rattle.std.proofs.Common.{◌≡◌, ◌≤◌, ◌-◌, [], drop}
use Rattle.liquid_grammar.specs.Readings.{after, many}
use Rattle.liquid_expr.specs.Tokens.{tokens_of, count}
use Rattle.liquid_expr.specs.Steps.{codes_of, added}
use Rattle.liquid_expr.specs.Readings.{alone}
use Rattle.liquid_expr.proofs.reading.many.Given as goal

abbrev pub invariant-loop-list : goal.invariant-loop-list
invariant-loop-list g l = record {
  within : l.used ≤ count l.tokens;
  told : added (codes_of alone) l.list.items (after l.used (many g.R.Repeats.more (drop l.used (tokens_of l.tokens)))) ≡ added (codes_of alone) [] (many g.R.Repeats.more (tokens_of l.tokens));
}

abbrev pub decreases-loop-list : goal.decreases-loop-list
decreases-loop-list g l = count l.tokens - l.used
