use Rattle.std.proofs.Common.{◌≡◌, length}
use Rattle.std.specs.List.{list_any}
use denote.Text.{Utf8}
use denote.Shadow.{shadow}
use Rattle.liquid_grammar.specs.Tokens.{is_large}
use Rattle.liquid_expr.specs.Tokens.{tokens_at}
use Rattle.liquid_expr.proofs.TokenLoop.{IsLeft}
use Rattle.liquid_expr.proofs.tokens.token_places.Given as goal

abbrev pub invariant-loop-rest : goal.invariant-loop-rest
invariant-loop-rest l = shadow (Utf8 l.rest) × IsLeft l.text l.rest l.list.items × (l.has_large ≡ list_any is_large (tokens_at l.text l.list.items))

abbrev pub decreases-loop-rest : goal.decreases-loop-rest
decreases-loop-rest l = length l.rest
