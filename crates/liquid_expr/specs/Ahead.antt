-- What stands ahead, without where it stands.
use Rattle.std.specs.Prelude.{ℕ, List, Option, Some, None}
use Rattle.std.specs.Borrow.{Bor}
use Rattle.liquid_grammar.specs.Expressions as expressions
use Rattle.liquid_expr.specs.declared.ahead.Start.{Start}
use Rattle.liquid_expr.specs.declared.ahead.Start.TheVariants as start
use Rattle.liquid_expr.specs.declared.ahead.Follow.{Follow}
use Rattle.liquid_expr.specs.declared.ahead.Follow.TheVariants as follow

abbrev pub start_is : Start → expressions.Start
start_is (start.Variable name) = expressions.starts_variable name.now
start_is (start.Literal l) = expressions.starts_literal l
start_is start.Range = expressions.starts_range
start_is start.Nothing = expressions.no_start

abbrev pub follow_is : Follow → expressions.Follow
follow_is (follow.Name name) = expressions.follows_name name.now
follow_is follow.Bracket = expressions.follows_bracket
follow_is follow.Nothing = expressions.follows_nothing
follow_is follow.End = expressions.no_follow

abbrev pub text_of : Option (Bor (List ℕ)) → Option (List ℕ)
text_of (Some t) = Some t.now
text_of None = None
