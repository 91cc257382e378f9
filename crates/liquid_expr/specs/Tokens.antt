-- Tokens, of which only the places in their text are kept.
use Rattle.std.specs.Prelude.{◌≡◌, ℕ, Bool, ◌||◌, List, [], ◌∷◌, length, drop, map, Option, Some, None}
use Rattle.std.specs.List.{list_any}
use Rattle.liquid_grammar.specs.Tokens as grammar
use Rattle.liquid_grammar.specs.Tokens.{token_at, tokens, is_large}
use Rattle.liquid_expr.specs.declared.token.Token.{Token}
use Rattle.liquid_expr.specs.declared.tokens.Tokens.{Tokens}
use Rattle.liquid_expr.specs.Token.{token_of}

abbrev pub found_token : Option (grammar.Token × ℕ) → grammar.Token
found_token (Some found) = found.0
found_token None = grammar.large

-- the token at a place of a text
unfoldable pub token_in : List ℕ → ℕ → grammar.Token
token_in text place = found_token (token_at (drop place text))

abbrev pub tokens_at : List ℕ → List ℕ → List grammar.Token
tokens_at text places = map (token_in text) places

abbrev pub tokens_of : Tokens → List grammar.Token
tokens_of ts = tokens_at ts.text.now ts.places.now

abbrev pub count : Tokens → ℕ
count ts = length ts.places.now

-- the tokens of a text stand at these places, and one of them is a whole number that is no i64 where it is said so
pub record ArePlaces (text places : List ℕ) (has_large : Bool) : Type 0 where
  pub all : tokens text ≡ Some (tokens_at text places)
  pub large : has_large ≡ list_any is_large (tokens_at text places)

abbrev pub or_large : Bool → grammar.Token → Bool
or_large before t = before || is_large t

-- the first token, if there is one, and what follows it
abbrev pub begun : Option Token → List grammar.Token → List grammar.Token
begun (Some t) rest = token_of t ∷ rest
begun None rest = []
