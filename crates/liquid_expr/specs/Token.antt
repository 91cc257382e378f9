-- A token without where it stands.
use Rattle.std.specs.Prelude.{ℕ, ◌-◌, ◌<◌, ◌≤◌, List, length, take, slice_index, Option, Some, None}
use Rattle.std.specs.Str.Parse.{IsNumeral, without_leading_sign}
use Rattle.std.specs.Str.{IsUtf8, IsCharBoundary}
use Rattle.liquid_grammar.specs.Tokens as grammar
use Rattle.liquid_grammar.specs.declared.mark.Mark.{Mark}
use Rattle.liquid_expr.specs.declared.token.Token.{Token}
use Rattle.liquid_expr.specs.declared.token.Token.TheVariants.{Word, Text, Whole, Large}
use Rattle.liquid_expr.specs.declared.token.Token.TheVariants as token

abbrev pub token_of : Token → grammar.Token
token_of (Word name) = grammar.word name.now
token_of (Text t) = grammar.text t.now
token_of (Whole n) = grammar.whole n
token_of Large = grammar.large
token_of (token.Mark m) = grammar.mark m

abbrev pub found_of : Option (Token × ℕ) → Option (grammar.Token × ℕ)
found_of (Some x) = Some (token_of x.0, x.1)
found_of None = None

abbrev pub marked_of : Option (Mark × ℕ) → Option (grammar.Token × ℕ)
marked_of (Some x) = Some (grammar.mark x.0, x.1)
marked_of None = None

-- the text may be cut here, if it is UTF-8
abbrev pub IsCut : List ℕ → ℕ → Type 0
IsCut bytes at = IsUtf8 bytes → IsCharBoundary bytes at

-- a token of this length can stand at the front
pub record IsFound (bytes : List ℕ) (len : ℕ) : Type 0 where
  pub some : 0 < len
  pub within : len ≤ length bytes
  pub cut : IsCut bytes len

-- the last of the first bytes is ASCII, where there is any
abbrev pub EndsAscii : List ℕ → ℕ → Type 0
EndsAscii bytes len = 0 < len → slice_index bytes (len - 1) < 128

-- the first bytes are a whole number
pub record IsWhole (bytes : List ℕ) (len : ℕ) : Type 0 where
  pub within : len ≤ length bytes
  pub last : slice_index bytes (len - 1) < 128
  pub numeral : IsNumeral 10 (without_leading_sign (take len bytes))
