-- Text that is written at the end of other text, within a limit.
use Rattle.std.specs.Prelude.{◌≡◌, ◌<◌, ◌++◌, ℕ, List, length, Result, MatchResult}
use Rattle.std.specs.String.{string_bytes}
use Rattle.markdown_grammar.specs.declared.html_error.HtmlError.{HtmlError}
use Rattle.markdown_grammar.specs.declared.html_error.HtmlError.TheVariants as error
use Rattle.cm_print.specs.declared.writer.Writer.{Writer}

abbrev pub written : Writer → List ℕ
written w = string_bytes w.text

-- the piece stands behind all that stood there before
pub record Writes (old new : Writer) (piece : List ℕ) : Type 0 where
  pub text : written new ≡ written old ++ piece
  pub most : new.most ≡ old.most

-- memory aside, only a piece with which more would stand there than may is refused
abbrev pub Refuses : Writer → List ℕ → HtmlError → Type 0
Refuses old piece e = e ≡ error.TooLong → old.most < length (written old ++ piece)

abbrev pub Prints : Writer → Writer → List ℕ → Result (Unit {0}) HtmlError → Type 0
Prints old new piece result = MatchResult result (λ _. Writes old new piece) (Refuses old piece)

-- the text stands there in the end, or it does not fit
pub record Stands (old new : Writer) (whole : List ℕ) : Type 0 where
  pub text : written new ≡ whole
  pub most : new.most ≡ old.most

abbrev pub Misses : Writer → List ℕ → HtmlError → Type 0
Misses old whole e = e ≡ error.TooLong → old.most < length whole

abbrev pub Reaches : Writer → Writer → List ℕ → Result (Unit {0}) HtmlError → Type 0
Reaches old new whole result = MatchResult result (λ _. Stands old new whole) (Misses old whole)
