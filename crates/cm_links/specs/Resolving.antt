-- Escapes and references, one after another.
use Rattle.std.specs.Prelude.{◌≡◌, ◌<◌, ◌≤◌, ◌+◌, ◌-◌, ◌++◌, ◌==◌, ◌||◌, ℕ, Bool, List, length, drop, slice_index}
use Rattle.std.specs.Str.{IsCharBoundary}
use Rattle.site_text.specs.Bytes.{ampersand, backslash, semicolon}
use Rattle.markdown_grammar.specs.References.{resolved}

-- a byte at which an escape or a reference may begin
abbrev pub may_mean : ℕ → Bool
may_mean c = (c == backslash) || (c == ampersand)

-- a text whose first byte is ASCII, if it has one
abbrev pub StartsAscii : List ℕ → Type 0
StartsAscii text = 0 < length text → slice_index text 0 < 128

-- a reference of so many bytes, the first of which stand before the text, ends with `;`
pub record HasEnd (before : ℕ) (text : List ℕ) (size : ℕ) : Type 0 where
  pub behind : before < size
  pub within : size ≤ before + length text
  pub closed : slice_index text (size - before - 1) ≡ semicolon

-- the first bytes of a text, so many and not none, end with one of ASCII
pub record EndsAscii (text : List ℕ) (size : ℕ) : Type 0 where
  pub some : 0 < size
  pub within : size ≤ length text
  pub ascii : slice_index text (size - 1) < 128

-- what the first n bytes of a text stand for has come to the end of what is made
pub record Resolves (before after text : List ℕ) (n : ℕ) : Type 0 where
  pub boundary : IsCharBoundary text n
  pub progress : 0 < length text → 0 < n
  pub same : after ++ resolved (drop n text) ≡ before ++ resolved text
