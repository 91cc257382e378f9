-- Classes of bytes, of which a part of a text is made. Those of Markdown: CommonMark 0.31.2, sections 2.1, 2.5, 6.5 and 6.6.
use Rattle.std.specs.Prelude.{Bool, codes, not, ℕ, ◌==◌, ◌||◌}
use Rattle.site_text.specs.Bytes.{ampersand, backslash, double_quote, hyphen, is_alnum, is_control, is_digit, is_hex, is_name_byte, is_one_of, is_space, is_special, is_white, single_quote, space}
use Rattle.site_text.specs.declared.classes.Class.{Class}
use Rattle.site_text.specs.declared.classes.Class.TheVariants.{Address, Alphanumeric, AttributeName, NoWhite, Digit, HexDigit, Hyphenated, Literal, Mailbox, Name, NoDoubleQuote, NoSingleQuote, Plain, Scheme, Space, Textual, Unquoted}

abbrev pub is_in : Class → ℕ → Bool
is_in Space = is_space
is_in NoWhite = λ c. not (is_white c)
is_in Digit = is_digit
is_in HexDigit = is_hex
is_in Alphanumeric = is_alnum
is_in Hyphenated = λ c. is_alnum c || (c == hyphen)
is_in Name = is_name_byte
is_in AttributeName = λ c. is_alnum c || is_one_of (codes "_.:-") c
is_in Unquoted = λ c. not (is_white c || is_one_of (codes "\"'=<>`") c)
is_in NoSingleQuote = λ c. not (c == single_quote)
is_in NoDoubleQuote = λ c. not (c == double_quote)
is_in Scheme = λ c. is_alnum c || is_one_of (codes "+.-") c
is_in Address = λ c. not ((c == space) || (is_control c || is_one_of (codes "<>") c))
is_in Mailbox = λ c. is_alnum c || is_one_of (codes ".!#$%&'*+/=?^_`{|}~-") c
is_in Literal = λ c. not ((c == backslash) || (c == ampersand))
is_in Textual = λ c. not (is_special c)
is_in Plain = λ c. (c == space) || not (is_special c)
