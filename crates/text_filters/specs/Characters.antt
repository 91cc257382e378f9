-- Texts by their characters, which are Unicode scalar values.
use Rattle.std.specs.Prelude.{ℕ, List, length, take, drop}
use Rattle.std.specs.Str.{chars, encode_utf8_all}

abbrev pub char_count : List ℕ → ℕ
char_count t = length (chars t)

-- the first so many characters, and what follows them
abbrev pub chars_upto : ℕ → List ℕ → List ℕ
chars_upto n t = encode_utf8_all (take n (chars t))

abbrev pub chars_from : ℕ → List ℕ → List ℕ
chars_from n t = encode_utf8_all (drop n (chars t))
