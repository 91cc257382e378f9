-- A text as a terminal may have it.
use Rattle.std.specs.Prelude.{ℕ, ◌&&◌, ◌||◌, nat_le, nat_lt, List, map, if◌then◌else◌}
use Rattle.std.specs.Str.{chars, encode_utf8_all}

-- a control character, which a terminal would obey, is shown as a question mark: U+0000 to U+001F, and U+007F to U+009F (Unicode, category Cc)
abbrev pub shown_char : ℕ → ℕ
shown_char c = if nat_lt c 32 || (nat_le 127 c && nat_lt c 160) then 63 else c

abbrev pub shown : List ℕ → List ℕ
shown text = encode_utf8_all (map shown_char (chars text))
