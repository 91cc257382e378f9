-- Addresses as they stand in HTML. After RFC 3986, section 2.1 (percent-encoding), CommonMark 0.31, and HTML, "Character references".
use Rattle.std.specs.Prelude.{Bool, List, codes, flat_map, if◌then◌else◌, nat_lt, ℕ, [], ◌%◌, ◌+◌, ◌/◌, ◌==◌, ◌||◌, ◌∷◌}
use Rattle.site_text.specs.Bytes.{ampersand, double_quote, greater_than, is_alnum, less_than, percent_sign}
use Rattle.site_text.specs.Fronts.{has_one}

-- `&`, `<`, `>` and `"` as references
abbrev pub escaped_byte : ℕ → List ℕ
escaped_byte c = if c == ampersand then codes "&amp;" else if c == less_than then codes "&lt;" else if c == greater_than then codes "&gt;" else if c == double_quote then codes "&quot;" else c ∷ []

-- a digit of base 16
abbrev pub hex_digit : ℕ → ℕ
hex_digit d = if nat_lt d 10 then 48 + d else 55 + d

-- `%` and two digits
abbrev pub percent_byte : ℕ → List ℕ
percent_byte c = percent_sign ∷ hex_digit (c / 16 % 16) ∷ hex_digit (c % 16) ∷ []

-- a byte that is not written as `%` and digits in an address
abbrev pub stands_in_urls : ℕ → Bool
stands_in_urls c = is_alnum c || has_one (λ d. d == c) (codes "-_.+!*'(),%#@?=;:/&$~")

-- a byte of an address
abbrev pub url_byte : ℕ → List ℕ
url_byte c = if stands_in_urls c then escaped_byte c else percent_byte c

-- an address as it stands in HTML
abbrev pub url_text : List ℕ → List ℕ
url_text t = flat_map url_byte t
