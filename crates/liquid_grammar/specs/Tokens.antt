-- The tokens of an expression or a tag: words, texts, numbers and marks, between which white space may stand. After the reference of Liquid 4 (Shopify), "Types" and "Operators", which name the literals and the marks.
use Rattle.std.specs.Prelude.{ℕ, zero, suc, ◌+◌, ◌-◌, ℤ, pos, negsuc, ◌^◌, Bool, true, false, ◌&&◌, ◌||◌, not, List, [], ◌∷◌, length, drop, take, if◌then◌else◌, ◌==◌, nat_lt, Option, Some, None}
use Rattle.std.specs.List.{prefix_len}
use Rattle.std.specs.Str.Parse.{signed_digits_value}
use Rattle.liquid_grammar.specs.declared.mark.Mark.{Mark}
use Rattle.liquid_grammar.specs.declared.mark.Mark.TheVariants.{Dot, To, OpenBracket, CloseBracket, OpenRange, CloseRange, Bar, Colon, Comma, Assign, Compare}
use Rattle.liquid_grammar.specs.declared.mark.Comparison.TheVariants.{Equal, Unequal, Less, Greater, AtMost, AtLeast}
use Rattle.liquid_grammar.specs.Pieces.{is_white}
use Rattle.site_text.specs.Bytes.{is_digit, is_name_byte, is_name_start}

pub data Token : Type 0 where
  -- a name, or a word of the language
  word : (name : List ℕ) → Token
  -- what stands between two quotes, or a decimal as it is written
  text : (t : List ℕ) → Token
  whole : (n : ℤ) → Token
  -- a whole number that is no i64
  large : Token
  mark : (m : Mark) → Token

-- ---- Numbers

abbrev pub fits_i64 : ℤ → Bool
fits_i64 (pos n) = nat_lt n (2 ^ 63)
fits_i64 (negsuc n) = nat_lt n (2 ^ 63)

-- the token of a whole number, with its sign
abbrev pub whole_token : List ℕ → Token
whole_token digits = let n = signed_digits_value 10 digits in if fits_i64 n then whole n else large

-- the length of a dash at the front
abbrev pub sign_len : List ℕ → ℕ
sign_len [] = 0
sign_len (c ∷ cs) = if c == 45 then 1 else 0

-- how many bytes at the front are a whole number, or 0
abbrev pub whole_len : List ℕ → ℕ
whole_len bytes =
    let sign = sign_len bytes in
    let digits = prefix_len is_digit (drop sign bytes) in
    if nat_lt 0 digits then sign + digits else 0

-- how many bytes at the front are a dot with digits behind it, or 0
abbrev pub fraction_len : List ℕ → ℕ
fraction_len [] = 0
fraction_len (c ∷ cs) = let digits = prefix_len is_digit cs in if (c == 46) && nat_lt 0 digits then suc digits else 0

-- ---- Marks

abbrev pub short_mark : ℕ → Option Mark
short_mark c =
    if c == 46 then Some Dot
    else if c == 91 then Some OpenBracket
    else if c == 93 then Some CloseBracket
    else if c == 40 then Some OpenRange
    else if c == 41 then Some CloseRange
    else if c == 124 then Some Bar
    else if c == 58 then Some Colon
    else if c == 44 then Some Comma
    else if c == 61 then Some Assign
    else if c == 60 then Some (Compare Less)
    else if c == 62 then Some (Compare Greater)
    else None

abbrev pub long_mark : ℕ → ℕ → Option Mark
long_mark c d =
    if (c == 46) && (d == 46) then Some To
    else if (c == 61) && (d == 61) then Some (Compare Equal)
    else if (c == 33) && (d == 61) then Some (Compare Unequal)
    else if (c == 60) && (d == 62) then Some (Compare Unequal)
    else if (c == 60) && (d == 61) then Some (Compare AtMost)
    else if (c == 62) && (d == 61) then Some (Compare AtLeast)
    else None

abbrev pub short_at : Option Mark → Option (Token × ℕ)
short_at (Some m) = Some (mark m, 1)
short_at None = None

abbrev pub mark_or : Option Mark → Option Mark → Option (Token × ℕ)
mark_or (Some m) short = Some (mark m, 2)
mark_or None short = short_at short

-- the longest mark at the front
abbrev pub mark_at : List ℕ → Option (Token × ℕ)
mark_at [] = None
mark_at (c ∷ []) = short_at (short_mark c)
mark_at (c ∷ d ∷ rest) = mark_or (long_mark c d) (short_mark c)

-- ---- Tokens

-- a text in quotes, after the first one
abbrev pub quoted_at : ℕ → List ℕ → Option (Token × ℕ)
quoted_at quote rest =
    let n = prefix_len (λ c. not (c == quote)) rest in
    if nat_lt n (length rest) then Some (text (take n rest), n + 2) else None

-- a number whose whole part has n bytes
abbrev pub number_at : List ℕ → ℕ → Token × ℕ
number_at bytes n =
    let m = fraction_len (drop n bytes) in
    if nat_lt 0 m then (text (take (n + m) bytes), n + m) else (whole_token (take n bytes), n)

abbrev pub number_or_mark : List ℕ → Option (Token × ℕ)
number_or_mark bytes = let n = whole_len bytes in if nat_lt 0 n then Some (number_at bytes n) else mark_at bytes

-- the token at the front, with its length
abbrev pub token_at : List ℕ → Option (Token × ℕ)
token_at [] = None
token_at (c ∷ cs) =
    if is_name_start c then (let n = prefix_len is_name_byte (c ∷ cs) in Some (word (take n (c ∷ cs)), n))
    else if (c == 34) || (c == 39) then quoted_at c cs
    else number_or_mark (c ∷ cs)

abbrev pub with_token : Token → Option (List Token) → Option (List Token)
with_token t (Some ts) = Some (t ∷ ts)
with_token t None = None

-- the tokens of a text, of which the first bytes are passed over
unfoldable pub tokens_after : ℕ → List ℕ → Option (List Token)
tokens_after passed [] = Some []
tokens_after (suc passed) (c ∷ cs) = tokens_after passed cs
tokens_after zero (c ∷ cs) =
    elim (is_white c) [
      | true ↦ tokens_after zero cs
      | false ↦ elim (token_at (c ∷ cs)) [ None ↦ None | Some found ↦ with_token found.0 (tokens_after (found.1 - 1) cs) ]
    ]

-- the tokens of a text, or None where something in it is no token
abbrev pub tokens : List ℕ → Option (List Token)
tokens bytes = tokens_after 0 bytes

abbrev pub is_large : Token → Bool
is_large large = true
is_large _ = false
