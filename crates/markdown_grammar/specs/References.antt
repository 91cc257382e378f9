-- Character references and backslash escapes: CommonMark 0.31.2, sections 2.4 and 2.5.
use Rattle.std.specs.Char.{encode_utf8}
use Rattle.std.specs.Str.Parse.{digits_value}
use Rattle.std.specs.Prelude.{Bool, List, None, Option, Some, [], drop, false, if◌then◌else◌, length, nat_le, nat_lt, not, take, true, ℕ, ◌&&◌, ◌++◌, ◌+◌, ◌-◌, ◌==◌, ◌||◌, ◌∷◌}
use Rattle.site_base.specs.Recursion.{down}
use Rattle.site_text.specs.Bytes.{ampersand, backslash, between, is_alnum, is_digit, is_hex, is_punct, lower_x, number_sign, semicolon, upper_x}
use Rattle.site_text.specs.Fronts.{first_byte, run_len}
use Rattle.markdown_grammar.specs.CharacterNames.{character_names}
use Rattle.markdown_grammar.specs.Fronts.{same_bytes}

-- the character of a name in a table
abbrev pub named_in : List (List ℕ × ℕ) → List ℕ → Option ℕ
named_in [] w = None
named_in (r ∷ rs) w = elim (same_bytes r.0 w) [ true ↦ Some r.1 | false ↦ named_in rs w ]

-- a character's code is no surrogate and at most U+10FFFF; 0 and other numbers give U+FFFD
abbrev pub valid_code : ℕ → ℕ
valid_code n = if (n == 0) || (between 0xD800 0xDFFF n || nat_lt 0x10FFFF n) then 0xFFFD else n

-- a reference: the code of its character, and how many bytes it takes
abbrev pub CharRef : Type 0
CharRef = ℕ × ℕ

-- digits that pass, at most so many, and `;`, behind `&#` or `&#x`, which `skip` counts
abbrev pub numeric_reference : ℕ → (ℕ → Bool) → ℕ → ℕ → List ℕ → Option CharRef
numeric_reference base p most skip t =
    let n = run_len p t in
    if (nat_le 1 n && nat_le n most) && (first_byte (drop n t) == semicolon) then Some (valid_code (digits_value base (take n t)), skip + n + 1) else None

-- a name and `;` behind `&`
abbrev pub named_reference : List ℕ → Option CharRef
named_reference t =
    let n = run_len is_alnum t in
    if first_byte (drop n t) == semicolon then elim (named_in character_names (take n t)) [ Some c ↦ Some (c, n + 2) | None ↦ None ] else None

-- the character reference at the front of a text (2.5)
abbrev pub front_reference : List ℕ → Option CharRef
front_reference [] = None
front_reference (c ∷ cs) = if not (c == ampersand) then None
    else if not (first_byte cs == number_sign) then named_reference cs
    else if (first_byte (drop 1 cs) == lower_x) || (first_byte (drop 1 cs) == upper_x) then numeric_reference 16 is_hex 6 3 (drop 2 cs)
    else numeric_reference 10 is_digit 7 2 (drop 1 cs)

-- what the front of a text stands for, where it is a backslash escape (2.4) or a reference
abbrev pub front_meaning : List ℕ → Option CharRef
front_meaning [] = None
front_meaning (c ∷ cs) = if (c == backslash) && is_punct (first_byte cs) then Some (first_byte cs, 2) else front_reference (c ∷ cs)

-- a text in which each escape and reference is taken for what it stands for, as in info strings, destinations and titles (2.4, 2.5)
abbrev pub resolved_step : (List ℕ → List ℕ) → List ℕ → List ℕ
resolved_step rest [] = []
resolved_step rest (c ∷ cs) = elim (front_meaning (c ∷ cs)) [ Some r ↦ encode_utf8 r.0 ++ rest (drop (r.1 - 1) cs) | None ↦ c ∷ rest cs ]

-- the whole text so
unfoldable pub resolved : List ℕ → List ℕ
resolved t = down length [] resolved_step t
