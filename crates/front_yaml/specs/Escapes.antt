-- The escapes of double-quoted scalars: YAML 1.2.2, section 5.7, without those for white space and for blank characters.
use Rattle.std.specs.Prelude.{ℕ, ◌+◌, ◌-◌, ◌*◌, ◌==◌, ◌&&◌, ◌||◌, List, [], ◌∷◌, length, take, nat_le, if◌then◌else◌, Option, Some, None}
use Rattle.std.specs.Char.{is_ascii_hexdigit}
use Rattle.std.specs.List.{list_all}
use Rattle.std.proofs.Math.Utf8.{scalar}

-- the character of `\"`, `\\`, `\/`, `\0`, `\a`, `\b`, `\t`, `\n`, `\v`, `\f`, `\r` and `\e`
abbrev pub named_char : ℕ → Option ℕ
named_char e =
    if (e == 34) || (e == 92) || (e == 47) then Some e
    else if e == 48 then Some 0
    else if e == 97 then Some 7
    else if e == 98 then Some 8
    else if e == 116 then Some 9
    else if e == 110 then Some 10
    else if e == 118 then Some 11
    else if e == 102 then Some 12
    else if e == 114 then Some 13
    else if e == 101 then Some 27
    else None

abbrev pub hex_digit : ℕ → ℕ
hex_digit c = if nat_le c 57 then c - 48 else if nat_le c 70 then c - 55 else c - 87

abbrev pub hex_from : ℕ → List ℕ → ℕ
hex_from n [] = n
hex_from n (c ∷ cs) = hex_from (n * 16 + hex_digit c) cs

-- the character whose number, a scalar value of Unicode, stands in n hexadecimal digits
abbrev pub hex_char : ℕ → List ℕ → Option ℕ
hex_char n s = let ds = take n s in
    if (length ds == n) && list_all is_ascii_hexdigit ds && scalar (hex_from 0 ds) then Some (hex_from 0 ds) else None

abbrev pub of_length : ℕ → Option ℕ → Option (ℕ × ℕ)
of_length n None = None
of_length n (Some c) = Some (c, n)

-- the character for which an escape stands, and its bytes after the `\`
abbrev pub escape : List ℕ → Option (ℕ × ℕ)
escape [] = None
escape (e ∷ s) =
    if e == 120 then of_length 3 (hex_char 2 s)
    else if e == 117 then of_length 5 (hex_char 4 s)
    else if e == 85 then of_length 9 (hex_char 8 s)
    else of_length 1 (named_char e)
