-- What a plain scalar stands for: nothing, a truth value, an integer or a text.
use Rattle.std.specs.Prelude.{ℕ, zero, suc, ◌+◌, ◌-◌, ◌*◌, ◌^◌, ◌==◌, Bool, true, false, ◌&&◌, ◌||◌, not, List, [], ◌∷◌, nat_lt, nat_le, if◌then◌else◌, Ok, Err, ℤ, pos, negsuc, codes}
use Rattle.std.specs.Char.{is_ascii_digit}
use Rattle.std.specs.List.{list_all}
use Rattle.std.specs.Str.{bytes_eq}
use Rattle.site_base.specs.declared.faults.YamlKind.TheVariants as kind
use Rattle.site_base.specs.Plain.{Plain, nil, bool, int, text}
use Rattle.front_yaml.specs.Reading.{Reading}
use Rattle.front_yaml.specs.Bytes.{starts, is_empty}

abbrev pub is_among : List ℕ → List (List ℕ) → Bool
is_among s [] = false
is_among s (w ∷ ws) = bytes_eq s w || is_among s ws

abbrev pub number_from : ℕ → List ℕ → ℕ
number_from n [] = n
number_from n (c ∷ cs) = number_from (n * 10 + (c - 48)) cs

-- decimal digits without a leading zero, or `0`
abbrev pub is_number : List ℕ → Bool
is_number s = not (is_empty s) && list_all is_ascii_digit s && (not (starts 48 s) || bytes_eq s (48 ∷ []))

abbrev pub unsigned : List ℕ → List ℕ
unsigned [] = []
unsigned (c ∷ cs) = if (c == 43) || (c == 45) then cs else c ∷ cs

abbrev pub negated : ℕ → ℤ
negated zero = pos 0
negated (suc n) = negsuc n

abbrev pub in_range : Bool → ℕ → Bool
in_range minus n = if minus then nat_le n (2 ^ 63) else nat_lt n (2 ^ 63)

abbrev pub integer : Bool → ℕ → Reading Plain
integer minus n = if in_range minus n then Ok (int (if minus then negated n else pos n)) else Err (0, kind.Number)

-- YAML 1.2.2, section 10.3.2, and YAML 1.1 for `yes`, `no`, `on` and `off`
abbrev pub is_nil_word : List ℕ → Bool
is_nil_word s = is_empty s || is_among s (codes "~" ∷ codes "null" ∷ codes "Null" ∷ codes "NULL" ∷ [])

abbrev pub is_true_word : List ℕ → Bool
is_true_word s = is_among s (codes "true" ∷ codes "True" ∷ codes "TRUE" ∷ codes "yes" ∷ codes "Yes" ∷ codes "YES" ∷ codes "on" ∷ codes "On" ∷ codes "ON" ∷ [])

abbrev pub is_false_word : List ℕ → Bool
is_false_word s = is_among s (codes "false" ∷ codes "False" ∷ codes "FALSE" ∷ codes "no" ∷ codes "No" ∷ codes "NO" ∷ codes "off" ∷ codes "Off" ∷ codes "OFF" ∷ [])

abbrev pub resolve : List ℕ → Reading Plain
resolve s =
    if is_nil_word s then Ok nil
    else if is_true_word s then Ok (bool true)
    else if is_false_word s then Ok (bool false)
    else if is_number (unsigned s) then integer (starts 45 s) (number_from 0 (unsigned s))
    else Ok (text s)
