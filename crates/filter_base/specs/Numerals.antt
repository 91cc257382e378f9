-- What a value counts as where a number is wanted. After the reference of Liquid 4 (Shopify), "Filters"; docs/PROFILE.md says which texts are numbers.
use Rattle.std.specs.Prelude.{ℕ, ◌==◌, ◌^◌, nat_lt, ℤ, pos, negsuc, Bool, ◌&&◌, not, List, [], ◌∷◌, length, if◌then◌else◌, Result, Ok, Err}
use Rattle.std.specs.List.{list_all, position_or_len, before_first, after_first}
use Rattle.std.specs.Str.Parse.{signed_digits_value}
use Rattle.site_base.specs.Plain.{Plain, nil, bool, int, text, list, hash, site_item, range}
use Rattle.site_base.specs.declared.faults.FaultKind.{FaultKind}
use Rattle.site_base.specs.declared.faults.FaultKind.TheVariants.{Overflow, Fraction}
use Rattle.site_text.specs.Bytes.{is_digit}

abbrev pub fits_i64 : ℤ → Bool
fits_i64 (pos n) = nat_lt n (2 ^ 63)
fits_i64 (negsuc n) = nat_lt n (2 ^ 63)

-- the number, where an i64 holds it
abbrev pub fitting : ℤ → Result ℤ FaultKind
fitting n = if fits_i64 n then Ok n else Err Overflow

abbrev pub is_digits : List ℕ → Bool
is_digits t = not (length t == 0) && list_all is_digit t

abbrev pub without_dash : List ℕ → List ℕ
without_dash [] = []
without_dash (c ∷ cs) = if c == 45 then cs else c ∷ cs

-- digits, behind a dash or not
abbrev pub is_whole : List ℕ → Bool
is_whole t = is_digits (without_dash t)

abbrev pub is_dot : ℕ → Bool
is_dot c = c == 46

-- a whole number, a dot and digits
abbrev pub is_decimal : List ℕ → Bool
is_decimal t = nat_lt (position_or_len is_dot t) (length t) && (is_whole (before_first is_dot t) && is_digits (after_first is_dot t))

abbrev pub text_number : List ℕ → Result ℤ FaultKind
text_number t =
    if is_whole t then fitting (signed_digits_value 10 t)
    else if is_decimal t then Err Fraction
    else Ok (pos 0)

-- what is no number counts as 0
abbrev pub num : Plain → Result ℤ FaultKind
num nil = Ok (pos 0)
num (bool b) = Ok (pos 0)
num (int n) = Ok n
num (text t) = text_number t
num (list is) = Ok (pos 0)
num (hash ps) = Ok (pos 0)
num (site_item path part) = Ok (pos 0)
num (range a b) = Ok (pos 0)
