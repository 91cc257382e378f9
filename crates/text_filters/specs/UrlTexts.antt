-- The filter that reads a text in the form of a URL. After the reference of Liquid 4 (Shopify), "Filters", and RFC 3986, section 2.1.
use Rattle.std.specs.Prelude.{ℕ, ◌+◌, ◌-◌, ◌*◌, ◌==◌, List, [], ◌∷◌, if◌then◌else◌, Option, Some, None, Result, Ok, Err}
use Rattle.std.specs.Option.{option_map}
use Rattle.std.specs.Str.{is_utf8}
use Rattle.site_base.specs.Chains.{◌>>=◌}
use Rattle.site_base.specs.Plain.{Plain, text}
use Rattle.site_base.specs.Values.{value_text}
use Rattle.site_base.specs.declared.faults.FaultKind.{FaultKind}
use Rattle.site_base.specs.declared.faults.FaultKind.TheVariants.{FilterArgument}
use Rattle.site_text.specs.Bytes.{between}
use Rattle.filter_base.specs.Arguments.{no_more}

-- a digit of base 16
abbrev pub hex_value : ℕ → Option ℕ
hex_value d =
    if between 48 57 d then Some (d - 48)
    else if between 65 70 d then Some (d - 55)
    else if between 97 102 d then Some (d - 87)
    else None

abbrev pub both_digits : Option ℕ → Option ℕ → Option ℕ
both_digits (Some high) (Some low) = Some (16 * high + low)
both_digits high low = None

abbrev pub with_byte : Option ℕ → Option (List ℕ) → Option (List ℕ)
with_byte None t = None
with_byte (Some c) t = option_map (λ s. c ∷ s) t

abbrev pub plain_byte : ℕ → ℕ
plain_byte c = if c == 43 then 32 else c

-- a `+` for a space, `%` and two digits for a byte, any other byte for itself
abbrev mutual
  pub url_bytes : List ℕ → Option (List ℕ)
  url_bytes [] = Some []
  url_bytes (c ∷ cs) = if c == 37 then escaped cs else with_byte (Some (plain_byte c)) (url_bytes cs)

  pub escaped : List ℕ → Option (List ℕ)
  escaped [] = None
  escaped (d ∷ []) = None
  escaped (d ∷ e ∷ cs) = with_byte (both_digits (hex_value d) (hex_value e)) (url_bytes cs)

-- bytes that are no text are of a wrong form too
abbrev pub as_text : Option (List ℕ) → Result Plain FaultKind
as_text None = Err FilterArgument
as_text (Some t) = if is_utf8 t then Ok (text t) else Err FilterArgument

abbrev pub url_decode : Plain → List Plain → Result Plain FaultKind
url_decode v ws = no_more ws >>= λ _. as_text (url_bytes (value_text v))
