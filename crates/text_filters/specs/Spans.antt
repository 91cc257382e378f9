-- The filters that keep a part of a text or a list. After the reference of Liquid 4 (Shopify), "Filters".
use Rattle.std.specs.Prelude.{ℕ, zero, suc, ◌-◌, nat_lt, ℤ, pos, int_lt, unsigned_abs, Bool, ◌||◌, List, [], ◌++◌, codes, if◌then◌else◌, Option, Some, None, Result, Ok}
use Rattle.std.specs.Option.{option_map}
use Rattle.site_base.specs.Chains.{◌>>=◌}
use Rattle.site_base.specs.Plain.{Plain, nil, bool, int, text, list, hash, site_item, range, Items, no_items, item, count}
use Rattle.site_base.specs.Values.{value_text}
use Rattle.site_base.specs.declared.faults.FaultKind.{FaultKind}
use Rattle.filter_base.specs.Arguments.{one_or_two, up_to_two}
use Rattle.filter_base.specs.Numerals.{num}
use Rattle.text_filters.specs.Characters.{char_count, chars_from, chars_upto}
use Rattle.text_filters.specs.declared.spans.Span.{Span}
use Rattle.text_filters.specs.declared.spans.Span.TheVariants.{Slice, Truncate}

abbrev pub number_or : ℤ → Option Plain → Result ℤ FaultKind
number_or n None = Ok n
number_or n (Some w) = num w

abbrev pub text_or : List ℕ → Option Plain → List ℕ
text_or t None = t
text_or t (Some w) = value_text w

-- ---- slice

-- the place where a part begins: a negative number counts from the end
abbrev pub place : ℤ → ℕ → Option ℕ
place z n =
    if nat_lt n (unsigned_abs z) then None
    else Some (if int_lt z (pos 0) then n - unsigned_abs z else unsigned_abs z)

-- and how many belong to it
abbrev pub extent : ℤ → ℤ → ℕ → Option (ℕ × ℕ)
extent start len n = if int_lt len (pos 0) then None else option_map (λ p. (p, unsigned_abs len)) (place start n)

abbrev pub items_from : ℕ → Items → Items
items_from zero is = is
items_from (suc n) no_items = no_items
items_from (suc n) (item v is) = items_from n is

abbrev pub items_upto : ℕ → Items → Items
items_upto zero is = no_items
items_upto (suc n) no_items = no_items
items_upto (suc n) (item v is) = item v (items_upto n is)

abbrev pub text_part : Option (ℕ × ℕ) → List ℕ → List ℕ
text_part None t = []
text_part (Some e) t = chars_upto e.1 (chars_from e.0 t)

abbrev pub list_part : Option (ℕ × ℕ) → Items → Items
list_part None is = no_items
list_part (Some e) is = items_upto e.1 (items_from e.0 is)

abbrev pub text_slice : ℤ → ℤ → List ℕ → Plain
text_slice start len t = text (text_part (extent start len (char_count t)) t)

-- of a list its items, of any other value the characters of its text
abbrev pub sliced : ℤ → ℤ → Plain → Plain
sliced start len nil = text_slice start len (value_text nil)
sliced start len (bool b) = text_slice start len (value_text (bool b))
sliced start len (int n) = text_slice start len (value_text (int n))
sliced start len (text t) = text_slice start len (value_text (text t))
sliced start len (list is) = list (list_part (extent start len (count is)) is)
sliced start len (hash ps) = text_slice start len (value_text (hash ps))
sliced start len (site_item path part) = text_slice start len (value_text (site_item path part))
sliced start len (range a b) = text_slice start len (value_text (range a b))

abbrev pub slice : Plain → Plain × Option Plain → Result Plain FaultKind
slice v ws = num ws.0 >>= λ start. number_or (pos 1) ws.1 >>= λ len. Ok (sliced start len v)

-- ---- truncate

abbrev pub is_longer : ℕ → ℤ → Bool
is_longer n z = int_lt z (pos 0) || nat_lt (unsigned_abs z) n

-- how many characters stay before an ending of so many
abbrev pub kept : ℤ → ℕ → ℕ
kept z n = if int_lt z (pos 0) then 0 else unsigned_abs z - n

abbrev pub truncated : ℤ → List ℕ → List ℕ → List ℕ
truncated z ending t = if is_longer (char_count t) z then chars_upto (kept z (char_count ending)) t ++ ending else t

abbrev pub truncate : Plain → Option Plain × Option Plain → Result Plain FaultKind
truncate v ws = number_or (pos 50) ws.0 >>= λ z. Ok (text (truncated z (text_or (codes "...") ws.1) (value_text v)))

abbrev pub span_filter : Span → Plain → List Plain → Result Plain FaultKind
span_filter Slice v ws = one_or_two ws >>= slice v
span_filter Truncate v ws = up_to_two ws >>= truncate v
