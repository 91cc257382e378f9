-- Open tags and their attributes. After the HTML standard (WHATWG), sections 13.1.2.1 and 13.1.2.3, in the form of CommonMark 0.31.2, section 6.6.
use Rattle.std.specs.Prelude.{Bool, List, None, Option, Some, [], drop, if◌then◌else◌, length, nat_lt, not, suc, take, ℕ, ◌+◌, ◌==◌, ◌||◌, ◌∷◌, codes}
use Rattle.site_base.specs.Recursion.{down}
use Rattle.site_text.specs.Bytes.{between, double_quote, equals_sign, greater_than, is_letter, is_one_of, single_quote, slash, space}
use Rattle.site_text.specs.Classes.{is_in}
use Rattle.site_text.specs.declared.classes.Class.TheVariants.{AttributeName, Hyphenated}
use Rattle.site_text.specs.Fronts.{begins_with, first_byte, run_len}

-- what is read at the front of a text, and how many bytes it takes
pub record Read (A : Type 0) : Type 0 where
  pub value : A
  pub count : ℕ

-- what is read after so many bytes
abbrev pub after : {A : Type 0} → ℕ → Option (Read A) → Option (Read A)
after n None = None
after n (Some it) = Some (record { value = it.value; count = n + it.count })

-- a name, and the value that is given to it, if one is
pub record Attribute : Type 0 where
  pub name : List ℕ
  pub value : Option (List ℕ)

-- space, tab, LF, VT, FF and CR
abbrev pub is_gap : ℕ → Bool
is_gap c = (c == space) || between 9 13 c

-- how much white space a text begins with
abbrev pub gap_len : List ℕ → ℕ
gap_len t = run_len is_gap t

-- how long the name is that a text begins with: a first byte, then further ones; 0 where there is none
abbrev pub name_len : (first : ℕ → Bool) (further : ℕ → Bool) → List ℕ → ℕ
name_len first further t = if first (first_byte t) then suc (run_len further (drop 1 t)) else 0

-- a letter, then letters, digits and hyphens
abbrev pub tag_name_len : List ℕ → ℕ
tag_name_len t = name_len is_letter (is_in Hyphenated) t

abbrev pub begins_attribute : ℕ → Bool
begins_attribute c = is_letter c || is_one_of (codes "_:") c

-- a letter, `_` or `:`, then of these, digits, `.` and `-`
abbrev pub attribute_name_len : List ℕ → ℕ
attribute_name_len t = name_len begins_attribute (is_in AttributeName) t

abbrev pub is_unquoted : ℕ → Bool
is_unquoted c = not (is_gap c || is_one_of (codes "\"'=<>`") c)

-- up to a quote, and with it
abbrev pub quoted : ℕ → List ℕ → Option (Read (List ℕ))
quoted quote t = let n = run_len (λ c. not (c == quote)) t in if nat_lt n (length t) then Some (record { value = take n t; count = suc n }) else None

-- a value: in quotes, or one byte or more without white space, quotes, `=`, `<`, `>` and backtick
abbrev pub value_at : List ℕ → Option (Read (List ℕ))
value_at t =
    if (first_byte t == double_quote) || (first_byte t == single_quote) then after 1 (quoted (first_byte t) (drop 1 t))
    else let n = run_len is_unquoted t in if n == 0 then None else Some (record { value = take n t; count = n })

-- a value, with white space before it
abbrev pub spaced : List ℕ → Option (Read (List ℕ))
spaced t = after (gap_len t) (value_at (drop (gap_len t) t))

-- `=` and a value
abbrev pub given : List ℕ → Option (Read (List ℕ))
given t = if begins_with (equals_sign ∷ []) t then after 1 (spaced (drop 1 t)) else None

-- `=` and a value, with white space around the sign
abbrev pub assigned : List ℕ → Option (Read (List ℕ))
assigned t = after (gap_len t) (given (drop (gap_len t) t))

-- an attribute with the bytes that it takes
abbrev pub attribute_read : List ℕ → Option (List ℕ) → ℕ → Read Attribute
attribute_read name value count = record { value = record { name = name; value = value }; count = count }

-- a name, which takes so many bytes with what stands before it, and the value after it, if there is one
abbrev pub with_value : List ℕ → ℕ → Option (Read (List ℕ)) → Read Attribute
with_value name n None = attribute_read name None n
with_value name n (Some it) = attribute_read name (Some it.value) (n + it.count)

-- white space, a name, and perhaps a value
abbrev pub attribute : List ℕ → Option (Read Attribute)
attribute t =
    let gap = gap_len t in
    let name = attribute_name_len (drop gap t) in
    if (gap == 0) || (name == 0) then None else Some (with_value (take name (drop gap t)) (gap + name) (assigned (drop (gap + name) t)))

abbrev pub no_attributes : Read (List Attribute)
no_attributes = record { value = []; count = 0 }

-- an attribute, and then those that follow it
abbrev pub joined : Read Attribute → Read (List Attribute) → Read (List Attribute)
joined one others = record { value = one.value ∷ others.value; count = one.count + others.count }

abbrev pub attributes_step : (List ℕ → Read (List Attribute)) → List ℕ → Read (List Attribute)
attributes_step attributes t = elim (attribute t) [ Some one ↦ joined one (attributes (drop one.count t)) | None ↦ no_attributes ]

-- as many attributes as there are
unfoldable pub attributes : List ℕ → Read (List Attribute)
attributes t = down length no_attributes attributes_step t

-- so many bytes more
abbrev pub plus : ℕ → Option ℕ → Option ℕ
plus n None = None
plus n (Some k) = Some (n + k)

-- `>`
abbrev pub closed : List ℕ → Option ℕ
closed t = if begins_with (greater_than ∷ []) t then Some 1 else None

-- perhaps `/`, and `>`
abbrev pub slashed : List ℕ → Option ℕ
slashed t = if begins_with (slash ∷ []) t then plus 1 (closed (drop 1 t)) else closed t

-- how many bytes the end of a tag takes: white space, perhaps `/`, and `>`
abbrev pub tag_end : List ℕ → Option ℕ
tag_end t = plus (gap_len t) (slashed (drop (gap_len t) t))

abbrev pub ended : Read (List Attribute) → Option ℕ → Option (Read (List Attribute))
ended inside None = None
ended inside (Some n) = Some (record { value = inside.value; count = inside.count + n })

-- attributes, and the end of the tag
abbrev pub tag_rest : List ℕ → Option (Read (List Attribute))
tag_rest t = ended (attributes t) (tag_end (drop (attributes t).count t))

-- the attributes of the open tag that a `<` before the text begins
abbrev pub open_tag : List ℕ → Option (Read (List Attribute))
open_tag t = if tag_name_len t == 0 then None else after (tag_name_len t) (tag_rest (drop (tag_name_len t) t))
