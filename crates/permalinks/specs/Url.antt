-- URLs: templates with placeholders, after Jekyll 4's manual, "Permalinks".
use Rattle.std.specs.Prelude.{◌≡◌, ◌≤◌, ◌⊎◌, ℕ, length, ◌==◌, nat_le, Bool, true, false, ◌&&◌, ◌||◌, List, [], ◌∷◌, ◌++◌, take, drop, codes, Option, Some, None}
use Rattle.std.specs.Option.{option_map}
use Rattle.std.specs.List.{prefix_len, slice_split}
use Rattle.std.specs.Str.{IsUtf8, IsCharBoundary}
use Rattle.permalinks.specs.Placeholders.{Values, field, value}
use Rattle.permalinks.specs.declared.parts.UrlParts.{UrlParts}
use Rattle.permalinks.specs.declared.template.UrlError.{UrlError}
use Rattle.permalinks.specs.declared.template.UrlError.TheVariants.{Placeholder, Memory}

-- `a` to `z` and `_`
abbrev pub is_name : ℕ → Bool
is_name b = (nat_le 97 b && nat_le b 122) || (b == 95)

-- the length of the name that a part of a template begins with, which is as long as it can be
abbrev pub name_len : List ℕ → ℕ
name_len part = prefix_len is_name part

-- a text may be cut at this place
abbrev pub IsCut : List ℕ → ℕ → Type 0
IsCut text at = (at ≤ length text) × (IsUtf8 text → IsCharBoundary text at)

-- a part of a template that stands behind a `:`, with the value in place of its name
abbrev pub part_text : Values → List ℕ → Option (List ℕ)
part_text values part = option_map (λ text. text ++ drop (name_len part) part) (field values (take (name_len part) part))

-- one text behind another, where both are there
abbrev pub both : Option (List ℕ) → Option (List ℕ) → Option (List ℕ)
both None after = None
both (Some before) None = None
both (Some before) (Some after) = Some (before ++ after)

abbrev pub parts_text : Values → List (List ℕ) → Option (List ℕ)
parts_text values [] = Some []
parts_text values (part ∷ rest) = both (part_text values part) (parts_text values rest)

abbrev pub is_colon : ℕ → Bool
is_colon b = b == 58

-- what stands before the first `:` is text
abbrev pub template_text : Values → List (List ℕ) → Option (List ℕ)
template_text values [] = Some []
template_text values (part ∷ rest) = both (Some part) (parts_text values rest)

-- the template with a value in place of each placeholder, where each has one
abbrev pub filled : Values → List ℕ → Option (List ℕ)
filled values template = template_text values (slice_split is_colon template)

abbrev pub is_slash : ℕ → Bool
is_slash b = b == 47

-- each segment that is not empty behind a `/`; where the last is empty, as `ends` says at the end, it leaves its `/`
abbrev pub behind_slashes : Bool → List (List ℕ) → List ℕ
behind_slashes true [] = codes "/"
behind_slashes false [] = []
behind_slashes ends ([] ∷ segments) = behind_slashes true segments
behind_slashes ends ((b ∷ segment) ∷ segments) = (47 ∷ b ∷ segment) ++ behind_slashes false segments

-- with `/` in front, and one `/` for each run of them
abbrev pub with_slashes : List ℕ → List ℕ
with_slashes text = behind_slashes false (slice_split is_slash text)

-- the URL that a template makes of these values
abbrev pub url_by : List ℕ → Values → Option (List ℕ)
url_by template values = option_map with_slashes (filled values template)

abbrev pub url : List ℕ → UrlParts → Option (List ℕ)
url template parts = url_by template (value parts)

-- memory aside, only a template without such a text is refused
abbrev pub IsRefusal : Option (List ℕ) → UrlError → Type 0
IsRefusal text error = (error ≡ Memory) ⊎ ((error ≡ Placeholder) × (text ≡ None))
