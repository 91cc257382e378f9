-- The links of a page: what its open tags give to `href` and `src`. After the HTML standard (WHATWG), sections 13.1.2.3 (attributes) and 13.1.6 (comments).
use Rattle.std.specs.Prelude.{Bool, List, None, Option, Some, [], codes, drop, if◌then◌else◌, length, map, ℕ, ◌++◌, ◌==◌, ◌||◌, ◌∷◌}
use Rattle.std.specs.Char.{to_ascii_lowercase}
use Rattle.std.specs.Str.{bytes_eq, is_utf8}
use Rattle.site_base.specs.Recursion.{down}
use Rattle.site_text.specs.Bytes.{less_than}
use Rattle.site_text.specs.Fronts.{begins_with}
use Rattle.link_check.specs.Tags.{Attribute, Read, open_tag, plus}

-- up to the first place of a mark, and with it: how many bytes
abbrev pub up_to : List ℕ → List ℕ → Option ℕ
up_to mark [] = None
up_to mark (c ∷ cs) = if begins_with mark (c ∷ cs) then Some (length mark) else plus 1 (up_to mark cs)

abbrev pub comment_end : List ℕ
comment_end = codes "-->"

-- `href` or `src`, in any ASCII capitals
abbrev pub leads : List ℕ → Bool
leads name = bytes_eq (map to_ascii_lowercase name) (codes "href") || bytes_eq (map to_ascii_lowercase name) (codes "src")

-- the value of an attribute that leads somewhere
abbrev pub value_of : Attribute → List (List ℕ)
value_of attribute = elim attribute.value [ Some value ↦ if leads attribute.name then value ∷ [] else [] | None ↦ [] ]

abbrev pub values_of : List Attribute → List (List ℕ)
values_of [] = []
values_of (attribute ∷ rest) = value_of attribute ++ values_of rest

-- after the front of a comment: the search goes on after its end, or ends
abbrev pub after_comment : (List ℕ → List (List ℕ)) → List ℕ → List (List ℕ)
after_comment found t = elim (up_to comment_end t) [ Some n ↦ found (drop n t) | None ↦ [] ]

-- the links of an open tag, and then those after it; where there is none, those after the `<`
abbrev pub after_tag : (List ℕ → List (List ℕ)) → List ℕ → Option (Read (List Attribute)) → List (List ℕ)
after_tag found t None = found t
after_tag found t (Some tag) = values_of tag.value ++ found (drop tag.count t)

-- after a `<`
abbrev pub after_less_than : (List ℕ → List (List ℕ)) → List ℕ → List (List ℕ)
after_less_than found t = if begins_with (codes "!--") t then after_comment found (drop 3 t) else after_tag found t (open_tag t)

abbrev pub found_step : (List ℕ → List (List ℕ)) → List ℕ → List (List ℕ)
found_step found [] = []
found_step found (c ∷ cs) = if c == less_than then after_less_than found cs else found cs

-- from the left, in the order in which they stand
unfoldable pub found : List ℕ → List (List ℕ)
found t = down length [] found_step t

-- those of a file's bytes: what is not UTF-8 has none
abbrev pub links : List ℕ → List (List ℕ)
links bytes = if is_utf8 bytes then found bytes else []
