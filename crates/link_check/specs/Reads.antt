-- What the code keeps of a tag: the values that lead somewhere, and how many bytes it takes.
use Rattle.std.specs.Prelude.{List, None, Option, Some, [], ℕ, option_map}
use Rattle.link_check.specs.Links.{values_of}
use Rattle.link_check.specs.Tags.{Attribute, Read}

abbrev pub attribute_of : List ℕ → Option (List ℕ) → Attribute
attribute_of name value = record { name = name; value = value }

abbrev pub count_of : Option (Read (List Attribute)) → Option ℕ
count_of tag = option_map (λ t. t.count) tag

abbrev pub values_in : Option (Read (List Attribute)) → List (List ℕ)
values_in None = []
values_in (Some tag) = values_of tag.value
