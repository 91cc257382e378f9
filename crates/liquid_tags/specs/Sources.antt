-- Where the elements of a loop stand, and how many of them are gone over.
use Rattle.std.specs.Prelude.{ℕ, min, pos, ℤ, ◌+ℤ◌, [], Option, Some, None}
use Rattle.site_base.specs.Plain.{item_list}
use Rattle.filter_base.specs.Elements.{counted}
use Rattle.liquid_tags.specs.declared.elements.Source.{Source}
use Rattle.liquid_tags.specs.declared.elements.Source.TheVariants as source
use Rattle.liquid_tags.specs.Elements.{lone_text, pair_list}
use Rattle.liquid_tags.specs.ValueLists.{Values}

abbrev pub all_of : Source → Values
all_of source.Nothing = []
all_of (source.Text t) = lone_text t
all_of (source.List is) = item_list is
all_of (source.Pairs ps) = pair_list ps
all_of (source.Numbers a n) = item_list (counted a n)

-- the number behind the last
abbrev pub next_number : Source → ℤ
next_number source.Nothing = pos 0
next_number (source.Text t) = pos 0
next_number (source.List is) = pos 0
next_number (source.Pairs ps) = pos 0
next_number (source.Numbers a n) = a +ℤ pos n

-- of so many elements, how many are passed over at the front, and how many are kept
abbrev pub passed : Option ℕ → ℕ → ℕ
passed None len = 0
passed (Some n) len = min n len

abbrev pub kept : Option ℕ → ℕ → ℕ
kept None len = len
kept (Some n) len = min n len
