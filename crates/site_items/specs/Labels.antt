-- Names of categories and tags, after Jekyll 4's manual, "Posts".
use Rattle.std.specs.Prelude.{ℕ, ◌==◌, Bool, not, ◌||◌, List, [], ◌∷◌, length, map, fold, if◌then◌else◌}
use Rattle.std.specs.List.{slice_split}
use Rattle.site_base.specs.Plain.{Plain, nil, text, list, Items, no_items, item, Pairs, no_pairs, set, key_list, item_list}
use Rattle.site_base.specs.Values.{value_text}

-- space, tab, LF, VT, FF and CR
abbrev pub is_white : ℕ → Bool
is_white b = (b == 32) || (b == 9) || (b == 10) || (b == 11) || (b == 12) || (b == 13)

abbrev pub is_some_text : List ℕ → Bool
is_some_text s = not (length s == 0)

-- each once, in the order first seen
abbrev pub add_name : Pairs → List ℕ → Pairs
add_name ps name = if is_some_text name then set name nil ps else ps

-- a text is one name, a list has its values' texts, nothing is no name, and any other value is its text
abbrev pub names_of_one : Plain → List (List ℕ)
names_of_one nil = []
names_of_one (list is) = map value_text (item_list is)
names_of_one v = value_text v ∷ []

-- the same, where a text is what its white space parts
abbrev pub names_of_many : Plain → List (List ℕ)
names_of_many (text s) = slice_split is_white s
names_of_many v = names_of_one v

-- texts as a list of values
abbrev pub text_items : List (List ℕ) → Items
text_items [] = no_items
text_items (s ∷ ss) = item (text s) (text_items ss)

-- the names, each once and none of them empty
abbrev pub each_once : List (List ℕ) → List (List ℕ)
each_once names = key_list (fold add_name no_pairs names)
