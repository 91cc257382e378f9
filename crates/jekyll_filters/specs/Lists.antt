-- The filters of lists that look nothing up. After Jekyll 4's manual, "Liquid Filters".
use Rattle.std.specs.Prelude.{ℕ, ◌+◌, ◌==◌, nat_lt, List, [], ◌++◌, codes, if◌then◌else◌, Option, Some, None, Result, Ok}
use Rattle.site_base.specs.Chains.{◌>>=◌}
use Rattle.site_base.specs.Plain.{Plain, text, list, Items, no_items, item, count, onto}
use Rattle.site_base.specs.Values.{value_text}
use Rattle.site_base.specs.declared.faults.FaultKind.{FaultKind}
use Rattle.filter_base.specs.Arguments.{no_more, one, one_or_none}
use Rattle.filter_base.specs.Elements.{elements, alone}
use Rattle.jekyll_filters.specs.declared.lists.ListFilter.{ListFilter}
use Rattle.jekyll_filters.specs.declared.lists.ListFilter.TheVariants.{ArrayToSentenceString, Pop, Push, Shift, Unshift}

-- without the last
abbrev pub front_of : Plain → Items → Items
front_of v no_items = no_items
front_of v (item w is) = item v (front_of w is)

abbrev pub without_last : Items → Items
without_last no_items = no_items
without_last (item v is) = front_of v is

abbrev pub without_first : Items → Items
without_first no_items = no_items
without_first (item v is) = is

-- ---- a sentence: `a`, `a and b`, `a, b, and c`

-- what stands before the last of several
abbrev pub before_last : List ℕ → ℕ → List ℕ
before_last connector count = (if count == 2 then codes " " else codes ", ") ++ (connector ++ codes " ")

-- what stands before the element at this place of so many
abbrev pub words_before : List ℕ → ℕ → ℕ → List ℕ
words_before connector place count =
    if place == 0 then []
    else if nat_lt (place + 1) count then codes ", "
    else before_last connector count

-- the elements from a place on
abbrev pub sentence_from : List ℕ → ℕ → ℕ → Items → List ℕ
sentence_from connector place count no_items = []
sentence_from connector place count (item v is) = words_before connector place count ++ (value_text v ++ sentence_from connector (place + 1) count is)

abbrev pub sentence : List ℕ → Items → List ℕ
sentence connector is = sentence_from connector 0 (count is) is

-- the text of an argument, or `and` where there is none
abbrev pub connector_text : Option Plain → List ℕ
connector_text None = codes "and"
connector_text (Some w) = value_text w

-- ---- the filters

abbrev pub pop : Plain → Result Plain FaultKind
pop v = elements v >>= λ is. Ok (list (without_last is))

abbrev pub push : Plain → Plain → Result Plain FaultKind
push v w = elements v >>= λ is. Ok (list (onto is (alone w)))

abbrev pub shift : Plain → Result Plain FaultKind
shift v = elements v >>= λ is. Ok (list (without_first is))

abbrev pub unshift : Plain → Plain → Result Plain FaultKind
unshift v w = elements v >>= λ is. Ok (list (item w is))

abbrev pub array_to_sentence_string : Plain → Option Plain → Result Plain FaultKind
array_to_sentence_string v connector = elements v >>= λ is. Ok (text (sentence (connector_text connector) is))

abbrev pub list_filter : ListFilter → Plain → List Plain → Result Plain FaultKind
list_filter ArrayToSentenceString v ws = one_or_none ws >>= array_to_sentence_string v
list_filter Pop v ws = no_more ws >>= λ _. pop v
list_filter Push v ws = one ws >>= push v
list_filter Shift v ws = no_more ws >>= λ _. shift v
list_filter Unshift v ws = one ws >>= unshift v
