-- The filters of lists that look nothing up. After the reference of Liquid 4 (Shopify), "Filters".
use Rattle.std.specs.Prelude.{ℕ, pos, Bool, true, false, not, List, [], ◌∷◌, ◌++◌, length, if◌then◌else◌, ◌==◌, Option, Some, None, Result, Ok, Err}
use Rattle.std.specs.Str.{chars}
use Rattle.site_base.specs.Chains.{◌>>=◌}
use Rattle.site_base.specs.Plain.{Plain, nil, bool, int, text, list, hash, site_item, range, Items, no_items, item, count, count_pairs, onto}
use Rattle.site_base.specs.Values.{value_text}
use Rattle.site_base.specs.declared.faults.FaultKind.{FaultKind}
use Rattle.site_base.specs.declared.faults.FaultKind.TheVariants.{FilterArgument}
use Rattle.filter_base.specs.Arguments.{no_more, one, one_or_none}
use Rattle.filter_base.specs.Elements.{elements, range_count, range_len}
use Rattle.filter_base.specs.Numerals.{fitting}
use Rattle.filter_base.specs.declared.lists.ListFilter.{ListFilter}
use Rattle.filter_base.specs.declared.lists.ListFilter.TheVariants.{Concat, Default, First, Join, Last, Reverse, Size}

abbrev pub first_item : Items → Plain
first_item no_items = nil
first_item (item v is) = v

abbrev pub last_or : Plain → Items → Plain
last_or v no_items = v
last_or v (item w is) = last_or w is

abbrev pub last_item : Items → Plain
last_item is = last_or nil is

-- from the last to the first
abbrev pub reversed : Items → Items
reversed no_items = no_items
reversed (item v is) = onto (reversed is) (item v no_items)

-- the texts of the items, the first behind one text and each other behind another
abbrev pub texts_behind : List ℕ → List ℕ → Items → List ℕ
texts_behind before between no_items = []
texts_behind before between (item v is) = before ++ (value_text v ++ texts_behind between between is)

-- with this text between them
abbrev pub joined : List ℕ → Items → List ℕ
joined between is = texts_behind [] between is

-- the text of an argument, or a space where there is none
abbrev pub between_text : Option Plain → List ℕ
between_text None = 32 ∷ []
between_text (Some w) = value_text w

-- how many characters, items, pairs or numbers
abbrev pub count_of : Plain → Result ℕ FaultKind
count_of nil = Ok 0
count_of (bool b) = Ok 0
count_of (int n) = Ok 0
count_of (text t) = Ok (length (chars t))
count_of (list is) = Ok (count is)
count_of (hash ps) = Ok (count_pairs ps)
count_of (site_item path part) = Ok 0
count_of (range a b) = range_count (range_len a b)

-- the items of a list alone
abbrev pub listed : Plain → Result Items FaultKind
listed (list is) = Ok is
listed v = Err FilterArgument

-- nil, false, and what is empty
abbrev pub is_blank : Plain → Bool
is_blank nil = true
is_blank (bool b) = not b
is_blank (int n) = false
is_blank (text t) = length t == 0
is_blank (list is) = count is == 0
is_blank (hash ps) = count_pairs ps == 0
is_blank (site_item path part) = false
is_blank (range a b) = false

-- ---- the filters

abbrev pub concat : Plain → Plain → Result Plain FaultKind
concat v w = elements v >>= λ is. listed w >>= λ js. Ok (list (onto is js))

abbrev pub default : Plain → Plain → Result Plain FaultKind
default v w = Ok (if is_blank v then w else v)

abbrev pub first : Plain → Result Plain FaultKind
first v = elements v >>= λ is. Ok (first_item is)

abbrev pub join : Plain → Option Plain → Result Plain FaultKind
join v between = elements v >>= λ is. Ok (text (joined (between_text between) is))

abbrev pub last : Plain → Result Plain FaultKind
last v = elements v >>= λ is. Ok (last_item is)

abbrev pub reverse : Plain → Result Plain FaultKind
reverse v = elements v >>= λ is. Ok (list (reversed is))

abbrev pub size : Plain → Result Plain FaultKind
size v = count_of v >>= λ n. fitting (pos n) >>= λ m. Ok (int m)

abbrev pub list_filter : ListFilter → Plain → List Plain → Result Plain FaultKind
list_filter Concat v ws = one ws >>= concat v
list_filter Default v ws = one ws >>= default v
list_filter First v ws = no_more ws >>= λ _. first v
list_filter Join v ws = one_or_none ws >>= join v
list_filter Last v ws = no_more ws >>= λ _. last v
list_filter Reverse v ws = no_more ws >>= λ _. reverse v
list_filter Size v ws = no_more ws >>= λ _. size v
