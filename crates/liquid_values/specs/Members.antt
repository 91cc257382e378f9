-- The members of values that need no look-up, where they have them. After the reference of Liquid 4 (Shopify), "Types".
use Rattle.std.specs.Prelude.{ℕ, pos, negsuc, ℤ, nat_lt, ◌-◌, suc, List, length, slice_get, codes, if◌then◌else◌, Option, Some, None}
use Rattle.std.specs.Option.{unwrap_or, option_or}
use Rattle.std.specs.Str.{bytes_eq, chars}
use Rattle.site_base.specs.Plain.{Plain, nil, int, text, list, hash, Items, count, item_list, Pairs, count_pairs, get}
use Rattle.filter_base.specs.Lists.{first_item, last_item}
use Rattle.filter_base.specs.Numerals.{fits_i64}

-- a count as a value; one that no i64 holds is nil
abbrev pub count_value : ℕ → Plain
count_value n = if fits_i64 (pos n) then int (pos n) else nil

-- the member `size`, of so many
abbrev pub size_of : List ℕ → ℕ → Option Plain
size_of x n = if bytes_eq x (codes "size") then Some (count_value n) else None

-- the key of a hash; `size` is the number of its pairs where it has no such key
abbrev pub hash_member : List ℕ → Pairs → Option Plain
hash_member x ps = option_or (get x ps) (size_of x (count_pairs ps))

-- the first and the last of an empty list are nil
abbrev pub list_member : List ℕ → Items → Option Plain
list_member x is =
    if bytes_eq x (codes "first") then Some (first_item is)
    else if bytes_eq x (codes "last") then Some (last_item is)
    else size_of x (count is)

-- `size` is the number of characters
abbrev pub text_member : List ℕ → List ℕ → Option Plain
text_member x t = size_of x (length (chars t))

-- what is neither a hash, a list nor a text has no members; those of an item are looked up
abbrev pub member_value : List ℕ → Plain → Option Plain
member_value x (hash ps) = hash_member x ps
member_value x (list is) = list_member x is
member_value x (text t) = text_member x t
member_value x v = None

-- a place from the front, or from the end where it is negative, where a list of this length has it
abbrev pub place_in : ℤ → ℕ → Option ℕ
place_in (pos n) len = if nat_lt n len then Some n else None
place_in (negsuc n) len = if nat_lt n len then Some (len - suc n) else None

abbrev pub value_in : List Plain → ℕ → Plain
value_in vs n = unwrap_or (slice_get vs n) nil

abbrev pub element_of : Option ℕ → List Plain → Plain
element_of (Some n) vs = value_in vs n
element_of None vs = nil

-- the element of a list at a place, which is nil outside of it
abbrev pub element_at : ℤ → Plain → Option Plain
element_at n (list is) = Some (element_of (place_in n (count is)) (item_list is))
element_at n v = None
