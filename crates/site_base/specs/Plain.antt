-- What a value is: the plain tree that every contract sees in its place.
use Rattle.std.specs.Prelude.{ℕ, suc, ◌+◌, ◌*◌, ℤ, Bool, List, [], ◌∷◌, Option, Some, None, is_some, if◌then◌else◌}
use Rattle.std.specs.Str.{bytes_eq}

mutual
  -- an item of the site stands for its path and part, a range for both its ends
  pub data Plain : Type 0 where
    nil : Plain
    bool : Bool → Plain
    int : ℤ → Plain
    text : List ℕ → Plain
    list : Items → Plain
    hash : Pairs → Plain
    site_item : List ℕ → ℕ → Plain
    range : ℤ → ℤ → Plain

  pub data Items : Type 0 where
    no_items : Items
    item : Plain → Items → Items

  pub data Pairs : Type 0 where
    no_pairs : Pairs
    pair : List ℕ → Plain → Pairs → Pairs

abbrev pub count : Items → ℕ
count no_items = 0
count (item v is) = suc (count is)

abbrev pub count_pairs : Pairs → ℕ
count_pairs no_pairs = 0
count_pairs (pair k v ps) = suc (count_pairs ps)

-- the items, and then others
abbrev pub onto : Items → Items → Items
onto no_items is = is
onto (item v vs) is = item v (onto vs is)

-- the pairs, and then others
abbrev pub onto_pairs : Pairs → Pairs → Pairs
onto_pairs no_pairs ps = ps
onto_pairs (pair k v qs) ps = pair k v (onto_pairs qs ps)

-- the values of a list as a list
abbrev pub item_list : Items → List Plain
item_list no_items = []
item_list (item v is) = v ∷ item_list is

-- the keys of a hash, in their order
abbrev pub key_list : Pairs → List (List ℕ)
key_list no_pairs = []
key_list (pair k v ps) = k ∷ key_list ps

-- the value of the first pair with the key
abbrev pub get : List ℕ → Pairs → Option Plain
get k no_pairs = None
get k (pair l w ps) = if bytes_eq k l then Some w else get k ps

-- the value stands at the place of the first pair with the key, or with the key behind all others
abbrev pub set : List ℕ → Plain → Pairs → Pairs
set k v no_pairs = pair k v no_pairs
set k v (pair l w ps) = if bytes_eq k l then pair l v ps else pair l w (set k v ps)

-- nil stands at the place of the first pair with the key
abbrev pub taken : List ℕ → Pairs → Pairs
taken k ps = if is_some (get k ps) then set k nil ps else ps

-- how many constructors there are: what recursion over values goes down on
abbrev mutual
  pub weight : Plain → ℕ
  weight nil = 1
  weight (bool b) = 1
  weight (int n) = 1
  weight (text s) = 1
  weight (list is) = items_weight is + 1
  weight (hash ps) = pairs_weight ps + 1
  weight (site_item path part) = 1
  weight (range a b) = 1

  pub items_weight : Items → ℕ
  items_weight no_items = 1
  items_weight (item v is) = weight v + items_weight is + 1

  pub pairs_weight : Pairs → ℕ
  pairs_weight no_pairs = 1
  pairs_weight (pair k v ps) = weight v + pairs_weight ps + 1

-- and through what holds them: a hash is larger than its body, which has the same pairs

abbrev pub list_size : Items → ℕ
list_size is = 2 * items_weight is + 1

abbrev pub body_size : Pairs → ℕ
body_size ps = 2 * pairs_weight ps

abbrev pub hash_size : Pairs → ℕ
hash_size ps = 2 * pairs_weight ps + 1
