-- The values that a configuration's `defaults` give to an item, and the item's own before them. After Jekyll 4's manual, "Front Matter Defaults".
use Rattle.std.specs.Prelude.{ℕ, ◌+◌, ◌*◌, ◌==◌, Bool, true, ◌&&◌, ◌||◌, List, length, Option, Some, None, codes, is_some, fold, unwrap_or, if◌then◌else◌}
use Rattle.std.specs.Ordering.{is_lt, nat_cmp}
use Rattle.std.specs.Str.{bytes_eq}
use Rattle.site_base.specs.StableSort.{stable_sort}
use Rattle.site_base.specs.Plain.{Plain, nil, Pairs, no_pairs, pair, get, set}
use Rattle.site_config.specs.declared.config.Config.{Config}
use Rattle.site_config.specs.declared.scope.Scope.{Scope}
use Rattle.site_files.specs.Choosing.{covers, without_slash}
use Rattle.site_items.specs.Addresses.{collection_of, name_of}
use Rattle.site_items.specs.declared.kind.Kind.{Kind}
use Rattle.site_items.specs.declared.kind.Kind.TheVariants as kind

-- the value of a variable, or nil where it has none
abbrev pub variable : List ℕ → Pairs → Plain
variable name ps = unwrap_or (get name ps) nil

-- pairs, over others
abbrev pub set_all : Pairs → Pairs → Pairs
set_all no_pairs under = under
set_all (pair k v ps) under = set_all ps (set k v under)

-- a scope without a path is for all items, and another for its path and all below it
abbrev pub is_for_path : List ℕ → Scope → Bool
is_for_path path s = let place = without_slash s.path in (length place == 0) || covers path place

-- the types by which a scope names an item: documents have the name of their collection, so a draft is one of the posts, too
abbrev pub has_type : Config → Kind → List ℕ → Bool
has_type config kind.Page type = bytes_eq type (codes "pages")
has_type config kind.Draft type = bytes_eq type (codes "drafts") || bytes_eq type (name_of (collection_of config kind.Draft))
has_type config k type = bytes_eq type (name_of (collection_of config k))

abbrev pub is_for_kind : Config → Kind → Option (List ℕ) → Bool
is_for_kind config k None = true
is_for_kind config k (Some type) = has_type config k type

abbrev pub fits : Config → Kind → List ℕ → Scope → Bool
fits config k path s = is_for_path path s && is_for_kind config k s.kind

-- the longer path counts more, and of paths of one length the one with a type
abbrev pub strength : Scope → ℕ
strength s = 2 * length (without_slash s.path) + (if is_some s.kind then 1 else 0)

abbrev pub is_weaker : Scope → Scope → Bool
is_weaker s other = is_lt (nat_cmp (strength s) (strength other))

-- the stronger behind the weaker, and of equal ones the later behind the earlier
abbrev pub by_strength : List Scope → List Scope
by_strength scopes = stable_sort is_weaker scopes

abbrev pub with_scope : Config → Kind → List ℕ → Pairs → Scope → Pairs
with_scope config k path under s = if fits config k path s then set_all s.values under else under

-- what the scopes give to the item of this kind at this path, each over those before it
abbrev pub defaults : Config → List Scope → Kind → List ℕ → Pairs
defaults config ordered k path = fold (with_scope config k path) no_pairs ordered

-- the variables of an item: its own, over what the scopes give it
abbrev pub variables : Config → List Scope → Kind → List ℕ → Pairs → Pairs
variables config ordered k path own = set_all own (defaults config ordered k path)
