-- What first names stand for. After the reference of Liquid 4 (Shopify), "Variables", and Jekyll 4's manual, "Variables".
use Rattle.std.specs.Prelude.{◌==◌, ℕ, zero, suc, Bool, true, false, ◌&&◌, ◌||◌, List, [], ◌∷◌, codes, if◌then◌else◌, Option, Some, None}
use Rattle.std.specs.Map.{lookup}
use Rattle.std.specs.Option.{option_or}
use Rattle.std.specs.Str.{bytes_eq}
use Rattle.site_base.specs.Plain.{Plain, nil, text, list, hash, site_item, Items, no_items, item, onto, Pairs, no_pairs, pair, get}
use Rattle.site_base.specs.declared.faults.SiteFault.{SiteFault}
use Rattle.site_base.specs.declared.item_name.ItemName.{ItemName}
use Rattle.read_record.specs.declared.key.Key.{Key}
use Rattle.read_record.specs.declared.key.Key.TheVariants.{Paginator, SiteVar, Data, Var}
use Rattle.read_record.specs.Queries.{Query, Give, Ask, bind}
use Rattle.filter_base.specs.Answers.{limited}
use Rattle.filter_base.specs.Dates.{date}
use Rattle.liquid_values.specs.Places.{Manner, of_body, of_excerpt, of_layout, Place, placed}
use Rattle.liquid_values.specs.StrictOptions.{asked, defined}

-- what a name or a member stands for: a value, `site`, which has members alone, or what its data has under these keys
pub data Found : Type 0 where
  value : Plain → Found
  the_site : Found
  the_data : Items → Found

-- its value: data is looked up where no further key follows
abbrev pub settled : Place → Found → Query SiteFault Plain
settled p (value v) = Give v
settled p the_site = Give nil
settled p (the_data keys) = asked p (Data keys)

abbrev pub given : Plain → Query SiteFault Found
given v = Give (value v)

-- a value where it is there; else it is undefined
abbrev pub reached : Place → Option Plain → Query SiteFault Found
reached p v = bind (defined p v) given

-- the value of a key
abbrev pub looked_up : Place → Key → Query SiteFault Found
looked_up p k = bind (asked p k) given

-- what the member `excerpt` of an item is, for a tag at a place
abbrev pub Excerpting : Type 0
Excerpting = Place → ItemName → Query SiteFault Found

-- the item's own excerpt, which is nil where it has none
abbrev pub own_excerpt : Excerpting
own_excerpt p n = Ask (Var n (codes "excerpt")) given

abbrev pub jekyll : Plain
jekyll = hash (pair (codes "environment") (text (codes "development")) (pair (codes "version") (text (codes "4")) no_pairs))

-- the names that only a layout has
abbrev pub layout_name : List ℕ → Manner → Option Plain
layout_name x (of_layout own content layout) = if bytes_eq x (codes "content") then Some (text content) else if bytes_eq x (codes "layout") then Some layout else None
layout_name x of_body = None
layout_name x of_excerpt = None

-- the names that need no variable
abbrev pub standing : Place → List ℕ → Query SiteFault Found
standing p x =
    if bytes_eq x (codes "site") then Give the_site
    else if bytes_eq x (codes "page") then given (site_item p.page.path p.page.part)
    else if bytes_eq x (codes "paginator") then looked_up p (Paginator p.page)
    else if bytes_eq x (codes "jekyll") then given jekyll
    else reached p (layout_name x p.manner)

abbrev pub variable_or : Option Plain → Query SiteFault Found → Query SiteFault Found
variable_or (Some v) other = given v
variable_or None other = other

-- a variable of a loop or an include around, one that was assigned, or a name that needs none
abbrev pub named : Place → Pairs → List ℕ → Query SiteFault Found
named p assigned x = variable_or (option_or (lookup (bytes_eq x) p.locals) (get x assigned)) (standing p x)

-- ---- The members of `site`

-- the moment of the build, as dates are written: what the filter `date` gives for `now`
abbrev pub time_pattern : List ℕ
time_pattern = codes "%Y-%m-%d %H:%M:%S %z"

unfoldable pub time_query : Place → Query SiteFault Plain
time_query p = placed p (limited (date (text (codes "now")) (text time_pattern ∷ [])))

abbrev pub site_time : Place → Query SiteFault Found
site_time p = bind (time_query p) given

abbrev pub is_item : ItemName → Plain → Bool
is_item n (site_item path part) = bytes_eq path n.path && (part == n.part)
is_item n v = false

-- the first so many that are not this item
abbrev pub others : ItemName → ℕ → Items → Items
others n zero is = no_items
others n (suc left) no_items = no_items
others n (suc left) (item v is) = elim (is_item n v) [ true ↦ others n (suc left) is | false ↦ item v (others n left is) ]

abbrev pub holds_item : ItemName → Items → Bool
holds_item n no_items = false
holds_item n (item v is) = is_item n v || holds_item n is

abbrev pub items_in : Plain → Items
items_in (list is) = is
items_in v = no_items

-- ten other posts, for a post
abbrev pub related : ItemName → Plain → Plain
related n posts = if holds_item n (items_in posts) then list (others n 10 (items_in posts)) else nil

-- a name that lists have too is no key of data: it may stand for a count or an element
abbrev pub ends_keys : List ℕ → Bool
ends_keys x = bytes_eq x (codes "size") || (bytes_eq x (codes "first") || bytes_eq x (codes "last"))

-- the keys, and one behind them
abbrev pub with_key : Items → List ℕ → Items
with_key keys x = onto keys (item (text x) no_items)

abbrev pub site_member : Place → List ℕ → Query SiteFault Found
site_member p x =
    if bytes_eq x (codes "data") then Give (the_data no_items)
    else if bytes_eq x (codes "time") then site_time p
    else if bytes_eq x (codes "related_posts") then Ask (SiteVar (codes "posts")) (λ posts. given (related p.page posts))
    else looked_up p (SiteVar x)
