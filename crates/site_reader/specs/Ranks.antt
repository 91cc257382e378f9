-- The order in which items are rendered: by collections, then pages; documents by what their collection sorts by, then by their date, those without one last, and pages by file name; then by path. After Jekyll 4's manual, "Collections", which does not say how unlike values are sorted, nor documents without a date: that numbers stand before texts, both before all else, and undated documents last, is this project's own.
use Rattle.std.specs.Prelude.{ℕ, ℤ, ◌||◌, List, [], codes, fold, length, slice_get, Option, Some, None, if◌then◌else◌}
use Rattle.std.specs.BTreeMap.{insert_entry}
use Rattle.std.specs.Cmp.Lexicographic.{slice_cmp}
use Rattle.std.specs.Ordering.{int_cmp, nat_cmp, ordering_then}
use Rattle.std.specs.Str.{bytes_eq}
use Rattle.std.specs.declared.cmp.Ordering.{Ordering}
use Rattle.std.specs.declared.cmp.Ordering.TheVariants.{Less, Equal, Greater}
use Rattle.site_base.specs.Plain.{Plain, int, text, Pairs}
use Rattle.site_config.specs.declared.collection.Collection.{Collection}
use Rattle.site_config.specs.declared.config.Config.{Config}
use Rattle.site_config.specs.declared.sorting.Sorting.{Sorting}
use Rattle.site_config.specs.declared.sorting.Sorting.TheVariants as sorting
use Rattle.site_files.specs.Names.{file_name}
use Rattle.site_items.specs.Addresses.{below_folder}
use Rattle.site_items.specs.Defaults.{variable}
use Rattle.site_items.specs.declared.item.Item.{Item}
use Rattle.site_items.specs.declared.kind.Kind.{Kind}
use Rattle.site_items.specs.declared.kind.Kind.TheVariants as kind
use Rattle.site_reader.specs.FirstPlaces.{first_place}
use Rattle.site_reader.specs.declared.rank.GroupPlace.{GroupPlace}
use Rattle.site_reader.specs.declared.rank.GroupPlace.TheVariants as place
use Rattle.site_reader.specs.declared.rank.Rank.{Rank}
use Rattle.site_reader.specs.declared.sort_key.SortKey.{SortKey}
use Rattle.site_reader.specs.declared.sort_key.SortKey.TheVariants as key

-- documents by the moments of their dates, those without one behind them, and pages by file name
abbrev pub place_cmp : GroupPlace → GroupPlace → Ordering
place_cmp (place.Dated a) (place.Dated b) = int_cmp a b
place_cmp (place.Dated a) place.Undated = Less
place_cmp (place.Dated a) (place.Page n) = Less
place_cmp place.Undated (place.Dated b) = Greater
place_cmp place.Undated place.Undated = Equal
place_cmp place.Undated (place.Page n) = Less
place_cmp (place.Page m) (place.Dated b) = Greater
place_cmp (place.Page m) place.Undated = Greater
place_cmp (place.Page m) (place.Page n) = slice_cmp nat_cmp m n

-- places in a list stand first, then numbers, then texts, and behind them all else
abbrev pub class : SortKey → ℕ
class (key.Place n) = 0
class (key.Number n) = 1
class (key.Text s) = 2
class key.Last = 3

-- two keys of one class
abbrev pub within : SortKey → SortKey → Ordering
within (key.Place m) (key.Place n) = nat_cmp m n
within (key.Number m) (key.Number n) = int_cmp m n
within (key.Text s) (key.Text t) = slice_cmp nat_cmp s t
within a b = Equal

abbrev pub key_cmp : SortKey → SortKey → Ordering
key_cmp a b = ordering_then (nat_cmp (class a) (class b)) (within a b)

abbrev pub rank_cmp : Rank → Rank → Ordering
rank_cmp a b =
    ordering_then (nat_cmp a.group b.group)
    (ordering_then (key_cmp a.key b.key) (ordering_then (place_cmp a.place b.place) (slice_cmp nat_cmp a.path b.path)))

-- the groups of items: the collections in their order, posts first, then the pages
abbrev pub group_of : Config → Kind → ℕ
group_of config kind.Page = length config.collections
group_of config (kind.Document n) = n
group_of config kind.Post = 0
group_of config kind.Draft = 0

abbrev pub dated_place : Option ℤ → GroupPlace
dated_place (Some moment) = place.Dated moment
dated_place None = place.Undated

abbrev pub group_place : Kind → List ℕ → Option ℤ → GroupPlace
group_place kind.Page path moment = place.Page (file_name path)
group_place kind.Post path moment = dated_place moment
group_place kind.Draft path moment = dated_place moment
group_place (kind.Document n) path moment = dated_place moment

abbrev pub value_key : Plain → SortKey
value_key (int n) = key.Number n
value_key (text s) = key.Text s
value_key v = key.Last

-- neighbours are those in this order, so none is known yet
abbrev pub variable_key : List ℕ → Pairs → SortKey
variable_key name vars = if bytes_eq name (codes "next") || bytes_eq name (codes "previous") then key.Last else value_key (variable name vars)

-- what sorts a document with this path below its collection's folder
abbrev pub sort_key : Sorting → List ℕ → Pairs → SortKey
sort_key sorting.ByDate path vars = key.Last
sort_key (sorting.By name) path vars = variable_key name vars
sort_key (sorting.Listed paths) path vars = key.Place (first_place paths path)

abbrev pub collection_key : Option Collection → List ℕ → Pairs → SortKey
collection_key None path vars = key.Last
collection_key (Some c) path vars = sort_key c.sorting path vars

-- pages have no collection, and posts are sorted by date alone
abbrev pub document_key : Config → Kind → List ℕ → Pairs → SortKey
document_key config (kind.Document n) path vars = collection_key (slice_get config.collections n) (below_folder config (kind.Document n) path) vars
document_key config other path vars = key.Last

abbrev pub rank : Config → Kind → List ℕ → Item → Rank
rank config k path made = record { group = group_of config k; key = document_key config k path made.vars; place = group_place k path made.moment; path = path }

-- the items in their order, and one more at its place among them
abbrev pub Ranked : Type 0
Ranked = List (Rank × Item)

abbrev pub with_item : Config → Kind → List ℕ → Option Item → Ranked → Ranked
with_item config k path None items = items
with_item config k path (Some made) items = insert_entry rank_cmp items (rank config k path made) made

-- ---- items in the order of their paths, as the code keeps them until they are sorted

abbrev pub put_in : Ranked → Rank × Item → Ranked
put_in items e = insert_entry rank_cmp items e.0 e.1

-- the same items in their order
abbrev pub in_order : List (Rank × Item) → Ranked
in_order made = fold put_in [] made
