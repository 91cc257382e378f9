-- What a site answers to those who render its items. After Jekyll 4's manual, "Variables", "Includes", "Layouts" and "Liquid Tags".
use Rattle.std.specs.Prelude.{◌≡◌, ◌<◌, ℕ, Bool, true, ◌==◌, ◌&&◌, ◌||◌, nat_lt, codes, List, length, map, fold, slice_get, Option, Some, None, is_some, if◌then◌else◌}
use Rattle.std.specs.FinMap.{entries, get}
use Rattle.std.specs.List.{find, join_with_byte, list_all, position, sum_by}
use Rattle.std.specs.Option.{option_and_then, option_map, option_or, unwrap_or}
use Rattle.std.specs.Ordering.{is_lt}
use Rattle.std.specs.Str.{bytes_eq, is_utf8}
use Rattle.memo_table.specs.Names.{same_name}
use Rattle.read_record.specs.Forms.{is_fields, is_layout, is_moment}
use Rattle.read_record.specs.Queries.{Reply, Known, Missing}
use Rattle.read_record.specs.Worlds.{Sight}
use Rattle.read_record.specs.declared.key.Key.TheVariants.{Source, Content, Output, Var, Paginator, SiteVar, Data, Layout, Include, File, Link, Post, Moment}
use Rattle.read_record.specs.declared.outcome.Outcome.{Outcome}
use Rattle.read_record.specs.declared.outcome.Outcome.TheVariants.{Done, Fault}
use Rattle.site_base.specs.Path.{segments}
use Rattle.site_base.specs.Places.{Files, path_cmp}
use Rattle.site_base.specs.Plain.{Plain, nil, int, text, hash, Items, no_items, item as item', no_pairs, pair, get as get_pair}
use Rattle.site_base.specs.View.{plain}
use Rattle.site_base.specs.declared.item_name.ItemName.{ItemName}
use Rattle.site_config.specs.Forms.{setting}
use Rattle.site_files.specs.Names.{file_name, stem}
use Rattle.site_items.specs.Addresses.{behind_posts, without_extension}
use Rattle.site_items.specs.declared.include_file.IncludeFile.{IncludeFile}
use Rattle.site_items.specs.declared.layout_file.LayoutFile.{LayoutFile}
use Rattle.site_items.specs.declared.static_file.StaticFile.{StaticFile}
use Rattle.site_reader.specs.declared.site.Site.{Site}
use Rattle.site_reader.specs.declared.site_item.SiteItem.{SiteItem}
use Rattle.site_variables.specs.Variables.{site_variable, variables}

-- ---- items

-- the item with a name, with its place in the render order
abbrev pub placed : ItemName → List SiteItem → Option (ℕ × SiteItem)
placed name items = option_and_then (λ place. option_map (λ item. (place, item)) (slice_get items place)) (position (λ item. same_name item.name name) items)

abbrev pub body_of : Option (ℕ × SiteItem) → Plain
body_of None = nil
body_of (Some found) = text found.1.body

abbrev pub variable_of : List ℕ → Option (ℕ × SiteItem) → Plain
variable_of x None = nil
variable_of x (Some found) = setting x (plain found.1.vars)

abbrev pub paginator_of : Option (ℕ × SiteItem) → Plain
paginator_of None = nil
paginator_of (Some found) = plain found.1.paginator

-- what an item that is done has for its own text, and for what is written; another is missing

abbrev pub done_content : ℕ → Option Outcome → Reply
done_content place (Some (Done content output)) = Known (text content)
done_content place (Some (Fault fault)) = Missing place
done_content place None = Missing place

abbrev pub done_output : ℕ → Option Outcome → Reply
done_output place (Some (Done content output)) = Known (text output)
done_output place (Some (Fault fault)) = Missing place
done_output place None = Missing place

-- an earlier item gives what it came to; another its body, or no output

abbrev pub content_of : ℕ → (ℕ → Option Outcome) → Option (ℕ × SiteItem) → Reply
content_of reader known None = Known nil
content_of reader known (Some found) = if nat_lt found.0 reader then done_content found.0 (known found.0) else Known (text found.1.body)

abbrev pub output_of : ℕ → (ℕ → Option Outcome) → Option (ℕ × SiteItem) → Reply
output_of reader known None = Known nil
output_of reader known (Some found) = if nat_lt found.0 reader then done_output found.0 (known found.0) else Known nil

-- ---- files

-- the member of a hash with this key, which is a text
abbrev pub member_of : Plain → Plain → Plain
member_of (text key) v = setting key v
member_of key v = nil

-- the value below a value, under these keys one below the other
abbrev pub under : Items → Plain → Plain
under no_items v = v
under (item' key keys) v = under keys (member_of key v)

-- a layout as those see it who render in it
abbrev pub layout_value : LayoutFile → Plain
layout_value layout = hash (pair (codes "path") (text layout.path) (pair (codes "vars") (plain layout.vars) (pair (codes "body") (text layout.body) no_pairs)))

abbrev pub layout_named : List ℕ → List LayoutFile → Option Plain
layout_named x layouts = option_map layout_value (find (λ layout. bytes_eq layout.name x) layouts)

abbrev pub include_named : List ℕ → List IncludeFile → Option Plain
include_named x includes = option_map (λ include. text include.body) (find (λ include. bytes_eq include.name x) includes)

-- the text of a file, if it is one
abbrev pub file_text : Option (List ℕ) → Plain
file_text None = nil
file_text (Some bytes) = if is_utf8 bytes then text bytes else nil

-- ---- addresses

abbrev pub or_nil : Option Plain → Plain
or_nil v = unwrap_or v nil

abbrev pub address : Option (List ℕ) → Plain
address url = or_nil (option_map text url)

-- the item that a file itself is, and no further page made of it
abbrev pub source_at : List ℕ → List SiteItem → Option SiteItem
source_at path items = find (λ item. bytes_eq item.name.path path && (item.name.part == 0)) items

abbrev pub copy_at : List ℕ → List StaticFile → Option StaticFile
copy_at path copies = find (λ copy. bytes_eq copy.path path) copies

-- the URL of what is made of a source file: of the item that it is, or else of its copy
abbrev pub url_of : List ℕ → Site → Option (List ℕ)
url_of path site = option_or (option_map (λ item. item.url) (source_at path site.items)) (option_map (λ copy. copy.url) (copy_at path site.statics))

-- what of a path is behind the first folder `_posts`, without the extension; nothing where there is no such folder
abbrev pub below_posts : List ℕ → List ℕ
below_posts path = without_extension (join_with_byte 47 (behind_posts (segments path)))

-- a post is known by the name of its file without the extension, and by its path below `_posts`
abbrev pub is_post_named : List ℕ → SiteItem → Bool
is_post_named x item = let path = item.name.path in
    (item.group == 0) && (bytes_eq (stem (file_name path)) x || (bytes_eq (below_posts path) x && nat_lt 0 (length x)))

-- of two items the one with the lower path, and of equal paths the first
abbrev pub lower : Option SiteItem → SiteItem → SiteItem
lower None item = item
lower (Some first) item = if is_lt (path_cmp item.name.path first.name.path) then item else first

-- of the posts with a name the one with the lowest path
abbrev pub post_named : List ℕ → List SiteItem → Option SiteItem
post_named x items = fold (λ found item. if is_post_named x item then Some (lower found item) else found) None items

-- ---- the whole

abbrev pub variable_named : List ℕ → Site → Option Plain
variable_named x site = get_pair x (variables site)

-- what a reader, the item at this place, sees of a site and its files where these outcomes are known
abbrev pub site_sight : Files → Site → Sight
site_sight files site reader known (Source name) = Known (body_of (placed name site.items))
site_sight files site reader known (Content name) = content_of reader known (placed name site.items)
site_sight files site reader known (Output name) = output_of reader known (placed name site.items)
site_sight files site reader known (Var name x) = Known (variable_of x (placed name site.items))
site_sight files site reader known (Paginator name) = Known (paginator_of (placed name site.items))
site_sight files site reader known (SiteVar x) = Known (site_variable site x)
site_sight files site reader known (Data keys) = Known (under keys (plain site.data_tree))
site_sight files site reader known (Layout x) = Known (or_nil (layout_named x site.layouts))
site_sight files site reader known (Include x) = Known (or_nil (include_named x site.includes))
site_sight files site reader known (File path) = Known (file_text (get files path))
site_sight files site reader known (Link path) = Known (address (url_of path site))
site_sight files site reader known (Post x) = Known (address (option_map (λ item. item.url) (post_named x site.items)))
site_sight files site reader known Moment = Known (int site.moment)

abbrev pub item_names : Site → List ItemName
item_names site = map (λ item. item.name) site.items

-- how many bytes the held files have that are copied, whether they are written or not
abbrev pub fixed_bytes : Files → Site → ℕ
fixed_bytes files site = sum_by (λ file. if is_some (copy_at file.0 site.statics) then length file.1 else 0) (entries files)

-- ---- what is known of a lawful site

-- layouts, pages of paginations and the moment have the forms in which they are looked up
pub record AreFormed (site : Site) : Type 0 where
  pub layouts : list_all (λ layout. is_layout (layout_value layout)) site.layouts ≡ true
  pub paginators : list_all (λ item. is_fields (plain item.paginator)) site.items ≡ true
  pub moment : is_moment (int site.moment) ≡ true

-- no two places have the same name
abbrev pub NamesDiffer : List ItemName → Type 0
NamesDiffer names = (i j : ℕ) → i < length names → slice_get names i ≡ slice_get names j → i ≡ j
