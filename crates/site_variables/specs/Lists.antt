-- The items of a site in lists, by their names. After Jekyll 4's manual, "Variables": "Site Variables".
use Rattle.std.specs.Prelude.{ℕ, ◌==◌, nat_eq, nat_lt, Bool, not, ◌&&◌, ◌||◌, List, [], ◌∷◌, codes, filter, length, reverse}
use Rattle.std.specs.List.{ends_with}
use Rattle.site_base.specs.Plain.{Plain, list, site_item, Items, no_items, item}
use Rattle.site_config.specs.declared.config.Config.{Config}
use Rattle.site_files.specs.Names.{extension, file_name}
use Rattle.site_items.specs.Extensions.{is_page_ext, output_ext}
use Rattle.site_reader.specs.declared.site.Site.{Site}
use Rattle.site_reader.specs.declared.site_item.SiteItem.{SiteItem}

-- a value for each element, in their order
abbrev pub each : {X : Type 0} → (X → Plain) → List X → Items
each value [] = no_items
each value (x ∷ xs) = item (value x) (each value xs)

-- an item stands in lists by its name
abbrev pub named : SiteItem → Plain
named i = site_item i.name.path i.name.part

abbrev pub names : List SiteItem → Plain
names items = list (each named items)

-- ---- which items

-- the documents of the collection at this place among all, of which the posts are the first
abbrev pub is_in : ℕ → SiteItem → Bool
is_in place i = i.group == place

abbrev pub documents_of : ℕ → List SiteItem → List SiteItem
documents_of place items = filter (is_in place) items

abbrev pub posts : List SiteItem → List SiteItem
posts items = documents_of 0 items

-- groups behind those of the collections are of pages
abbrev pub is_document : Config → SiteItem → Bool
is_document config i = nat_lt i.group (length config.collections)

abbrev pub is_page : Config → SiteItem → Bool
is_page config i = not (is_document config i)

-- its output is a page of HTML, by its extension or since it stands for a folder
abbrev pub is_html : Config → SiteItem → Bool
is_html config i = is_page_ext (output_ext config.markdown_ext (extension (file_name i.name.path))) || ends_with nat_eq i.url (codes "/")

abbrev pub is_html_page : Config → SiteItem → Bool
is_html_page config i = is_page config i && is_html config i

-- ---- the lists

abbrev pub newest_posts : Site → Plain
newest_posts site = names (reverse (posts site.items))

abbrev pub pages : Site → Plain
pages site = names (filter (is_page site.config) site.items)

abbrev pub html_pages : Site → Plain
html_pages site = names (filter (is_html_page site.config) site.items)

abbrev pub documents : Site → Plain
documents site = names (filter (is_document site.config) site.items)
