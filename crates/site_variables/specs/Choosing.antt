-- Which items a list has, step by step.
use Rattle.std.specs.Prelude.{◌≡◌, ℕ, ◌<◌, Bool, List, length, slice_get, slice_index_or, slice_set, Some, if◌then◌else◌}
use Rattle.site_base.specs.Plain.{Items, no_items, item, onto}
use Rattle.site_config.specs.declared.config.Config.{Config}
use Rattle.site_reader.specs.declared.site_item.SiteItem.{SiteItem}
use Rattle.site_variables.specs.Lists.{documents_of, each, is_document, is_html_page, is_in, is_page, named}
use Rattle.site_variables.specs.declared.choice.Choice.{Choice}
use Rattle.site_variables.specs.declared.choice.Choice.TheVariants as choice

abbrev pub takes : Choice → Config → SiteItem → Bool
takes choice.Posts config i = is_in 0 i
takes choice.Pages config i = is_page config i
takes choice.HtmlPages config i = is_html_page config i
takes choice.Documents config i = is_document config i

-- an item by itself where it belongs to a list, and else none
abbrev pub named_if : Bool → SiteItem → Items
named_if belongs i = if belongs then item (named i) no_items else no_items

-- the documents of all groups, by their places, with one item more
abbrev pub with_item : SiteItem → List Items → List Items
with_item i lists = slice_set lists i.group (onto (slice_index_or lists i.group no_items) (item (named i) no_items))

-- the documents of each collection, by its place
pub record ArePlaced (items : List SiteItem) (count : ℕ) (lists : List Items) : Type 0 where
  pub many : length lists ≡ count
  pub each_has : (place : ℕ) → place < count → slice_get lists place ≡ Some (each named (documents_of place items))
