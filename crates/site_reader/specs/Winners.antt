-- Which output wins each path of a site, after Jekyll's order of writing: pages, then copied files, then documents.
use Rattle.std.specs.Prelude.{ℕ, suc, Bool, not, List, [], ◌∷◌, length, nat_lt, Option, Some, None, if◌then◌else◌}
use Rattle.std.specs.BTreeMap.{insert_entry}
use Rattle.site_base.specs.Places.{path_cmp}
use Rattle.site_config.specs.declared.config.Config.{Config}
use Rattle.site_items.specs.declared.static_file.StaticFile.{StaticFile}
use Rattle.site_reader.specs.declared.site_item.SiteItem.{SiteItem}
use Rattle.site_reader.specs.declared.winner.Kind.{Kind}
use Rattle.site_reader.specs.declared.winner.Kind.TheVariants.{Pages, Documents}
use Rattle.site_reader.specs.declared.winner.Winner.{Winner}
use Rattle.site_reader.specs.declared.winner.Winner.TheVariants.{Page, Copy, Document}

-- paths with their winners, in byte order of the paths
abbrev pub Winners : Type 0
Winners = List (List ℕ × Winner)

-- the groups of collections come first
abbrev pub is_document : Config → SiteItem → Bool
is_document config item = nat_lt item.group (length config.collections)

abbrev pub is_of : Kind → Config → SiteItem → Bool
is_of Documents config item = is_document config item
is_of Pages config item = not (is_document config item)

abbrev pub winner_of : Kind → ℕ → Winner
winner_of Documents place = Document place
winner_of Pages place = Page place

-- a later output at a path wins over the one before
abbrev pub with_winner : Winners → Option (List ℕ) → Winner → Winners
with_winner won None winner = won
with_winner won (Some path) winner = insert_entry path_cmp won path winner

abbrev pub with_item : Kind → Config → Winners → ℕ → SiteItem → Winners
with_item kind config won place item = if is_of kind config item then with_winner won item.dest (winner_of kind place) else won

-- the items of a kind, the first of which has this place
abbrev pub with_items : Kind → Config → Winners → ℕ → List SiteItem → Winners
with_items kind config won place [] = won
with_items kind config won place (item ∷ items) = with_items kind config (with_item kind config won place item) (suc place) items

-- the copied files, the first of which has this place
abbrev pub with_copies : Winners → ℕ → List StaticFile → Winners
with_copies won place [] = won
with_copies won place (copy ∷ copies) = with_copies (with_winner won copy.dest (Copy place)) (suc place) copies

-- each path that some output has, with the last output there
abbrev pub winners : Config → List SiteItem → List StaticFile → Winners
winners config items copies = with_items Documents config (with_copies (with_items Pages config [] 0 items) 0 copies) 0 items
