-- What a file of a site is, as far as its path tells: the first of these places that fits, after Jekyll 4's manual, "Directory Structure" and "Collections".
use Rattle.std.specs.Prelude.{ℕ, ℤ, ◌+◌, ◌==◌, Bool, false, not, ◌&&◌, ◌||◌, List, [], ◌∷◌, length, drop, codes, Option, Some, None, count_by, position, if◌then◌else◌}
use Rattle.std.specs.List.{list_any}
use Rattle.std.specs.Str.{bytes_eq}
use Rattle.site_base.specs.Path.{segments}
use Rattle.site_base.specs.Clash.{is_below}
use Rattle.site_config.specs.declared.config.Config.{Config}
use Rattle.site_config.specs.declared.collection.Collection.{Collection}
use Rattle.site_files.specs.Names.{file_name, folder}
use Rattle.site_files.specs.Choosing.{is_hidden, is_brought_in, is_taken_out}
use Rattle.site_files.specs.PostNames.{is_post_name}
use Rattle.site_files.specs.declared.place.Place.{Place}
use Rattle.site_files.specs.declared.place.Place.TheVariants as place

abbrev pub has_hidden_segment : List ℕ → Bool
has_hidden_segment path = list_any is_hidden (segments path)

-- below this folder of the root, with no further hidden segment; in a path that is brought in, none counts as hidden
unfoldable pub lies_in : List ℕ → Bool → List ℕ → Bool
lies_in root brought path = is_below path root && (brought || not (has_hidden_segment (drop (length root + 1) path)))

-- below a folder `_posts`, wherever it is, with no other hidden segment
unfoldable pub lies_in_posts : Bool → List ℕ → Bool
lies_in_posts brought path = list_any (bytes_eq (codes "_posts")) (segments (folder path)) && (brought || (count_by is_hidden (segments path) == 1))

-- what is neither in a folder with a meaning nor in a collection's: hidden, or in sight
unfoldable pub common_place : Bool → List ℕ → Place
common_place brought path = if brought || not (has_hidden_segment path) then place.Common else place.Nowhere

-- the folder of a collection is named by `_` and the collection's name
unfoldable pub is_folder_of : Bool → List ℕ → Collection → Bool
is_folder_of brought [] collection = false
is_folder_of brought (b ∷ rest) collection = (b == 95) && lies_in collection.name brought rest

abbrev pub place_in : Option ℕ → Place → Place
place_in (Some number) other = place.Collection number
place_in None other = other

unfoldable pub post_place : ℤ → List ℕ → Place
post_place offset path = if is_post_name offset (file_name path) then place.Post else place.Nowhere

-- the folders with a meaning of their own
abbrev pub named_place : Config → Bool → Bool → List ℕ → Place
named_place config drafts brought path =
    if lies_in (codes "_layouts") brought path then place.Layout
    else if lies_in (codes "_includes") brought path then place.Include
    else if lies_in (codes "_data") brought path then place.Data
    else if lies_in_posts brought path then post_place config.timezone path
    else if drafts && lies_in (codes "_drafts") brought path then place.Draft
    else place_in (position (is_folder_of brought path) config.collections) (common_place brought path)

-- the configuration, a file that is taken out, or what its folders say; an entry of `include` wins over `exclude`
abbrev pub place_of : Config → Bool → List ℕ → Place
place_of config drafts path = let brought = is_brought_in config.include path in
    if bytes_eq path (codes "_config.yml") then place.Configuration
    else if not brought && is_taken_out config.exclude path then place.Nowhere
    else named_place config drafts brought path
