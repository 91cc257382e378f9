-- Where an item stands: the template of its URL, what the placeholders stand for, the URL, and the path of its output. After Jekyll 4's manual, "Permalinks".
use Rattle.std.specs.Prelude.{ℕ, ◌-◌, nat_eq, ℤ, Bool, true, false, not, List, [], ◌∷◌, ◌++◌, length, take, drop, codes, map, Option, Some, None, is_some, Ok, Err, option_and_then, unwrap_or, slice_get, ◌&&◌, if◌then◌else◌}
use Rattle.std.specs.Char.{to_ascii_lowercase}
use Rattle.std.specs.List.{ends_with, join_with_byte, starts_with}
use Rattle.std.specs.Option.{option_map}
use Rattle.std.specs.Str.{bytes_eq}
use Rattle.site_base.specs.Path.{path_refusal, segments}
use Rattle.site_base.specs.Plain.{Plain, nil, text}
use Rattle.site_base.specs.declared.faults.FaultKind.TheVariants as fault
use Rattle.permalinks.specs.Dest.{dest}
use Rattle.permalinks.specs.Slug.{slug}
use Rattle.permalinks.specs.declared.placeholder.Placeholder.{Placeholder}
use Rattle.permalinks.specs.declared.placeholder.Placeholder.TheVariants as of
use Rattle.site_config.specs.declared.collection.Collection.{Collection}
use Rattle.site_config.specs.declared.config.Config.{Config}
use Rattle.site_dates.specs.Format.{format_moment}
use Rattle.site_files.specs.Names.{extension, file_name, folder, stem}
use Rattle.site_items.specs.Extensions.{html, is_page_ext}
use Rattle.site_items.specs.Outcomes.{Outcome}
use Rattle.site_items.specs.declared.kind.Kind.{Kind}
use Rattle.site_items.specs.declared.kind.Kind.TheVariants as kind

-- ---- kinds

-- the collection of a document; posts and drafts are the first one's
abbrev pub collection_of : Config → Kind → Option Collection
collection_of config kind.Page = None
collection_of config kind.Post = slice_get config.collections 0
collection_of config kind.Draft = slice_get config.collections 0
collection_of config (kind.Document n) = slice_get config.collections n

abbrev pub is_page : Kind → Bool
is_page kind.Page = true
is_page other = false

-- posts and drafts
abbrev pub is_post : Kind → Bool
is_post kind.Post = true
is_post kind.Draft = true
is_post other = false

abbrev pub name_of : Option Collection → List ℕ
name_of None = []
name_of (Some c) = c.name

-- pages have an output, and the documents of a collection that has one
abbrev pub has_output : Config → Kind → Bool
has_output config kind.Page = true
has_output config other = unwrap_or (option_map (λ c. c.output) (collection_of config other)) false

-- ---- templates

-- a style's template for posts; another text is a template itself
abbrev pub style_template : List ℕ → List ℕ
style_template style =
    if bytes_eq style (codes "date") then codes "/:categories/:year/:month/:day/:title:output_ext"
    else if bytes_eq style (codes "pretty") then codes "/:categories/:year/:month/:day/:title/"
    else if bytes_eq style (codes "ordinal") then codes "/:categories/:year/:y_day/:title:output_ext"
    else if bytes_eq style (codes "none") then codes "/:categories/:title:output_ext"
    else style

-- how URLs end that have no template of their own: as the style's or the template's do
abbrev pub template_end : List ℕ → List ℕ
template_end template =
    if ends_with nat_eq template (codes "/") then codes "/"
    else if ends_with nat_eq template (codes ":output_ext") then codes ":output_ext"
    else []

abbrev pub site_end : List ℕ → List ℕ
site_end style = template_end (style_template style)

-- a page that is no HTML keeps its extension, and a page `index` is its folder
abbrev pub page_template : List ℕ → List ℕ → List ℕ → List ℕ
page_template style ext name =
    if not (is_page_ext ext) then codes "/:path/:basename:output_ext"
    else if bytes_eq name (codes "index") then codes "/:path/"
    else codes "/:path/:basename" ++ site_end style

-- where neither the item nor its collection has a template
abbrev pub kind_template : List ℕ → List ℕ → List ℕ → Kind → List ℕ
kind_template style ext name kind.Page = page_template style ext name
kind_template style ext name kind.Post = style_template style
kind_template style ext name kind.Draft = style_template style
kind_template style ext name (kind.Document n) = codes "/:collection/:path" ++ site_end style

abbrev pub collection_template : Option Collection → Option (List ℕ)
collection_template None = None
collection_template (Some c) = c.permalink

-- the variable `permalink`, else the collection's template, else that of the item's kind
abbrev pub template : Config → List ℕ → List ℕ → Kind → Plain → Outcome (List ℕ)
template config ext name k nil = Ok (unwrap_or (collection_template (collection_of config k)) (kind_template config.permalink ext name k))
template config ext name k (text s) = Ok s
template config ext name k v = Err (0, fault.Config)

-- ---- placeholders

-- the segments before the folder `_posts`, and those behind it
abbrev pub above_posts : List (List ℕ) → List (List ℕ)
above_posts [] = []
above_posts (segment ∷ rest) = if bytes_eq segment (codes "_posts") then [] else segment ∷ above_posts rest

abbrev pub behind_posts : List (List ℕ) → List (List ℕ)
behind_posts [] = []
behind_posts (segment ∷ rest) = if bytes_eq segment (codes "_posts") then rest else behind_posts rest

-- a text without what it begins with
abbrev pub behind : List ℕ → List ℕ → List ℕ
behind front s = if starts_with nat_eq s front then drop (length front) s else s

-- what of a path is below the folder of the item's kind
abbrev pub below_folder : Config → Kind → List ℕ → List ℕ
below_folder config kind.Page path = path
below_folder config kind.Post path = join_with_byte 47 (behind_posts (segments path))
below_folder config kind.Draft path = behind (codes "_drafts/") path
below_folder config (kind.Document n) path = behind (codes "/") (behind (name_of (collection_of config (kind.Document n))) (behind (codes "_") path))

abbrev pub without_extension : List ℕ → List ℕ
without_extension path = take (length path - length (extension (file_name path))) path

-- of a page its folder, and of a document its path below its collection's folder
abbrev pub path_part : Config → Kind → List ℕ → List ℕ
path_part config kind.Page path = folder path
path_part config k path = without_extension (below_folder config k path)

-- names in ASCII lower case, with `/` between them
abbrev pub behind_slash : List (List ℕ) → List ℕ
behind_slash [] = []
behind_slash (name ∷ names) = 47 ∷ (map to_ascii_lowercase name ++ behind_slash names)

abbrev pub slashed : List (List ℕ) → List ℕ
slashed [] = []
slashed (name ∷ names) = map to_ascii_lowercase name ++ behind_slash names

-- the part of a date that a pattern names
abbrev pub date_part : ℤ → Option ℤ → List ℕ → Option (List ℕ)
date_part offset moment pattern = option_and_then (λ m. format_moment m offset pattern) moment

-- what is of documents alone, and of posts alone
abbrev pub of_document : Kind → List ℕ → Option (List ℕ)
of_document kind.Page s = None
of_document k s = Some s

abbrev pub of_post : Kind → List ℕ → Option (List ℕ)
of_post k s = if is_post k then Some s else None

-- what the placeholders stand for, where the site's clocks show this offset
abbrev pub stands_for : Config → Kind → List ℕ → List ℕ → Option ℤ → List ℕ → List (List ℕ) → Placeholder → Option (List ℕ)
stands_for config k path ext moment slug_text categories of.Year = date_part config.timezone moment (codes "%Y")
stands_for config k path ext moment slug_text categories of.Month = date_part config.timezone moment (codes "%m")
stands_for config k path ext moment slug_text categories of.Day = date_part config.timezone moment (codes "%d")
stands_for config k path ext moment slug_text categories of.IMonth = date_part config.timezone moment (codes "%-m")
stands_for config k path ext moment slug_text categories of.IDay = date_part config.timezone moment (codes "%-d")
stands_for config k path ext moment slug_text categories of.ShortYear = date_part config.timezone moment (codes "%y")
stands_for config k path ext moment slug_text categories of.YDay = date_part config.timezone moment (codes "%j")
stands_for config k path ext moment slug_text categories of.Hour = date_part config.timezone moment (codes "%H")
stands_for config k path ext moment slug_text categories of.Minute = date_part config.timezone moment (codes "%M")
stands_for config k path ext moment slug_text categories of.Second = date_part config.timezone moment (codes "%S")
stands_for config k path ext moment slug_text categories of.Title = of_document k slug_text
stands_for config k path ext moment slug_text categories of.Slug = of_document k (slug slug_text)
stands_for config k path ext moment slug_text categories of.Categories = of_post k (slashed categories)
stands_for config k path ext moment slug_text categories of.Name = Some (slug (stem (file_name path)))
stands_for config k path ext moment slug_text categories of.Basename = Some (stem (file_name path))
stands_for config k path ext moment slug_text categories of.Path = Some (path_part config k path)
stands_for config k path ext moment slug_text categories of.Collection = of_document k (name_of (collection_of config k))
stands_for config k path ext moment slug_text categories of.OutputExt = Some ext

-- ---- the address

abbrev pub found_url : Option (List ℕ) → Outcome (List ℕ)
found_url None = Err (0, fault.Config)
found_url (Some s) = Ok s

-- a document whose URL is a folder's is HTML there
abbrev pub is_folder : Kind → List ℕ → Bool
is_folder k address = not (is_page k) && ends_with nat_eq address (codes "/")

abbrev pub dest_ext : Kind → List ℕ → List ℕ → List ℕ
dest_ext k address ext = if is_folder k address then html else ext

abbrev pub if_path : List ℕ → Outcome (Option (List ℕ))
if_path path = if is_some (path_refusal path) then Err (0, fault.Config) else Ok (Some path)

-- the path of the output, where the item has one
abbrev pub dest_of : Config → Kind → List ℕ → List ℕ → Outcome (Option (List ℕ))
dest_of config k address ext = if has_output config k then if_path (dest address (dest_ext k address ext)) else Ok None
