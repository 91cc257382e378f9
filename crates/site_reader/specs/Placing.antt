-- What the files of a site are: each file with its place, and what it is there. After Jekyll 4's manual, "Directory Structure".
use Rattle.std.specs.Prelude.{ℕ, ◌||◌, Bool, true, false, List, codes, Option, Some, None, if◌then◌else◌}
use Rattle.site_base.specs.declared.settings.Settings.{Settings}
use Rattle.front_yaml.specs.Front.{front}
use Rattle.front_yaml.specs.declared.front_matter.Front.{Front}
use Rattle.front_yaml.specs.declared.front_matter.Front.TheVariants.{Page, Open, Plain}
use Rattle.site_config.specs.declared.config.Config.{Config}
use Rattle.site_files.specs.Places.{place_of}
use Rattle.site_files.specs.declared.place.Place.{Place}
use Rattle.site_files.specs.declared.place.Place.TheVariants as place
use Rattle.site_items.specs.declared.kind.Kind.{Kind}
use Rattle.site_items.specs.declared.kind.Kind.TheVariants as kind
use Rattle.site_reader.specs.declared.placed_file.PlacedFile.{PlacedFile}

-- the file of the configuration
abbrev pub config_path : List ℕ
config_path = codes "_config.yml"

-- a path with its bytes
abbrev pub File : Type 0
File = List ℕ × List ℕ

-- a file with its place in the site
abbrev pub Placed : Type 0
Placed = Place × File

-- drafts are built where the settings or the configuration say so
abbrev pub builds_drafts : Config → Settings → Bool
builds_drafts config settings = settings.drafts || config.show_drafts

abbrev pub builds_future : Config → Settings → Bool
builds_future config settings = settings.future || config.future

abbrev pub placed : Config → Bool → File → Placed
placed config drafts file = (place_of config drafts file.0, file)

-- whether a text has front matter, closed or not
abbrev pub has_matter : Front → Bool
has_matter (Page start end body) = true
has_matter Open = true
has_matter Plain = false

-- the kind of item that a file with front matter is at a place
abbrev pub item_kind : Place → Option Kind
item_kind place.Post = Some kind.Post
item_kind place.Draft = Some kind.Draft
item_kind (place.Collection n) = Some (kind.Document n)
item_kind place.Common = Some kind.Page
item_kind other = None

-- the kind of item beside which a file without front matter is copied from a place
abbrev pub copied_kind : Place → Option Kind
copied_kind (place.Collection n) = Some (kind.Document n)
copied_kind place.Common = Some kind.Page
copied_kind other = None

abbrev pub kind_at : Place → Front → Option Kind
kind_at at matter = if has_matter matter then item_kind at else None

-- the item that a file is, by its kind
abbrev pub as_item : Placed → Option Kind
as_item file = kind_at file.0 (front file.1.1)

-- the file that is copied, by the kind of its place
abbrev pub as_copy : Placed → Option Kind
as_copy file = if has_matter (front file.1.1) then None else copied_kind file.0

-- the same of the code's own file
abbrev pub seen : PlacedFile → Placed
seen file = (file.place, (file.path.now, file.content))
