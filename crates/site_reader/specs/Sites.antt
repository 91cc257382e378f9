-- A site as data: what its files make, or its first fault. The configuration comes first, then data files, layouts, includes and
-- items, each in the order of paths, then the pages of a pagination, then of archives, a feed and a sitemap, and at last paths that cannot stand side by side.
use Rattle.std.specs.Prelude.{◌≡◌, ℕ, ℤ, Bool, List, [], ◌∷◌, ◌++◌, length, map, Option, Some, None, Ok, Err}
use Rattle.std.specs.BTreeMap.{insert_entry}
use Rattle.std.specs.FinMap.{entries, get}
use Rattle.std.specs.Map.{values_of}
use Rattle.site_base.specs.Chains.{◌>>=◌}
use Rattle.site_base.specs.Faults.{fault_at}
use Rattle.site_base.specs.Places.{Files, path_cmp}
use Rattle.site_base.specs.declared.faults.FaultKind.TheVariants as fault
use Rattle.site_base.specs.declared.settings.Settings.{Settings}
use Rattle.site_base.specs.declared.value.Value.TheVariants as value
use Rattle.site_config.specs.declared.config.Config.{Config}
use Rattle.site_config.specs.declared.scope.Scope.{Scope}
use Rattle.site_files.specs.declared.place.Place.TheVariants as place
use Rattle.site_items.specs.Defaults.{by_strength}
use Rattle.site_items.specs.Files as file
use Rattle.site_items.specs.Items.{item}
use Rattle.site_items.specs.declared.include_file.IncludeFile.{IncludeFile}
use Rattle.site_items.specs.declared.kind.Kind.{Kind}
use Rattle.site_items.specs.declared.layout_file.LayoutFile.{LayoutFile}
use Rattle.site_items.specs.declared.static_file.StaticFile.{StaticFile}
pub use Rattle.site_reader.specs.Configured.{config_in, configured, text_config}
use Rattle.site_reader.specs.Data.{data_tree}
use Rattle.site_reader.specs.Found.{Found, each, in_file}
use Rattle.site_reader.specs.Generating.{generated}
use Rattle.site_reader.specs.Neighbours.{site_items}
use Rattle.site_reader.specs.Outputs.{first_clash}
use Rattle.site_reader.specs.Paginating.{paginated}
use Rattle.site_reader.specs.Placing.{File, Placed, as_copy, as_item, builds_drafts, builds_future, config_path, placed}
use Rattle.site_reader.specs.Ranks.{Ranked, with_item}
use Rattle.site_reader.specs.declared.site.Site.{Site}
use Rattle.site_reader.specs.declared.site_item.SiteItem.{SiteItem}

-- ---- the configuration

abbrev pub config : Files → Found Config
config files = in_file config_path (config_in (get files config_path))

abbrev pub IsConfig : Files → Config → Type 0
IsConfig files c = config files ≡ Ok c

-- ---- layouts, includes, and files that are copied

-- of layouts with one name the last counts
abbrev pub with_layout : LayoutFile → List (List ℕ × LayoutFile) → List (List ℕ × LayoutFile)
with_layout made layouts = insert_entry path_cmp layouts made.name made

abbrev pub read_layout : File → List (List ℕ × LayoutFile) → Found (List (List ℕ × LayoutFile))
read_layout f layouts = in_file f.0 (file.layout f.0 f.1) >>= λ made. Ok (with_layout made layouts)

abbrev pub add_layout : Placed → List (List ℕ × LayoutFile) → Found (List (List ℕ × LayoutFile))
add_layout (place.Layout, f) layouts = read_layout f layouts
add_layout (other, f) layouts = Ok layouts

abbrev pub read_include : File → List IncludeFile → Found (List IncludeFile)
read_include f includes = in_file f.0 (file.include f.0 f.1) >>= λ made. Ok (includes ++ made ∷ [])

abbrev pub add_include : Placed → List IncludeFile → Found (List IncludeFile)
add_include (place.Include, f) includes = read_include f includes
add_include (other, f) includes = Ok includes

abbrev pub copied : Config → List ℕ → Option Kind → List StaticFile
copied config path None = []
copied config path (Some k) = file.static_file config k path ∷ []

abbrev pub copies : Config → List Placed → List StaticFile
copies config [] = []
copies config (f ∷ fs) = copied config f.1.0 (as_copy f) ++ copies config fs

-- the layouts in the order of their names
abbrev pub layouts : List Placed → Found (List LayoutFile)
layouts files = each add_layout files [] >>= λ made. Ok (values_of made)

abbrev pub includes : List Placed → Found (List IncludeFile)
includes files = each add_include files []

-- ---- items

abbrev pub add_kind : Config → List Scope → ℤ → Bool → File → Option Kind → Ranked → Found Ranked
add_kind config scopes now future f None items = Ok items
add_kind config scopes now future f (Some k) items =
    in_file f.0 (item config scopes now future k f.0 f.1) >>= λ made. Ok (with_item config k f.0 made items)

abbrev pub add_item : Config → List Scope → ℤ → Bool → Placed → Ranked → Found Ranked
add_item config scopes now future f items = add_kind config scopes now future f.1 (as_item f) items

-- the items in the order in which they are rendered, with their neighbours
abbrev pub items_in_order : Config → Ranked → Found (List SiteItem)
items_in_order config made = Ok (site_items (length config.collections) None made)

abbrev pub items_by : List Scope → Config → ℤ → Bool → List Placed → Found (List SiteItem)
items_by scopes config now future files = each (add_item config scopes now future) files [] >>= items_in_order config

abbrev pub items : Config → ℤ → Bool → List Placed → Found (List SiteItem)
items config now future files = items_by (by_strength config.defaults) config now future files

-- ---- the site

abbrev pub no_clash : Site → Option (List ℕ) → Found Site
no_clash site None = Ok site
no_clash site (Some path) = Err (fault_at fault.PathClash path)

abbrev pub clash_free : Site → Found Site
clash_free site = no_clash site (first_clash site.config site.items site.statics)

-- the site of files in their places
abbrev pub placed_site : Config → ℤ → Bool → List Placed → Found Site
placed_site config now future files =
    data_tree files >>= λ tree.
    layouts files >>= λ layouts.
    includes files >>= λ includes.
    items config now future files >>= λ made.
    paginated config made >>= generated config (copies config files) >>= λ items.
    clash_free (record {
      config = config;
      items = items;
      layouts = layouts;
      includes = includes;
      data_tree = value.Hash tree;
      statics = copies config files;
      moment = now;
    })

abbrev pub site_with : Files → ℤ → Settings → Config → Found Site
site_with files now settings c = placed_site c now (builds_future c settings) (map (placed c (builds_drafts c settings)) (entries files))

unfoldable pub site : Files → ℤ → Settings → Found Site
site files now settings = config files >>= site_with files now settings
