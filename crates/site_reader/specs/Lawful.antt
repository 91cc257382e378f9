-- When a site is lawful with the files that it was read from.
use Rattle.std.specs.Prelude.{◌≡◌, ◌≢◌, ◌≤◌, ◌⊎◌, ◌+◌, ◌*◌, ℕ, zero, suc, ℤ, true, false, nat_lt, List, ◌∷◌, codes, length, All, AllPairs, Option, Some, None}
use Rattle.std.specs.FinMap.{contains_key, len}
use Rattle.site_base.specs.Places.{Files}
use Rattle.site_base.specs.Plain.{Pairs, Plain, hash, nil, site_item, text}
use Rattle.site_base.specs.View.{plain}
use Rattle.site_base.specs.declared.item_name.ItemName.{ItemName}
use Rattle.site_config.specs.Config.{config}
use Rattle.site_config.specs.Forms.{setting}
use Rattle.site_config.specs.Table.{wrong_key}
use Rattle.site_config.specs.declared.config.Config.{Config}
use Rattle.site_dates.specs.Moment.{IsMoment}
use Rattle.site_files.specs.Names.{extension, file_name, stem}
use Rattle.site_items.specs.Addresses.{is_page}
use Rattle.site_items.specs.Items.{addressed, kind_named, kind_variables, placed}
use Rattle.site_items.specs.declared.kind.Kind.{Kind}
use Rattle.site_items.specs.declared.layout_file.LayoutFile.{LayoutFile}
use Rattle.site_reader.specs.Neighbours.{between}
use Rattle.site_reader.specs.Paginating.{paginator}
use Rattle.site_reader.specs.Ranks.{group_of}
use Rattle.site_reader.specs.declared.paging.Paging.{Paging}
use Rattle.site_reader.specs.declared.site.Site.{Site}
use Rattle.site_reader.specs.declared.site_item.SiteItem.{SiteItem}

-- no two elements have the same name
abbrev pub Differ : {A B : Type 0} → (A → B) → List A → Type 0
Differ name xs = AllPairs (λ x y. name x ≢ name y) xs

-- the variables by which an item is known: its path, also as `relative_path`, its URL, and its extension
pub record KnowsItself (item : SiteItem) : Type 0 where
  pub path : setting (codes "path") (plain item.vars) ≡ text item.name.path
  pub relative_path : setting (codes "relative_path") (plain item.vars) ≡ text item.name.path
  pub url : setting (codes "url") (plain item.vars) ≡ text item.url
  pub ext : setting (codes "ext") (plain item.vars) ≡ text (extension (file_name item.name.path))

-- an item of the site by its name, or nothing
abbrev pub IsNeighbour : Plain → Type 0
IsNeighbour v = (v ≡ nil) ⊎ ((path : List ℕ) × (v ≡ site_item path 0))

-- the group of an item of a kind, and after it that of generated pages
abbrev pub part_group : Config → Kind → ℕ → ℕ
part_group config kind zero = group_of config kind
part_group config kind (suc part) = suc (group_of config kind)

-- the page of a pagination that an item is
abbrev pub page_of : ℕ → ℕ
page_of zero = 1
page_of (suc part) = suc part

-- nil, or what the template knows of its page
abbrev pub HasPaginator : SiteItem → Type 0
HasPaginator item =
    (plain item.paginator ≡ nil) ⊎ ((paging : Paging) × (posts : List ItemName) × (plain item.paginator ≡ hash (paginator paging (page_of item.name.part) posts)))

-- the URL for which the variables of an item were made: its own; of a page that pagination generates, that of its template; of another generated page its own again
abbrev pub IsAddress : SiteItem → List ℕ → Type 0
IsAddress item address = item.name.part ≡ 0 → address ≡ item.url

-- a generated page has its own address over the one for which its variables were made
abbrev pub part_variables : ℕ → List ℕ → Pairs → Pairs
part_variables zero address vars = vars
part_variables (suc part) address vars = addressed address vars

-- an address of the site: it begins with a slash
abbrev pub IsRooted : List ℕ → Type 0
IsRooted url = (rest : List ℕ) × (url ≡ 47 ∷ rest)

-- what a post is: a document with a moment, and no page that is generated
pub record IsPost (kind : Kind) (part : ℕ) (moment : Option ℤ) : Type 0 where
  pub document : is_page kind ≡ false
  pub whole : part ≡ 0
  pub date : ℤ
  pub dated : moment ≡ Some date

-- the variables of an item have their forms: over those that front matter and defaults give it stand those of its kind, of a document the two neighbours, and of a generated page its own address. After Jekyll 4's manual, "Variables"
pub record HasVariables (config : Config) (item : SiteItem) : Type 0 where
  pub kind : Kind
  pub in_group : part_group config kind item.name.part ≡ item.group
  pub address : List ℕ
  pub own : IsAddress item address
  pub given : Pairs
  pub moment : Option ℤ
  pub previous : Plain
  pub next : Plain
  pub previous_is : IsNeighbour previous
  pub next_is : IsNeighbour next
  pub are :
      let path = item.name.path in
      let above = placed path address (kind_named config.timezone kind (stem (file_name path)) given) in
      let made = between (nat_lt item.group (length config.collections)) previous next (kind_variables config kind path address moment above) in
      plain item.vars ≡ hash (part_variables item.name.part item.url made)
  pub paginator : HasPaginator item
  -- the address of an item that a file is, and what an item of the first group is
  pub rooted : item.name.part ≡ 0 → IsRooted item.url
  pub post : item.group ≡ 0 → IsPost kind item.name.part moment

-- the variables of a layout are a hash
abbrev pub HasHash : LayoutFile → Type 0
HasHash layout = (pairs : Pairs) × (plain layout.vars ≡ hash pairs)

-- the pages that are made besides: at most 100,000 archives of tags and as many of categories, a feed and a map of the site
abbrev pub most_made : ℕ
most_made = 200002

pub record IsLawful (files : Files) (site : Site) : Type 0 where
  -- there are no more items than files, as many pages that pagination generates, and those that are made besides
  pub few : length site.items ≤ 2 * len files + most_made
  -- no two items have the same name, nor two layouts, nor two includes
  pub items_differ : Differ (λ item. item.name) site.items
  pub layouts_differ : Differ (λ layout. layout.name) site.layouts
  pub includes_differ : Differ (λ include. include.name) site.includes
  -- the variables of each item say which it is, and have their forms, as those of layouts have
  pub items_known : All KnowsItself site.items
  pub variables : All (HasVariables site.config) site.items
  pub layout_variables : All HasHash site.layouts
  -- the files that are copied have different paths, and each is held
  pub copies_differ : Differ (λ copy. copy.path) site.statics
  pub copies_held : All (λ copy. contains_key files copy.path ≡ true) site.statics
  -- the moment has a date in the years 1 to 9999
  pub moment : IsMoment site.moment
  -- no key of the configuration has a value of another form than its own
  pub forms : wrong_key (hash site.config.all) ≡ None
  -- and the configuration is what the values of its keys say
  pub configuration : site.config ≡ config (hash site.config.all)
