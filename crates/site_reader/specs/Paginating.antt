-- Pagination: the posts, newest first, are spread over pages. The first page is a page of the site, the template; the others are generated. After Jekyll 4's manual, "Pagination"; which page is the template, what a paginator has where a neighbour is missing, and where generated pages stand among the items are this project's own.
use Rattle.std.specs.Prelude.{◌≡◌, ℕ, zero, suc, ◌-◌, ◌==◌, nat_eq, nat_lt, pos, Bool, not, ◌&&◌, List, [], ◌∷◌, ◌++◌, codes, length, reverse, take, drop, slice_get, slice_set, Option, Some, None, Ok, if◌then◌else◌}
use Rattle.std.specs.List.{ends_with, position}
use Rattle.std.specs.Option.{option_or}
use Rattle.std.specs.Str.{bytes_eq}
use Rattle.site_base.specs.Chains.{◌>>=◌}
use Rattle.site_base.specs.Plain.{Plain, nil, int, text, list, site_item, Items, no_items, item, Pairs, no_pairs, pair, onto_pairs, hash}
use Rattle.site_base.specs.View.{plain}
use Rattle.site_base.specs.declared.item_name.ItemName.{ItemName}
use Rattle.site_base.specs.declared.value.Value.{Value}
use Rattle.site_base.specs.declared.value.Value.TheVariants as value
use Rattle.pagination.specs.Pages.{page_count, page_path}
use Rattle.permalinks.specs.Dest.{dest}
use Rattle.site_config.specs.Config.{count_of, flag}
use Rattle.site_config.specs.Forms.{setting}
use Rattle.site_config.specs.declared.config.Config.{Config}
use Rattle.site_files.specs.Choosing.{without_slash}
use Rattle.site_files.specs.Names.{folder}
use Rattle.site_items.specs.Addresses.{behind, if_path}
use Rattle.site_items.specs.Extensions.{html}
use Rattle.site_items.specs.Items.{addressed}
use Rattle.site_reader.specs.Found.{Found, in_file}
use Rattle.site_reader.specs.Placing.{config_path}
use Rattle.site_reader.specs.declared.paging.Paging.{Paging}
use Rattle.site_reader.specs.declared.site_item.SiteItem.{SiteItem}

-- the number of posts on a page is what the configuration's value says
abbrev pub HasSize : Config → Type 0
HasSize config = config.paginate ≡ count_of (setting (codes "paginate") (hash config.all))

-- ---- the template

-- `index.html` in the folder of the pages' paths
abbrev pub index_path : List ℕ → List ℕ
index_path pattern = behind (codes "/") (folder (without_slash pattern) ++ codes "/index.html")

-- pages are the group behind the collections
abbrev pub is_page_at : ℕ → List ℕ → SiteItem → Bool
is_page_at pages path i = (i.group == pages) && bytes_eq i.name.path path

abbrev pub page_place : ℕ → List ℕ → List SiteItem → Option ℕ
page_place pages path items = position (is_page_at pages path) items

-- the place of the page there, else of the one at the root
abbrev pub template_place : Config → List SiteItem → Option ℕ
template_place config items = let pages = length config.collections in
    option_or (page_place pages (index_path config.paginate_path) items) (page_place pages (codes "index.html") items)

-- ---- the posts

abbrev pub is_hidden : Plain → Bool
is_hidden vars = flag (setting (codes "hidden") vars)

-- posts are the first group
abbrev pub is_listed : SiteItem → Bool
is_listed i = (i.group == 0) && not (is_hidden (plain i.vars))

abbrev pub if_listed : SiteItem → List ItemName
if_listed i = if is_listed i then i.name ∷ [] else []

abbrev pub listed : List SiteItem → List ItemName
listed [] = []
listed (i ∷ is) = if_listed i ++ listed is

-- newest first
abbrev pub posts : List SiteItem → List ItemName
posts items = reverse (listed items)

-- ---- the paginator of a page

abbrev pub number : ℕ → Plain
number n = int (pos n)

abbrev pub names : List ItemName → Items
names [] = no_items
names (n ∷ ns) = item (site_item n.path n.part) (names ns)

-- the page before this one, and the one behind it
abbrev pub page_before : ℕ → Option ℕ
page_before page = if nat_lt 1 page then Some (page - 1) else None

abbrev pub page_behind : Paging → ℕ → Option ℕ
page_behind paging page = if nat_lt page paging.total_pages then Some (suc page) else None

abbrev pub number_of : Option ℕ → Plain
number_of None = nil
number_of (Some page) = number page

-- what leads to a page: to the first its URL
abbrev pub link : Paging → ℕ → List ℕ
link paging page = if page == 1 then paging.template.url else page_path paging.pattern page

abbrev pub path_of : Paging → Option ℕ → Plain
path_of paging None = nil
path_of paging (Some page) = text (link paging page)

-- what is said of the page itself
abbrev pub about_page : Paging → ℕ → List ItemName → Pairs
about_page paging page posts =
    pair (codes "page") (number page)
    (pair (codes "per_page") (number paging.per_page)
    (pair (codes "posts") (list (names posts))
    (pair (codes "total_posts") (number paging.total_posts)
    (pair (codes "total_pages") (number paging.total_pages) no_pairs))))

-- what a page's template knows of the page, and of its neighbours
abbrev pub paginator : Paging → ℕ → List ItemName → Pairs
paginator paging page posts =
    onto_pairs (about_page paging page posts)
    (pair (codes "previous_page") (number_of (page_before page))
    (pair (codes "previous_page_path") (path_of paging (page_before page))
    (pair (codes "next_page") (number_of (page_behind paging page))
    (pair (codes "next_page_path") (path_of paging (page_behind paging page)) no_pairs))))

-- ---- the pages

-- a path with `/` at its end
abbrev pub page_url : List ℕ → List ℕ
page_url path = if ends_with nat_eq path (codes "/") then path else path ++ codes "/"

-- variables with another address
abbrev pub with_address : List ℕ → Value → Value
with_address url (value.Hash vars) = value.Hash (addressed url vars)
with_address url v = v

-- a page that is generated, with the body and the variables of the template, and with an address of its own
abbrev pub generated : Paging → ℕ → List ItemName → List ℕ → Option (List ℕ) → SiteItem
generated paging page posts url dest = record {
  name = record { path = paging.template.name.path; part = page };
  group = paging.group;
  body = paging.template.body;
  vars = with_address url paging.template.vars;
  url = url;
  dest = dest;
  paginator = value.Hash (paginator paging page posts);
}

-- its URL has to give the path of an output, which is HTML as the template is
abbrev pub page_at : Paging → ℕ → List ItemName → List ℕ → Found SiteItem
page_at paging page posts url = in_file config_path (if_path (dest url html)) >>= λ path. Ok (generated paging page posts url path)

abbrev pub page : Paging → ℕ → List ItemName → Found SiteItem
page paging number posts = page_at paging number posts (page_url (page_path paging.pattern number))

-- the items with one page more
abbrev pub with_page : Paging → ℕ → List ItemName → List SiteItem → Found (List SiteItem)
with_page paging number posts items = page paging number posts >>= λ made. Ok (items ++ made ∷ [])

-- the items with so many pages more, from this one on, which hold the posts that are left
unfoldable pub with_pages : Paging → ℕ → ℕ → List ItemName → List SiteItem → Found (List SiteItem)
with_pages paging zero number posts items = Ok items
with_pages paging (suc more) number posts items =
    with_page paging number (take paging.per_page posts) items >>= with_pages paging more (suc number) (drop paging.per_page posts)

-- the template as the first page
abbrev pub first_page : Paging → List ItemName → SiteItem
first_page paging posts = record paging.template { paginator = value.Hash (paginator paging 1 (take paging.per_page posts)) }

-- the template's items with the posts spread over pages
abbrev pub spread : Paging → ℕ → List ItemName → List SiteItem → Found (List SiteItem)
spread paging place posts items =
    with_pages paging (paging.total_pages - 1) 2 (drop paging.per_page posts) (slice_set items place (first_page paging posts))

abbrev pub paging_of : Config → ℕ → SiteItem → ℕ → Paging
paging_of config per_page template posts = record {
  template = template;
  group = suc (length config.collections);
  pattern = config.paginate_path;
  per_page = per_page;
  total_posts = posts;
  total_pages = page_count posts per_page;
}

-- without posts there are no pages
abbrev pub spread_if : Config → ℕ → ℕ → SiteItem → List ItemName → List SiteItem → Found (List SiteItem)
spread_if config per_page place template [] items = Ok items
spread_if config per_page place template (post ∷ posts) items = spread (paging_of config per_page template (length (post ∷ posts))) place (post ∷ posts) items

-- ---- the items of a site with its pages

abbrev pub with_template : Config → ℕ → List SiteItem → ℕ → Option SiteItem → Found (List SiteItem)
with_template config per_page items place None = Ok items
with_template config per_page items place (Some template) = spread_if config per_page place template (posts items) items

abbrev pub with_place : Config → ℕ → List SiteItem → Option ℕ → Found (List SiteItem)
with_place config per_page items None = Ok items
with_place config per_page items (Some place) = with_template config per_page items place (slice_get items place)

abbrev pub with_size : Config → List SiteItem → Option ℕ → Found (List SiteItem)
with_size config items None = Ok items
with_size config items (Some per_page) = with_place config per_page items (template_place config items)

-- the items, and behind them the pages that are generated, where the configuration asks for them and there is a template
abbrev pub paginated : Config → List SiteItem → Found (List SiteItem)
paginated config items = with_size config items config.paginate
