-- What a configuration says, key by key, with the default of each, after Jekyll 4's manual, "Configuration Options", "Collections" and "Front Matter Defaults"; the keys of archives, of the feed and of the sitemap are this program's own.
use Rattle.std.specs.Prelude.{ℕ, ℤ, pos, nat_le, Bool, true, false, List, [], ◌∷◌, ◌++◌, codes, map, Option, Some, None, if◌then◌else◌, unwrap_or, fold, filter_map}
use Rattle.std.specs.List.{list_any}
use Rattle.std.specs.Option.{option_and_then}
use Rattle.std.specs.Str.{bytes_eq}
use Rattle.site_base.specs.Plain.{Plain, nil, bool, int, text, list, hash, Items, item_list, Pairs, no_pairs}
use Rattle.site_dates.specs.Offset.{read_offset}
use Rattle.site_config.specs.Forms.{setting, pair_list}
use Rattle.site_config.specs.declared.config.Config.{Config}
use Rattle.site_config.specs.declared.collection.Collection.{Collection}
use Rattle.site_config.specs.declared.scope.Scope.{Scope}
use Rattle.site_config.specs.declared.sorting.Sorting.{Sorting}
use Rattle.site_config.specs.declared.sorting.Sorting.TheVariants.{ByDate, By, Listed}

abbrev pub text_or : List ℕ → Plain → List ℕ
text_or other (text s) = s
text_or other v = other

abbrev pub optional_text : Plain → Option (List ℕ)
optional_text (text s) = Some s
optional_text v = None

abbrev pub texts_in : Items → List (List ℕ)
texts_in is = filter_map optional_text (item_list is)

abbrev pub texts_or : List (List ℕ) → Plain → List (List ℕ)
texts_or others (list is) = texts_in is
texts_or others v = others

abbrev pub flag : Plain → Bool
flag (bool b) = b
flag v = false

-- a number of at least 1
abbrev pub count_of : Plain → Option ℕ
count_of (int (pos n)) = if nat_le 1 n then Some n else None
count_of v = None

abbrev pub offset_of : Plain → ℤ
offset_of v = unwrap_or (option_and_then read_offset (optional_text v)) (pos 0)

abbrev pub pairs_in : Plain → Pairs
pairs_in (hash ps) = ps
pairs_in v = no_pairs

-- what never is a source file: Bundler's files, and folders that tools keep
abbrev pub excluded : List (List ℕ)
excluded =
    codes "Gemfile" ∷ codes "Gemfile.lock" ∷ codes "node_modules" ∷ codes "vendor/bundle" ∷ codes "vendor/cache" ∷ codes "vendor/gems"
    ∷ codes "vendor/ruby" ∷ codes ".sass-cache" ∷ codes ".jekyll-cache" ∷ codes "gemfiles" ∷ []

abbrev pub by_variable : Plain → Sorting
by_variable (text name) = By name
by_variable v = ByDate

-- the list `order` wins over `sort_by`, also where it is empty
abbrev pub sorting_by : Plain → Plain → Sorting
sorting_by (list is) sort_by = Listed (texts_in is)
sorting_by order sort_by = by_variable sort_by

abbrev pub sorting : Plain → Sorting
sorting v = sorting_by (setting (codes "order") v) (setting (codes "sort_by") v)

-- a collection and its settings
abbrev pub collection : List ℕ → Plain → Collection
collection name v = record { name = name; output = flag (setting (codes "output") v); permalink = optional_text (setting (codes "permalink") v); sorting = sorting v }

-- the posts are a collection with output and by date, whatever the configuration says
abbrev pub posts : Plain → Collection
posts v = record { name = codes "posts"; output = true; permalink = optional_text (setting (codes "permalink") (setting (codes "posts") v)); sorting = ByDate }

abbrev pub is_named : List ℕ → List Collection → Bool
is_named name cs = list_any (λ c. bytes_eq name c.name) cs

-- a collection at the end, unless one of its name is there
abbrev pub add : List Collection → List ℕ × Plain → List Collection
add cs p = if is_named p.0 cs then cs else cs ++ collection p.0 p.1 ∷ []

-- the names that are given, each with its settings
abbrev pub named : Plain → List (List ℕ × Plain)
named (list is) = map (λ s. (s, nil)) (texts_in is)
named (hash ps) = pair_list ps
named v = []

-- the collections, posts first, each name once
abbrev pub collections_of : Plain → List Collection
collections_of v = fold add (posts v ∷ []) (named v)

abbrev pub scope_of : Plain → Scope
scope_of v = let scope = setting (codes "scope") v in
    record { path = text_or [] (setting (codes "path") scope); kind = optional_text (setting (codes "type") scope); values = pairs_in (setting (codes "values") v) }

abbrev pub scopes_of : Plain → List Scope
scopes_of (list is) = map scope_of (item_list is)
scopes_of v = []

-- a configuration is a mapping, or nothing at all
abbrev pub is_mapping : Plain → Bool
is_mapping nil = true
is_mapping (hash ps) = true
is_mapping v = false

abbrev pub config : Plain → Config
config all = record {
  baseurl = text_or [] (setting (codes "baseurl") all);
  url = text_or [] (setting (codes "url") all);
  permalink = text_or (codes "date") (setting (codes "permalink") all);
  markdown_ext = text_or (codes "markdown,mkdown,mkdn,mkd,md") (setting (codes "markdown_ext") all);
  include = texts_or (codes ".htaccess" ∷ []) (setting (codes "include") all);
  exclude = excluded ++ texts_or [] (setting (codes "exclude") all);
  keep_files = texts_or (codes ".git" ∷ codes ".svn" ∷ []) (setting (codes "keep_files") all);
  collections = collections_of (setting (codes "collections") all);
  defaults = scopes_of (setting (codes "defaults") all);
  paginate = count_of (setting (codes "paginate") all);
  paginate_path = text_or (codes "/page:num") (setting (codes "paginate_path") all);
  excerpt_separator = text_or (10 ∷ 10 ∷ []) (setting (codes "excerpt_separator") all);
  timezone = offset_of (setting (codes "timezone") all);
  future = flag (setting (codes "future") all);
  unpublished = flag (setting (codes "unpublished") all);
  show_drafts = flag (setting (codes "show_drafts") all);
  make_archives = texts_or [] (setting (codes "make_archives") all);
  archive_layout = optional_text (setting (codes "archive_layout") all);
  make_feed = flag (setting (codes "make_feed") all);
  make_sitemap = flag (setting (codes "make_sitemap") all);
  all = pairs_in all;
}
