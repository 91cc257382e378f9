-- The pages of archives among the items of a site: a page for each tag and each category of its posts, after the plugin jekyll-archives of Jekyll 4. Its addresses, its variables and where it stands are this project's own.
use Rattle.std.specs.Prelude.{ℕ, suc, ◌==◌, Bool, not, List, [], ◌∷◌, ◌++◌, codes, filter, fold, length, map, Option, Some, None, Result, Ok, Err, if◌then◌else◌}
use Rattle.std.specs.BTreeMap.{insert_entry}
use Rattle.std.specs.List.{list_any}
use Rattle.std.specs.Map.{values_of}
use Rattle.std.specs.Ordering.{nat_cmp, ordering_then}
use Rattle.std.specs.Str.{bytes_eq}
use Rattle.std.specs.declared.cmp.Ordering.{Ordering}
use Rattle.site_base.specs.Chains.{◌>>=◌}
use Rattle.site_base.specs.Faults.{fault_at}
use Rattle.site_base.specs.Places.{path_cmp}
use Rattle.site_base.specs.Plain.{Plain, text, list, Items, no_items, Pairs, no_pairs, set}
use Rattle.site_base.specs.View.{plain}
use Rattle.site_base.specs.declared.faults.FaultKind.TheVariants as fault
use Rattle.site_base.specs.declared.item_name.ItemName.{ItemName}
use Rattle.site_base.specs.declared.value.Value.TheVariants as value
use Rattle.site_config.specs.Forms.{setting}
use Rattle.site_config.specs.declared.config.Config.{Config}
use Rattle.site_items.specs.Items.{page_variables, placed}
use Rattle.site_reader.specs.Found.{Found}
use Rattle.site_reader.specs.Placing.{config_path}
use Rattle.site_reader.specs.declared.site_item.SiteItem.{SiteItem}
use Rattle.tag_archives.specs.Archives.{archives}
use Rattle.tag_archives.specs.declared.archive.Archive.{Archive}
use Rattle.tag_archives.specs.declared.archive.ArchiveError.{ArchiveError}
use Rattle.tag_archives.specs.declared.archive.ArchivePost.{ArchivePost}
use Rattle.tag_archives.specs.declared.archive.ArchiveWord.{ArchiveWord}
use Rattle.tag_archives.specs.declared.archive.ArchiveWord.TheVariants.{Category, Tag}

-- ---- the words

abbrev pub word_text : ArchiveWord → List ℕ
word_text Tag = codes "tag"
word_text Category = codes "category"

-- the variable of posts whose names have archives, by which the configuration asks for them too
abbrev pub word_key : ArchiveWord → List ℕ
word_key Tag = codes "tags"
word_key Category = codes "categories"

abbrev pub asks_for : Config → ArchiveWord → Bool
asks_for config word = list_any (λ asked. bytes_eq asked (word_key word)) config.make_archives

-- ---- the posts

abbrev pub terms_in : Plain → Items
terms_in (list terms) = terms
terms_in other = no_items

abbrev pub terms_of : List ℕ → Plain → Items
terms_of key vars = terms_in (setting key vars)

-- a post with its tags, or with its categories
abbrev pub archive_post : ArchiveWord → SiteItem → ArchivePost
archive_post word i = record { name = i.name; terms = terms_of (word_key word) (plain i.vars) }

-- posts are the first group
abbrev pub if_post : ArchiveWord → SiteItem → List ArchivePost
if_post word i = if i.group == 0 then archive_post word i ∷ [] else []

-- the posts in their order, the oldest first
abbrev pub archive_posts : ArchiveWord → List SiteItem → List ArchivePost
archive_posts word [] = []
archive_posts word (i ∷ is) = if_post word i ++ archive_posts word is

-- ---- a page

-- generated pages are the group after that of pages
abbrev pub generated_group : Config → ℕ
generated_group config = suc (length config.collections)

-- links to the posts, by the title of each
abbrev pub archive_body : List ℕ
archive_body = codes "<ul>{% for p in page.posts %}<li><a href=\"{{ p.url | relative_url }}\">{{ p.title | escape }}</a></li>{% endfor %}</ul>\n"

abbrev pub archive_url : ArchiveWord → List ℕ → List ℕ
archive_url word slug = codes "/" ++ (word_text word ++ (codes "/" ++ (slug ++ codes "/")))

-- the layout that the configuration names for archives, if it does
abbrev pub with_layout : Option (List ℕ) → Pairs → Pairs
with_layout None vars = vars
with_layout (Some layout) vars = set (codes "layout") (text layout) vars

-- what a page tells of its archive
abbrev pub about_archive : ArchiveWord → Archive → Pairs
about_archive word a =
    set (codes "posts") (list a.posts) (set (codes "slug") (text a.slug) (set (codes "kind") (text (word_text word)) (set (codes "title") (text a.title) no_pairs)))

-- and of itself, as every page does
abbrev pub archive_variables : Config → ArchiveWord → Archive → List ℕ → Pairs
archive_variables config word a url = page_variables a.path url (placed a.path url (with_layout config.archive_layout (about_archive word a)))

abbrev pub archive_page : Config → ArchiveWord → Archive → SiteItem
archive_page config word a = record {
  name = record { path = a.path; part = 1 };
  group = generated_group config;
  body = archive_body;
  vars = value.Hash (archive_variables config word a (archive_url word a.slug));
  url = archive_url word a.slug;
  dest = Some a.path;
  paginator = value.Nil;
}

-- ---- the pages of one word, and of both

-- archives that are not to be had are a fault of the configuration
abbrev pub of_archives : {A : Type 0} → Result A ArchiveError → Found A
of_archives (Ok made) = Ok made
of_archives (Err error) = Err (fault_at fault.Config config_path)

-- pages, and after them those of a word
abbrev pub word_pages : Config → List SiteItem → ArchiveWord → List SiteItem → Found (List SiteItem)
word_pages config items word pages = of_archives (archives word (archive_posts word items)) >>= λ made. Ok (pages ++ map (archive_page config word) made)

-- where the configuration asks for them
abbrev pub add_pages : Config → List SiteItem → ArchiveWord → List SiteItem → Found (List SiteItem)
add_pages config items word pages = if asks_for config word then word_pages config items word pages else Ok pages

abbrev pub archive_pages : Config → List SiteItem → Found (List SiteItem)
archive_pages config items = add_pages config items Category [] >>= add_pages config items Tag

-- ---- among the items

-- generated pages stand by their path, then by their part
abbrev pub name_cmp : ItemName → ItemName → Ordering
name_cmp a b = ordering_then (path_cmp a.path b.path) (nat_cmp a.part b.part)

abbrev pub named : SiteItem → ItemName × SiteItem
named i = (i.name, i)

abbrev pub in_names : List (ItemName × SiteItem) → List (ItemName × SiteItem)
in_names items = fold (λ made e. insert_entry name_cmp made e.0 e.1) [] items

abbrev pub by_name : List SiteItem → List SiteItem
by_name items = values_of (in_names (map named items))

abbrev pub is_generated : Config → SiteItem → Bool
is_generated config i = i.group == generated_group config

-- after all other items stand those that are generated, whoever made them
abbrev pub merged : Config → List SiteItem → List SiteItem → List SiteItem
merged config items pages = filter (λ i. not (is_generated config i)) items ++ by_name (filter (is_generated config) items ++ pages)

-- the items with further pages, where there are any
abbrev pub with_made : Config → List SiteItem → List SiteItem → List SiteItem
with_made config items [] = items
with_made config items (page ∷ pages) = merged config items (page ∷ pages)
