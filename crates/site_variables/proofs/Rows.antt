-- The variables of a small site, name by name.
use Rattle.std.proofs.Common.{◌≡◌, refl, ℕ, false, List, [], ◌∷◌, None}
use Rattle.std.specs.Prelude.{codes, pos}
use Rattle.site_base.specs.Plain.{Plain, nil, bool, text, list, hash, site_item, Items, no_items, item, Pairs, no_pairs, pair}
use Rattle.site_base.specs.declared.value.Value.TheVariants as value
use Rattle.site_config.specs.Config.{config}
use Rattle.site_reader.specs.declared.site.Site.{Site}
use Rattle.site_reader.specs.declared.site_item.SiteItem.{SiteItem}
use Rattle.site_variables.specs.Variables.{site_variable, variables}

abbrev one : List ℕ → Plain
one s = list (item (text s) no_items)

abbrev two : List ℕ → List ℕ → Plain
two s t = list (item (text s) (item (text t) no_items))

abbrev item_at : List ℕ → ℕ → List ℕ → Plain → SiteItem
item_at path group url tags = record {
  name = record { path = path; part = 0 };
  group = group;
  body = [];
  vars = value.Hash (pair (codes "tags") tags no_pairs);
  url = url;
  dest = None;
  paginator = value.Nil;
}

-- two posts, a film, and three pages; the configuration has a collection of films and one that is named as a setting
abbrev all : Pairs
all = pair (codes "title") (text (codes "T")) (pair (codes "pages") (text (codes "no"))
    (pair (codes "exclude") (one (codes "x")) (pair (codes "collections") (two (codes "films") (codes "paginate")) no_pairs)))

abbrev sample : Site
sample = record {
  config = config (hash all);
  items =
      item_at (codes "old.md") 0 (codes "/o.html") (two (codes "b") (codes "a")) ∷ item_at (codes "new.md") 0 (codes "/n.html") (two (codes "a") (codes "c"))
      ∷ item_at (codes "film.md") 1 (codes "/f.html") nil
      ∷ item_at (codes "a.css") 3 (codes "/a.css") nil ∷ item_at (codes "i.txt") 3 (codes "/i/") nil ∷ item_at (codes "p.md") 3 (codes "/p") nil ∷ [];
  layouts = [];
  includes = [];
  data_tree = value.Hash no_pairs;
  statics = record { path = codes "_films/x.tar.gz"; url = codes "/films/x.tar.gz"; dest = None } ∷ [];
  moment = pos 0;
}

abbrev names : List (List ℕ) → Plain
names paths = list (named paths)
  where
    named : List (List ℕ) → Items
    named [] = no_items
    named (path ∷ paths) = item (site_item path 0) (named paths)

posts : site_variable sample (codes "posts") ≡ names (codes "new.md" ∷ codes "old.md" ∷ [])
unfolding variables
posts = refl

pages : site_variable sample (codes "pages") ≡ names (codes "a.css" ∷ codes "i.txt" ∷ codes "p.md" ∷ [])
unfolding variables
pages = refl

html_pages : site_variable sample (codes "html_pages") ≡ names (codes "i.txt" ∷ codes "p.md" ∷ [])
unfolding variables
html_pages = refl

documents : site_variable sample (codes "documents") ≡ names (codes "old.md" ∷ codes "new.md" ∷ codes "film.md" ∷ [])
unfolding variables
documents = refl

static_files : site_variable sample (codes "static_files") ≡ list (item (hash (pair (codes "path") (text (codes "/films/x.tar.gz")) (pair (codes "name") (text (codes "x.tar.gz"))
    (pair (codes "basename") (text (codes "x.tar")) (pair (codes "extname") (text (codes ".gz")) no_pairs))))) no_items)
unfolding variables
static_files = refl

tags : site_variable sample (codes "tags") ≡ hash (pair (codes "b") (names (codes "old.md" ∷ [])) (pair (codes "a") (names (codes "new.md" ∷ codes "old.md" ∷ []))
    (pair (codes "c") (names (codes "new.md" ∷ [])) no_pairs)))
unfolding variables
tags = refl

categories : site_variable sample (codes "categories") ≡ hash no_pairs
unfolding variables
categories = refl

films : site_variable sample (codes "films") ≡ names (codes "film.md" ∷ [])
unfolding variables
films = refl

paginate : site_variable sample (codes "paginate") ≡ nil
unfolding variables
paginate = refl

excerpt_separator : site_variable sample (codes "excerpt_separator") ≡ text (10 ∷ 10 ∷ [])
unfolding variables
excerpt_separator = refl

keep_files : site_variable sample (codes "keep_files") ≡ two (codes ".git") (codes ".svn")
unfolding variables
keep_files = refl

timezone : site_variable sample (codes "timezone") ≡ text (codes "UTC")
unfolding variables
timezone = refl

title : site_variable sample (codes "title") ≡ text (codes "T")
unfolding variables
title = refl

absent : site_variable sample (codes "absent") ≡ nil
unfolding variables
absent = refl

liquid : site_variable sample (codes "liquid") ≡ hash (pair (codes "strict_variables") (bool false) (pair (codes "strict_filters") (bool false) no_pairs))
unfolding variables
liquid = refl

make_archives : site_variable sample (codes "make_archives") ≡ list no_items
unfolding variables
make_archives = refl

archive_layout : site_variable sample (codes "archive_layout") ≡ nil
unfolding variables
archive_layout = refl

make_feed : site_variable sample (codes "make_feed") ≡ bool false
unfolding variables
make_feed = refl

make_sitemap : site_variable sample (codes "make_sitemap") ≡ bool false
unfolding variables
make_sitemap = refl
