-- The posts by their categories and tags: hashes from names to posts. After Jekyll 4's manual, "Variables": `site.categories`, `site.tags`.
use Rattle.std.specs.Prelude.{ℕ, List, [], codes, fold, Option, Some}
use Rattle.site_base.specs.Plain.{Plain, list, hash, Items, no_items, item, Pairs, no_pairs, get, set}
use Rattle.site_base.specs.View.{plain}
use Rattle.site_config.specs.Config.{texts_or}
use Rattle.site_config.specs.Forms.{setting}
use Rattle.site_reader.specs.declared.site.Site.{Site}
use Rattle.site_reader.specs.declared.site_item.SiteItem.{SiteItem}
use Rattle.site_variables.specs.Lists.{named, posts}

-- the names that a post has under `categories` or `tags`
abbrev pub labels : List ℕ → SiteItem → List (List ℕ)
labels key post = texts_or [] (setting key (plain post.vars))

-- the values of a list that is there
abbrev pub values_in : Option Plain → Items
values_in (Some (list is)) = is
values_in other = no_items

-- a post before all others of one name
abbrev pub before_others : Plain → Pairs → List ℕ → Pairs
before_others post groups name = set name (list (item post (values_in (get name groups)))) groups

-- a post before all others of each of its names
abbrev pub with_post : List ℕ → Pairs → SiteItem → Pairs
with_post key groups post = fold (before_others (named post)) groups (labels key post)

-- from the oldest post to the newest, so that the newest stands first under each name
abbrev pub by_labels : List ℕ → List SiteItem → Pairs
by_labels key posts = fold (with_post key) no_pairs posts

abbrev pub categories : Site → Plain
categories site = hash (by_labels (codes "categories") (posts site.items))

abbrev pub tags : Site → Plain
tags site = hash (by_labels (codes "tags") (posts site.items))
