-- The variables of a site. After Jekyll 4's manual, "Variables": "Site Variables".
use Rattle.std.specs.Prelude.{ℕ, List, codes}
use Rattle.site_base.specs.Plain.{Plain, Pairs, no_pairs, pair, onto_pairs}
use Rattle.site_items.specs.Defaults.{set_all, variable}
use Rattle.site_reader.specs.declared.site.Site.{Site}
use Rattle.site_variables.specs.Hashes.{collections, documents_by_name, static_files}
use Rattle.site_variables.specs.Labels.{categories, tags}
use Rattle.site_variables.specs.Lists.{documents, html_pages, newest_posts, pages}
use Rattle.site_variables.specs.Settings.{settings}

abbrev pub item_variables : Site → Pairs
item_variables site =
    pair (codes "posts") (newest_posts site)
    (pair (codes "pages") (pages site)
    (pair (codes "html_pages") (html_pages site)
    (pair (codes "documents") (documents site) no_pairs)))

abbrev pub hash_variables : Site → Pairs
hash_variables site = pair (codes "static_files") (static_files site) (pair (codes "collections") (collections site) no_pairs)

abbrev pub label_variables : Site → Pairs
label_variables site = pair (codes "categories") (categories site) (pair (codes "tags") (tags site) no_pairs)

-- what the site has of itself, whatever its configuration says
abbrev pub own_variables : Site → Pairs
own_variables site = onto_pairs (item_variables site) (onto_pairs (hash_variables site) (label_variables site))

-- what it has of itself, over the settings of its configuration, over the documents of each collection, over all that the configuration says
unfoldable pub variables : Site → Pairs
variables site = set_all (own_variables site) (set_all (settings site.config) (set_all (documents_by_name site) site.config.all))

-- the variable of a name, or nil
abbrev pub site_variable : Site → List ℕ → Plain
site_variable site name = variable name (variables site)
