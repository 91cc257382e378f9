-- Collections and copied files as hashes. After Jekyll 4's manual, "Collections" and "Static Files".
use Rattle.std.specs.Prelude.{ℕ, ◌+◌, List, [], ◌∷◌, codes}
use Rattle.site_base.specs.Plain.{Plain, bool, text, list, hash, Items, no_items, item, Pairs, no_pairs, pair}
use Rattle.site_config.specs.declared.collection.Collection.{Collection}
use Rattle.site_files.specs.Names.{extension, file_name, stem}
use Rattle.site_items.specs.declared.static_file.StaticFile.{StaticFile}
use Rattle.site_reader.specs.declared.site.Site.{Site}
use Rattle.site_reader.specs.declared.site_item.SiteItem.{SiteItem}
use Rattle.site_variables.specs.Lists.{documents_of, each, names}

-- a copied file, whose path is that of its address
abbrev pub copied : StaticFile → Plain
copied file = let name = file_name file.path in
    hash (pair (codes "path") (text file.url) (pair (codes "name") (text name)
    (pair (codes "basename") (text (stem name)) (pair (codes "extname") (text (extension name)) no_pairs))))

abbrev pub static_files : Site → Plain
static_files site = list (each copied site.statics)

-- ---- collections, from the one at a place on

abbrev pub collection_with : Plain → Collection → Plain
collection_with documents c =
    hash (pair (codes "label") (text c.name) (pair (codes "output") (bool c.output) (pair (codes "docs") documents no_pairs)))

abbrev pub collections_from : List SiteItem → ℕ → List Collection → Items
collections_from items place [] = no_items
collections_from items place (c ∷ cs) = item (collection_with (names (documents_of place items)) c) (collections_from items (place + 1) cs)

abbrev pub collections : Site → Plain
collections site = list (collections_from site.items 0 site.config.collections)

-- the documents of each collection, under its name
abbrev pub documents_from : List SiteItem → ℕ → List Collection → Pairs
documents_from items place [] = no_pairs
documents_from items place (c ∷ cs) = pair c.name (names (documents_of place items)) (documents_from items (place + 1) cs)

abbrev pub documents_by_name : Site → Pairs
documents_by_name site = documents_from site.items 0 site.config.collections
