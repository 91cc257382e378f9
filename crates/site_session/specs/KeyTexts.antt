-- What a key is called where reasons are told.
use Rattle.std.specs.Prelude.{ℕ, List, [], ◌++◌, ◌==◌, codes, if◌then◌else◌}
use Rattle.std.specs.Fmt.{decimal}
use Rattle.site_base.specs.Plain.{Plain, text, Items, no_items, item}
use Rattle.site_base.specs.declared.item_name.ItemName.{ItemName}
use Rattle.read_record.specs.declared.key.Key.{Key}
use Rattle.read_record.specs.declared.key.Key.TheVariants.{Source, Content, Output, Var, Paginator, SiteVar, Data, Layout, Include, File, Link, Post, Moment}

-- the path of an item, with `#` and its part where that is not 0
abbrev pub item_text : ItemName → List ℕ
item_text name = name.path ++ (if name.part == 0 then [] else codes "#" ++ decimal name.part)

-- a key of data is a text
abbrev pub key_words : Plain → List ℕ
key_words (text s) = s
key_words v = []

-- the keys of data, each with a dot before it
abbrev pub dotted : Items → List ℕ
dotted no_items = []
dotted (item v is) = codes "." ++ (key_words v ++ dotted is)

-- the keys of data with dots between them
abbrev pub data_text : Items → List ℕ
data_text no_items = []
data_text (item v is) = codes " " ++ (key_words v ++ dotted is)

abbrev pub key_text : Key → List ℕ
key_text (Source name) = codes "source " ++ item_text name
key_text (Content name) = codes "content " ++ item_text name
key_text (Output name) = codes "output " ++ item_text name
key_text (Var name x) = codes "var " ++ (item_text name ++ (codes " " ++ x))
key_text (Paginator name) = codes "paginator " ++ item_text name
key_text (SiteVar x) = codes "site " ++ x
key_text (Data keys) = codes "data" ++ data_text keys
key_text (Layout x) = codes "layout " ++ x
key_text (Include x) = codes "include " ++ x
key_text (File path) = codes "file " ++ path
key_text (Link path) = codes "link " ++ path
key_text (Post x) = codes "post " ++ x
key_text Moment = codes "moment"
