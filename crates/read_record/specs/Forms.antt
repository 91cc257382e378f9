-- Which values a look-up of a key may give.
use Rattle.std.specs.Prelude.{◌≡◌, pos, Bool, true, false, ◌&&◌, is_none, nat_le, codes, Option, Some, IsTrue}
use Rattle.site_base.specs.Limits.{last_moment}
use Rattle.site_base.specs.Path.{path_refusal}
use Rattle.site_base.specs.Plain.{Plain, nil, text, hash, int, get}
use Rattle.read_record.specs.declared.key.Key.{Key}
use Rattle.read_record.specs.declared.key.Key.TheVariants.{Source, Content, Output, Var, Paginator, SiteVar, Data, Layout, Include, File, Link, Post, Moment}
use Rattle.read_record.specs.Queries.{View, Known}

-- nil or a text
abbrev pub is_words : Plain → Bool
is_words nil = true
is_words (text s) = true
is_words v = false

-- nil or a hash
abbrev pub is_fields : Plain → Bool
is_fields nil = true
is_fields (hash ps) = true
is_fields v = false

-- the text of a path
abbrev pub is_path : Option Plain → Bool
is_path (Some (text s)) = is_none (path_refusal s)
is_path v = false

abbrev pub is_some_hash : Option Plain → Bool
is_some_hash (Some (hash ps)) = true
is_some_hash v = false

abbrev pub is_some_text : Option Plain → Bool
is_some_text (Some (text s)) = true
is_some_text v = false

-- nil, or the path of a layout, its variables and its body
abbrev pub is_layout : Plain → Bool
is_layout nil = true
is_layout (hash ps) = is_path (get (codes "path") ps) && (is_some_hash (get (codes "vars") ps) && is_some_text (get (codes "body") ps))
is_layout v = false

-- a number of seconds from 1970 up to the last moment
abbrev pub is_moment : Plain → Bool
is_moment (int (pos n)) = nat_le n last_moment
is_moment v = false

-- variables and data are any values
abbrev pub has_form : Key → Plain → Bool
has_form (Source name) v = is_words v
has_form (Content name) v = is_words v
has_form (Output name) v = is_words v
has_form (Var name x) v = true
has_form (Paginator name) v = is_fields v
has_form (SiteVar x) v = true
has_form (Data keys) v = true
has_form (Layout x) v = is_layout v
has_form (Include x) v = is_words v
has_form (File path) v = is_words v
has_form (Link path) v = is_words v
has_form (Post x) v = is_words v
has_form Moment v = is_moment v

-- each value that the view gives has the form of its key
abbrev pub IsFormed : View → Type 0
IsFormed view = (k : Key) (v : Plain) → view k ≡ Known v → IsTrue (has_form k v)
