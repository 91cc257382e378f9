-- What the shelf answers, by what it holds.
use Rattle.std.specs.Prelude.{◌≡◌, ℕ, pos, Bool, true, false, List, codes, Option, Some, None, IsTrue, refl}
use Rattle.std.proofs.Common.{subst}
use Rattle.std.specs.Str.{bytes_eq}
use Rattle.site_base.specs.Plain.{Plain, Pairs, nil, int, text, hash, get, Items, no_items, item}
use Rattle.filter_base.specs.Properties.{or_nil}
use Rattle.read_record.specs.declared.key.Key.{Key}
use Rattle.read_record.specs.declared.key.Key.TheVariants.{Source, Content, Output, Var, Paginator, SiteVar, Data, Layout, Include, File, Link, Post, Moment}
use Rattle.read_record.specs.Forms.{has_form, is_words, is_fields, IsFormed}
use Rattle.read_record.specs.Queries.{View, Known}

-- a text, or nil
abbrev pub words : Option Plain → Plain
words (Some (text s)) = text s
words o = nil

-- a hash, or nil
abbrev pub fields : Option Plain → Plain
fields (Some (hash ps)) = hash ps
fields o = nil

abbrev pub member_of : List ℕ → Option Plain → Option Plain
member_of name (Some (hash ps)) = get name ps
member_of name o = None

-- what a key of data finds
abbrev pub keyed : Plain → Option Plain → Option Plain
keyed (text name) o = member_of name o
keyed key o = None

-- what stands under keys, one below the other
abbrev pub under : Items → Option Plain → Option Plain
under no_items o = o
under (item key keys) o = under keys (keyed key o)

-- a member of what is held of one sort
abbrev pub member : List ℕ → List ℕ → Pairs → Option Plain
member sort name held = member_of name (get sort held)

-- a list of items stands before a variable of its name
abbrev pub items_or : Plain → Option Plain → Plain
items_or v None = v
items_or v (Some items) = items

abbrev pub site_variable : List ℕ → Pairs → Plain
site_variable name held = items_or (or_nil (member (codes "site") name held)) (member (codes "items") name held)

abbrev pub paginator_if : Bool → Pairs → Plain
paginator_if true held = fields (get (codes "paginator") held)
paginator_if false held = nil

-- only the first page has one
abbrev pub paginator : List ℕ → Pairs → Plain
paginator path held = paginator_if (bytes_eq path (codes "p.html")) held

abbrev pub answer : Pairs → Key → Plain
answer held (Source n) = words (member (codes "source") n.path held)
answer held (Content n) = words (member (codes "content") n.path held)
answer held (Output n) = words (member (codes "output") n.path held)
answer held (Var n x) = or_nil (member_of x (member (codes "var") n.path held))
answer held (Paginator n) = paginator n.path held
answer held (SiteVar x) = site_variable x held
answer held (Data keys) = or_nil (under keys (get (codes "data") held))
answer held (Layout x) = nil
answer held (Include x) = words (member (codes "include") x held)
answer held (File path) = words (member (codes "file") path held)
answer held (Link path) = words (member (codes "link") path held)
answer held (Post x) = words (member (codes "post") x held)
answer held Moment = int (pos 1704067200)

abbrev pub shelf_view : Pairs → View
shelf_view held k = Known (answer held k)

-- ---- each answer has the form of its key

formed-at : (k : Key) (v w : Plain) → IsTrue (has_form k v) → v ≡ w → IsTrue (has_form k w)
formed-at k v w h e = subst (λ x. IsTrue (has_form k x)) e h

words-fit : (o : Option Plain) → IsTrue (is_words (words o))
words-fit (Some (text s)) = refl
words-fit o = refl

fields-fit : (o : Option Plain) → IsTrue (is_fields (fields o))
fields-fit (Some (hash ps)) = refl
fields-fit o = refl

paginator-fits : (is_first : Bool) (held : Pairs) → IsTrue (is_fields (paginator_if is_first held))
paginator-fits true held = fields-fit (get (codes "paginator") held)
paginator-fits false held = refl

pub shelf-formed : (held : Pairs) → IsFormed (shelf_view held)
shelf-formed held (Source n) v h = formed-at (Source n) (answer held (Source n)) v (words-fit (member (codes "source") n.path held)) (cc)
shelf-formed held (Content n) v h = formed-at (Content n) (answer held (Content n)) v (words-fit (member (codes "content") n.path held)) (cc)
shelf-formed held (Output n) v h = formed-at (Output n) (answer held (Output n)) v (words-fit (member (codes "output") n.path held)) (cc)
shelf-formed held (Var n x) v h = refl
shelf-formed held (Paginator n) v h = formed-at (Paginator n) (answer held (Paginator n)) v (paginator-fits (bytes_eq n.path (codes "p.html")) held) (cc)
shelf-formed held (SiteVar x) v h = refl
shelf-formed held (Data keys) v h = refl
shelf-formed held (Layout x) v h = formed-at (Layout x) nil v refl (cc)
shelf-formed held (Include x) v h = formed-at (Include x) (answer held (Include x)) v (words-fit (member (codes "include") x held)) (cc)
shelf-formed held (File path) v h = formed-at (File path) (answer held (File path)) v (words-fit (member (codes "file") path held)) (cc)
shelf-formed held (Link path) v h = formed-at (Link path) (answer held (Link path)) v (words-fit (member (codes "link") path held)) (cc)
shelf-formed held (Post x) v h = formed-at (Post x) (answer held (Post x)) v (words-fit (member (codes "post") x held)) (cc)
shelf-formed held Moment v h = formed-at Moment (int (pos 1704067200)) v refl (cc)
