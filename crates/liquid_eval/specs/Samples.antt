-- A small site in which nothing is found but what is listed, and texts evaluated there; only rows and tests use it.
use Rattle.std.specs.Prelude.{ℕ, List, pos, true, codes, if◌then◌else◌, Result, Ok, Err}
use Rattle.std.specs.Str.{bytes_eq}
use Rattle.site_base.specs.Plain.{Plain, nil, bool, int, text, list, hash, site_item, no_items, item, no_pairs, pair}
use Rattle.site_base.specs.declared.faults.SiteFault.{SiteFault}
use Rattle.site_base.specs.declared.item_name.ItemName.{ItemName}
use Rattle.read_record.specs.declared.key.Key.{Key}
use Rattle.read_record.specs.declared.key.Key.TheVariants.{Source, Content, Output, Var, SiteVar, Include, Link, Moment}
use Rattle.read_record.specs.Queries.{Query, Fail, View, Known, Met, interpret}
use Rattle.liquid_grammar.specs.Trees.{Tree, Fault, tree}
use Rattle.liquid_values.specs.Places.{of_body, at_start, site_fault}
use Rattle.liquid_eval.specs.Nodes.{evaluation}

abbrev pub page : ItemName
page = record { path = codes "p.html"; part = 0 }

abbrev pub post : Plain
post = site_item (codes "_posts/a.md") 0

abbrev pub include_text : List ℕ → Plain
include_text name =
    if bytes_eq name (codes "n.html") then text (codes "[{{ include.x }}]")
    else if bytes_eq name (codes "b.html") then text (codes "<{% break %}>")
    else if bytes_eq name (codes "bad.html") then text (codes "\n{% nope %}")
    else nil

abbrev pub item_variable : List ℕ → Plain
item_variable x =
    if bytes_eq x (codes "title") then text (codes "T")
    else if bytes_eq x (codes "ext") then text (codes ".md")
    else nil

abbrev pub site_variable : List ℕ → Plain
site_variable x =
    if bytes_eq x (codes "posts") then list (item post no_items)
    else if bytes_eq x (codes "documents") then list (item post no_items)
    else if bytes_eq x (codes "excerpt_separator") then text (codes "\n\n")
    else if bytes_eq x (codes "baseurl") then text (codes "/b")
    else nil

abbrev pub sample_value : Key → Plain
sample_value (Source n) = text (codes "*a* {{ page.title }}\n\nb")
sample_value (Content n) = text (codes "c")
sample_value (Output n) = nil
sample_value (Var n x) = item_variable x
sample_value (SiteVar x) = site_variable x
sample_value (Include x) = include_text x
sample_value (Link p) = text (codes "/u")
sample_value Moment = int (pos 1704067200)
sample_value k = nil

abbrev pub sample_view : View
sample_view k = Known (sample_value k)

abbrev pub evaluated_tree : Result Tree Fault → Query SiteFault (List ℕ)
evaluated_tree (Ok t) = evaluation (at_start (codes "p.html") page of_body) t
evaluated_tree (Err f) = Fail (site_fault (codes "p.html") f.line f.kind)

abbrev pub evaluated_text : List ℕ → Met SiteFault (List ℕ)
evaluated_text t = interpret sample_view (evaluated_tree (tree t))

-- ---- The same site, where what is undefined and what no filter is are faults, and the front of each text has an undefined output

abbrev pub strict_options : Plain
strict_options = hash (pair (codes "strict_variables") (bool true) (pair (codes "strict_filters") (bool true) no_pairs))

abbrev pub strict_value : Key → Plain
strict_value (Source n) = text (codes "{{ nope }}")
strict_value (SiteVar x) = if bytes_eq x (codes "liquid") then strict_options else site_variable x
strict_value k = sample_value k

abbrev pub strict_view : View
strict_view k = Known (strict_value k)

abbrev pub strictly : List ℕ → Met SiteFault (List ℕ)
strictly t = interpret strict_view (evaluated_tree (tree t))
