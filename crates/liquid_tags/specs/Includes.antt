-- `include` and `include_relative`. After Jekyll 4's manual, "Includes".
use Rattle.std.specs.Prelude.{ℕ, ◌==◌, ◌-◌, Bool, true, false, List, [], ◌∷◌, ◌++◌, length, take, is_none, codes, if◌then◌else◌, Option, Some, None, Result, Ok, Err}
use Rattle.std.specs.List.{suffix_len}
use Rattle.site_base.specs.Path.{path_refusal}
use Rattle.site_base.specs.Plain.{Plain, nil, bool, int, text, list, hash, site_item, range, Pairs, no_pairs, set}
use Rattle.site_base.specs.declared.faults.FaultKind.{FaultKind}
use Rattle.site_base.specs.declared.faults.FaultKind.TheVariants.{IncludeMissing}
use Rattle.site_base.specs.declared.faults.SiteFault.{SiteFault}
use Rattle.read_record.specs.declared.key.Key.{Key}
use Rattle.read_record.specs.declared.key.Key.TheVariants.{Include, File}
use Rattle.read_record.specs.Queries.{Query, Give, Fail, Ask, bind}
use Rattle.filter_base.specs.Limits.{fits}
use Rattle.liquid_grammar.specs.declared.expression.Parameter.{Parameter}
use Rattle.liquid_grammar.specs.declared.tag.Include.{Include as IncludeTag}
use Rattle.liquid_grammar.specs.Trees.{Tree, Fault, tree}
use Rattle.liquid_values.specs.Places.{Place, site_fault, fails, found_at}
use Rattle.liquid_tags.specs.declared.includes.Wanted.{Wanted}
use Rattle.liquid_values.specs.Names.{Excerpting}
use Rattle.liquid_tags.specs.Expressions.{expression}
use Rattle.liquid_tags.specs.FileNames.{name_text}

abbrev pub included_file : List ℕ → Wanted
included_file name = record { file = codes "_includes/" ++ name; key = Include name }

abbrev pub is_not_slash : ℕ → Bool
is_not_slash c = if c == 47 then false else true

-- up to the last slash
abbrev pub folder_of : List ℕ → List ℕ
folder_of path = take (length path - suffix_len is_not_slash path) path

abbrev pub relative_file : List ℕ → List ℕ → Wanted
relative_file page name = record { file = folder_of page ++ name; key = File (folder_of page ++ name) }

abbrev pub path_or_none : List ℕ → Option (List ℕ)
path_or_none t = if is_none (path_refusal t) then Some t else None

-- a name that makes no path names no file
abbrev pub if_path : Wanted → Option Wanted
if_path w = if is_none (path_refusal w.file) then Some w else None

-- an include's text, and the value of `include` in it where the tag has parameters
pub record Included : Type 0 where
  pub file : List ℕ
  pub tree : Tree
  pub given : Option Plain

module _ (excerpts : Excerpting) where
  -- the parameters, of which a later one with the same name counts
  abbrev pub parameters : Place → Pairs → Pairs → List Parameter → Query SiteFault Pairs
  parameters p vars made [] = Give made
  parameters p vars made (q ∷ qs) = bind (expression excerpts p vars q.value) (λ v. parameters p vars (set q.name v made) qs)

  abbrev pub given_value : Place → Pairs → List Parameter → Query SiteFault Plain
  given_value p vars ps = bind (parameters p vars no_pairs ps) (λ made. found_at p (fits (hash made)))

  abbrev pub some_given : Place → Pairs → List Parameter → Query SiteFault (Option Plain)
  some_given p vars ps = bind (given_value p vars ps) (λ v. Give (Some v))

  abbrev pub include_value : Place → Pairs → List Parameter → Query SiteFault (Option Plain)
  include_value p vars [] = Give None
  include_value p vars (q ∷ qs) = some_given p vars (q ∷ qs)

  -- a fault of the text is named in the included file
  abbrev pub included_tree : Place → Pairs → List ℕ → List Parameter → Result Tree Fault → Query SiteFault Included
  included_tree p vars file ps (Ok t) = bind (include_value p vars ps) (λ given. Give (record { file = file; tree = t; given = given }))
  included_tree p vars file ps (Err f) = Fail (site_fault file f.line f.kind)

  abbrev pub included_text : Place → Pairs → List ℕ → List Parameter → Plain → Query SiteFault Included
  included_text p vars file ps (text t) = included_tree p vars file ps (tree t)
  included_text p vars file ps nil = fails p IncludeMissing
  included_text p vars file ps (bool b) = fails p IncludeMissing
  included_text p vars file ps (int n) = fails p IncludeMissing
  included_text p vars file ps (list is) = fails p IncludeMissing
  included_text p vars file ps (hash qs) = fails p IncludeMissing
  included_text p vars file ps (site_item path part) = fails p IncludeMissing
  included_text p vars file ps (range a b) = fails p IncludeMissing

  abbrev pub wanted : Place → Pairs → List Parameter → Option Wanted → Query SiteFault Included
  wanted p vars ps (Some w) = Ask w.key (λ v. included_text p vars w.file ps v)
  wanted p vars ps None = fails p IncludeMissing

  abbrev pub include : Place → Pairs → IncludeTag → Query SiteFault Included
  include p vars i = bind (name_text excerpts p vars i.file) (λ name. wanted p vars i.params (if_path (included_file name)))

  abbrev pub include_relative : Place → Pairs → IncludeTag → Query SiteFault Included
  include_relative p vars i = bind (name_text excerpts p vars i.file) (λ name. wanted p vars i.params (if_path (relative_file p.page.path name)))
