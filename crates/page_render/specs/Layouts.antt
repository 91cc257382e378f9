-- The layouts around an item's text, from the innermost to the outermost. After Jekyll 4's manual, "Layouts".
use Rattle.std.specs.Prelude.{ℕ, zero, suc, Bool, List, [], ◌∷◌, ◌++◌, codes, is_none, Option, Some, None, if◌then◌else◌}
use Rattle.std.specs.List.{list_any}
use Rattle.std.specs.Str.{bytes_eq}
use Rattle.site_base.specs.Path.{path_refusal}
use Rattle.site_base.specs.Plain.{Plain, nil, text, hash, Pairs, no_pairs, pair, get, set}
use Rattle.site_base.specs.declared.faults.FaultKind.TheVariants.{Nesting}
use Rattle.site_base.specs.declared.faults.SiteFault.{SiteFault}
use Rattle.site_base.specs.declared.item_name.ItemName.{ItemName}
use Rattle.liquid_eval.specs.Excerpts.{text_or_empty}
use Rattle.liquid_eval.specs.Texts.{text_evaluation}
use Rattle.liquid_values.specs.Places.{at_start, of_layout, site_fault}
use Rattle.page_render.specs.declared.around.Around.{Around}
use Rattle.page_render.specs.declared.layout.Layout.{Layout}
use Rattle.read_record.specs.Queries.{Query, Give, Fail, Ask, bind}
use Rattle.read_record.specs.declared.key.Key.TheVariants.{Var}
use Rattle.read_record.specs.declared.key.Key.TheVariants as key

-- ---- one layout

abbrev pub or_nil : Option Plain → Plain
or_nil (Some v) = v
or_nil None = nil

abbrev pub member : List ℕ → Pairs → Plain
member name ps = or_nil (get name ps)

abbrev pub pairs_of : Plain → Pairs
pairs_of (hash ps) = ps
pairs_of v = no_pairs

abbrev pub layout_at : List ℕ → Pairs → Option Layout
layout_at path ps =
    if is_none (path_refusal path) then Some (record { path = path; variables = pairs_of (member (codes "vars") ps); body = text_or_empty (member (codes "body") ps) }) else None

-- what a look-up of a layout gives: the path of its file, its variables, and its text
abbrev pub layout_of : Plain → Option Layout
layout_of (hash ps) = layout_at (text_or_empty (member (codes "path") ps)) ps
layout_of v = None

-- ---- around a text

-- these pairs over others: each takes the place of the one with its key, or stands behind them
abbrev pub over : Pairs → Pairs → Pairs
over no_pairs under = under
over (pair k v ps) under = over ps (set k v under)

abbrev pub is_used : List ℕ → List (List ℕ) → Bool
is_used name used = list_any (bytes_eq name) used

-- the name of a layout that was not used
abbrev pub unused : List (List ℕ) → Plain → Option (List ℕ)
unused used (text name) = if is_used name used then None else Some name
unused used v = None

-- a text before its first layout
abbrev pub bare : List ℕ → Plain → Around
bare own v = record { text = own; used = []; variables = no_pairs; next = unused [] v }

-- the text that a layout made, and which layout comes next
abbrev pub once_around : Around → List ℕ → Layout → List ℕ → Around
once_around a name l made =
    let used = a.used ++ name ∷ [] in
    record { text = made; used = used; variables = over a.variables l.variables; next = unused used (member (codes "layout") l.variables) }

-- no layout is around
abbrev pub ended : Around → Around
ended a = record { text = a.text; used = a.used; variables = a.variables; next = None }

module _ (n : ItemName) (own : List ℕ) where
  abbrev pub in_found : Around → List ℕ → Option Layout → Query SiteFault Around
  in_found a name None = Give (ended a)
  in_found a name (Some l) =
      bind (text_evaluation (at_start l.path n (of_layout own a.text (hash (over a.variables l.variables)))) l.body) (λ made. Give (once_around a name l made))

  -- the text in the layout of this name, where there is one
  abbrev pub in_layout : Around → List ℕ → Query SiteFault Around
  in_layout a name = Ask (key.Layout name) (λ v. in_found a name (layout_of v))

  abbrev pub in_next : (Around → Query SiteFault (List ℕ)) → Around → Option (List ℕ) → Query SiteFault (List ℕ)
  in_next more a None = Give a.text
  in_next more a (Some name) = bind (in_layout a name) more

  -- the text in layout after layout, of which there are no more than so many
  unfoldable pub in_layouts : ℕ → Around → Query SiteFault (List ℕ)
  in_layouts zero a = Fail (site_fault n.path 0 Nesting)
  in_layouts (suc left) a = in_next (in_layouts left) a a.next

-- no site has as many layouts, since each is a file and none is used twice
abbrev pub most_layouts : ℕ
most_layouts = 50001

-- an item's own text in the layouts that its variable names
abbrev pub laid_out : ItemName → List ℕ → Query SiteFault (List ℕ)
laid_out n own = Ask (Var n (codes "layout")) (λ v. in_layouts n own most_layouts (bare own v))
