-- Whole texts of a site: read as templates and evaluated, and converted where their item is Markdown. After Jekyll 4's manual, "Rendering process".
use Rattle.std.specs.Prelude.{ℕ, List, Result, Ok, Err}
use Rattle.site_base.specs.declared.faults.SiteFault.{SiteFault}
use Rattle.site_base.specs.declared.item_name.ItemName.{ItemName}
use Rattle.liquid_grammar.specs.Trees.{Tree, Fault, tree}
use Rattle.liquid_values.specs.Places.{Place, at_start, of_body, site_fault}
use Rattle.read_record.specs.Queries.{Query, Give, Fail, bind}
use Rattle.liquid_eval.specs.Excerpts.{converted, text_or_empty}
use Rattle.liquid_eval.specs.Nodes.{evaluation}

abbrev pub parsed_evaluation : Place → Result Tree Fault → Query SiteFault (List ℕ)
parsed_evaluation p (Ok t) = evaluation p t
parsed_evaluation p (Err f) = Fail (site_fault p.file f.line f.kind)

-- what a text comes to that stands in a file; the first fault of its syntax comes before all others
abbrev pub text_evaluation : Place → List ℕ → Query SiteFault (List ℕ)
text_evaluation p t = parsed_evaluation p (tree t)

-- the HTML of an item's text, where the item is Markdown; where it is longer than a text may be, the fault is the item's
abbrev pub conversion : ItemName → List ℕ → Query SiteFault (List ℕ)
conversion n t = bind (converted (at_start n.path n of_body) n t) (λ v. Give (text_or_empty v))
