-- The names that tags are given: texts with outputs in them. After Jekyll 4's manual, "Includes".
use Rattle.std.specs.Prelude.{ℕ, List, [], ◌∷◌, ◌++◌}
use Rattle.site_base.specs.Plain.{Pairs}
use Rattle.site_base.specs.Values.{value_text}
use Rattle.site_base.specs.declared.faults.SiteFault.{SiteFault}
use Rattle.read_record.specs.Queries.{Query, Give, bind}
use Rattle.liquid_grammar.specs.declared.expression.Expr.{Expr}
use Rattle.liquid_grammar.specs.declared.tag.NamePart.{NamePart}
use Rattle.liquid_grammar.specs.declared.tag.NamePart.TheVariants as name_part
use Rattle.liquid_values.specs.Places.{Place}
use Rattle.liquid_values.specs.Names.{Excerpting}
use Rattle.liquid_tags.specs.Expressions.{expression}

module _ (excerpts : Excerpting) where
  abbrev pub expression_text : Place → Pairs → Expr → Query SiteFault (List ℕ)
  expression_text p vars e = bind (expression excerpts p vars e) (λ v. Give (value_text v))

  abbrev pub part_text : Place → Pairs → NamePart → Query SiteFault (List ℕ)
  part_text p vars (name_part.Text t) = Give t
  part_text p vars (name_part.Output e) = expression_text p vars e

  -- the parts of a name, from left to right, behind this text
  abbrev pub name_behind : Place → Pairs → List ℕ → List NamePart → Query SiteFault (List ℕ)
  name_behind p vars made [] = Give made
  name_behind p vars made (q ∷ qs) = bind (part_text p vars q) (λ t. name_behind p vars (made ++ t) qs)

  abbrev pub name_text : Place → Pairs → List NamePart → Query SiteFault (List ℕ)
  name_text p vars qs = name_behind p vars [] qs
