-- Expressions: an operand, and the filters that its value goes through. After the reference of Liquid 4 (Shopify), "Introduction", "Filters", and Jekyll 4's manual, "Liquid Filters".
use Rattle.std.specs.Prelude.{ℕ, Bool, true, false, List, [], ◌∷◌, ◌++◌, codes, if◌then◌else◌, Option, Some, None}
use Rattle.std.specs.Option.{option_or}
use Rattle.std.specs.Str.{bytes_eq}
use Rattle.site_base.specs.Plain.{Plain, Pairs}
use Rattle.site_base.specs.declared.faults.SiteFault.{SiteFault}
use Rattle.read_record.specs.Queries.{Query, Give, bind}
use Rattle.filter_base.specs.Answers.{Meaning, limited}
use Rattle.liquid_filters.specs.Table.{filter_named}
use Rattle.jekyll_filters.specs.Table as jekyll
use Rattle.liquid_grammar.specs.declared.expression.Expr.{Expr}
use Rattle.liquid_grammar.specs.declared.expression.Filter.{Filter}
use Rattle.liquid_grammar.specs.Operands as operands
use Rattle.liquid_values.specs.Places.{Place, placed, untested}
use Rattle.liquid_values.specs.Names.{Excerpting}
use Rattle.liquid_values.specs.Operands.{operand}
use Rattle.liquid_values.specs.StrictOptions.{unknown_filter}

-- Jekyll's filters are asked first
abbrev pub meaning_named : List ℕ → Option Meaning
meaning_named name = option_or (jekyll.filter_named name) (filter_named name)

-- the filter `default` is there for a value that is undefined
abbrev pub has_default : List Filter → Bool
has_default [] = false
has_default (f ∷ fs) = bytes_eq f.name (codes "default")

-- where an input stands, which may be undefined or not
abbrev pub input_place : Bool → Place → Place
input_place may_be_undefined p = if may_be_undefined then untested p else p

module _ (excerpts : Excerpting) where
  -- the values of several, from left to right, behind these
  abbrev pub values_behind : Place → Pairs → List Plain → List operands.Operand → Query SiteFault (List Plain)
  values_behind p vars made [] = Give made
  values_behind p vars made (e ∷ es) = bind (operand excerpts p vars e) (λ v. values_behind p vars (made ++ v ∷ []) es)

  -- the arguments of an unknown filter are not evaluated
  abbrev pub filtered_by : Place → Pairs → Option Meaning → Filter → Plain → Query SiteFault Plain
  filtered_by p vars (Some meaning) f v = bind (values_behind p vars [] f.arguments) (λ ws. placed p (limited (meaning v ws)))
  filtered_by p vars None f v = unknown_filter p v

  abbrev pub filtered : Place → Pairs → List Filter → Plain → Query SiteFault Plain
  filtered p vars [] v = Give v
  filtered p vars (f ∷ fs) v = bind (filtered_by p vars (meaning_named f.name) f v) (λ w. filtered p vars fs w)

  -- an expression whose input may be undefined or not
  abbrev pub valued : Bool → Place → Pairs → Expr → Query SiteFault Plain
  valued may_be_undefined p vars e = bind (operand excerpts (input_place may_be_undefined p) vars e.operand) (λ v. filtered p vars e.filters v)

  abbrev pub expression : Place → Pairs → Expr → Query SiteFault Plain
  expression p vars e = valued (has_default e.filters) p vars e

  -- what a `case` compares
  abbrev pub case_value : Place → Pairs → Expr → Query SiteFault Plain
  case_value p vars e = valued true p vars e
