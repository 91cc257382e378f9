-- The blocks that choose one of their parts: `if`, `unless`, `case`. After the reference of Liquid 4 (Shopify), "Tags", "Control flow".
use Rattle.std.specs.Prelude.{ℕ, Bool, true, false, not, List, [], ◌∷◌, Option, Some, None}
use Rattle.site_base.specs.Plain.{Plain, Pairs}
use Rattle.site_base.specs.declared.faults.SiteFault.{SiteFault}
use Rattle.read_record.specs.Queries.{Query, Give, bind}
use Rattle.liquid_grammar.specs.declared.condition.Condition.{Condition}
use Rattle.liquid_grammar.specs.declared.expression.Expr.{Expr}
use Rattle.liquid_grammar.specs.declared.item.Block.{Block}
use Rattle.liquid_grammar.specs.declared.item.Block.TheVariants as blocks
use Rattle.liquid_grammar.specs.declared.item.Part.{Part}
use Rattle.liquid_grammar.specs.declared.item.Part.TheVariants.{Body, Test, When, Otherwise}
use Rattle.liquid_grammar.specs.Operands as operands
use Rattle.liquid_grammar.specs.Trees.{Tree, done, leaf, block, part}
use Rattle.liquid_values.specs.Places.{Place, at_line, untested}
use Rattle.liquid_values.specs.Operands.{operand}
use Rattle.list_filters.specs.Choosing.{same_value}
use Rattle.liquid_tags.specs.Conditions.{condition}
use Rattle.liquid_values.specs.Names.{Excerpting}
use Rattle.liquid_tags.specs.Expressions.{case_value}

-- a part is taken by a test, whose fault is in the part's line
abbrev pub Choice : Type 0
Choice = Place → Part → Query SiteFault Bool

-- the body of the first part that is taken
abbrev pub chosen : Choice → Place → Tree → Query SiteFault (Option Tree)
chosen takes p done = Give None
chosen takes p (leaf line l rest) = chosen takes p rest
chosen takes p (block line b parts rest) = chosen takes p rest
chosen takes p (part line head body rest) = bind (takes (at_line line p) head) (λ b. elim b [ true ↦ Give (Some body) | false ↦ chosen takes p rest ])

module _ (excerpts : Excerpting) where
  -- ---- `if` and `unless`

  abbrev pub takes_test : Pairs → Choice
  takes_test vars p (Test c) = condition excerpts p vars c
  takes_test vars p Otherwise = Give true
  takes_test vars p Body = Give false
  takes_test vars p (When es) = Give false

  abbrev pub if_part : Place → Pairs → Tree → Query SiteFault (Option Tree)
  if_part p vars parts = chosen (takes_test vars) p parts

  abbrev pub fails_test : Pairs → Choice
  fails_test vars p (Test c) = bind (condition excerpts p vars c) (λ b. Give (not b))
  fails_test vars p Otherwise = Give true
  fails_test vars p Body = Give false
  fails_test vars p (When es) = Give false

  -- the first part is taken where its test fails; all others are those of an `if`
  abbrev pub unless_part : Place → Pairs → Tree → Query SiteFault (Option Tree)
  unless_part p vars done = Give None
  unless_part p vars (leaf line l rest) = if_part p vars rest
  unless_part p vars (block line b parts rest) = if_part p vars rest
  unless_part p vars (part line head body rest) = bind (fails_test vars (at_line line p) head) (λ b. elim b [ true ↦ Give (Some body) | false ↦ if_part p vars rest ])

  -- ---- `case`

  -- the value is that of one of these, of which no more are evaluated than needed
  abbrev pub equals_one : Place → Pairs → Plain → List operands.Operand → Query SiteFault Bool
  equals_one p vars v [] = Give false
  equals_one p vars v (e ∷ es) = bind (operand excerpts p vars e) (λ w. elim (same_value v w) [ true ↦ Give true | false ↦ equals_one p vars v es ])

  abbrev pub takes_value : Pairs → Plain → Choice
  takes_value vars v p (When es) = equals_one p vars v es
  takes_value vars v p Otherwise = Give true
  takes_value vars v p Body = Give false
  takes_value vars v p (Test c) = Give false

  abbrev pub case_part : Place → Pairs → Expr → Tree → Query SiteFault (Option Tree)
  case_part p vars e parts = bind (case_value excerpts p vars e) (λ v. chosen (takes_value vars v) (untested p) parts)

  -- what `if`, `unless` and `case` take of their parts, of which no operand is tested
  abbrev pub branch : Place → Pairs → Block → Tree → Query SiteFault (Option Tree)
  branch p vars blocks.If parts = if_part (untested p) vars parts
  branch p vars blocks.Unless parts = unless_part (untested p) vars parts
  branch p vars (blocks.Case e) parts = case_part p vars e parts
  branch p vars (blocks.For l) parts = Give None
  branch p vars (blocks.TableRow l) parts = Give None
  branch p vars (blocks.Capture x) parts = Give None
  branch p vars (blocks.Highlight x) parts = Give None
