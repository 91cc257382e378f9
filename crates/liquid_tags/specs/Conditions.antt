-- Conditions. After the reference of Liquid 4 (Shopify), "Operators" and "Truthy and falsy"; docs/PROFILE.md says where unlike values are a fault.
use Rattle.std.specs.Prelude.{ℕ, ◌==◌, Bool, true, false, not, ◌&&◌, ◌||◌, List, [], ◌∷◌, length, if◌then◌else◌, Option, Some, None, Result, Ok, Err, is_some}
use Rattle.std.specs.List.{list_all, list_any}
use Rattle.std.specs.declared.cmp.Ordering.{Ordering}
use Rattle.std.specs.Ordering.{is_lt, is_gt, is_le, is_ge}
use Rattle.site_base.specs.Plain.{Plain, nil, bool, int, text, list, hash, site_item, range, Items, item_list, count, Pairs, count_pairs, get}
use Rattle.site_base.specs.Values.{value_text, is_true, order}
use Rattle.site_base.specs.declared.faults.FaultKind.{FaultKind}
use Rattle.site_base.specs.declared.faults.FaultKind.TheVariants.{Unlike}
use Rattle.site_base.specs.declared.faults.SiteFault.{SiteFault}
use Rattle.read_record.specs.Queries.{Query, Give, bind}
use Rattle.filter_base.specs.White.{is_white}
use Rattle.filter_base.specs.Lists.{is_blank}
use Rattle.list_filters.specs.Choosing.{same_value}
use Rattle.liquid_grammar.specs.declared.condition.Condition.{Condition}
use Rattle.liquid_grammar.specs.declared.condition.Joined.{Joined}
use Rattle.liquid_grammar.specs.declared.condition.Test.{Test}
use Rattle.liquid_grammar.specs.declared.condition.Test.TheVariants.{Holds, Compares}
use Rattle.liquid_grammar.specs.declared.literal.Literal.{Literal}
use Rattle.liquid_grammar.specs.declared.literal.Literal.TheVariants as literals
use Rattle.liquid_grammar.specs.declared.mark.Comparison.{Comparison}
use Rattle.liquid_grammar.specs.declared.mark.Comparison.TheVariants.{Equal, Unequal, Less, Greater, AtMost, AtLeast, Contains}
use Rattle.liquid_grammar.specs.declared.mark.Joint.{Joint}
use Rattle.liquid_grammar.specs.declared.mark.Joint.TheVariants.{And, Or}
use Rattle.liquid_grammar.specs.declared.step.Step.{Step}
use Rattle.liquid_grammar.specs.declared.step.Step.TheVariants as steps
use Rattle.liquid_grammar.specs.Operands as operands
use Rattle.liquid_grammar.specs.Pieces.{begins}
use Rattle.liquid_tags.specs.declared.conditions.Right.{Right}
use Rattle.liquid_tags.specs.declared.conditions.Right.TheVariants as right
use Rattle.liquid_values.specs.Places.{Place, found_at}
use Rattle.liquid_values.specs.Names.{Excerpting}
use Rattle.liquid_values.specs.Operands.{operand}

-- ---- `empty` and `blank` on the right of `==`, `!=` and `<>`

abbrev pub is_empty : Plain → Bool
is_empty (text t) = length t == 0
is_empty (list is) = count is == 0
is_empty (hash ps) = count_pairs ps == 0
is_empty v = false

abbrev pub is_white_text : Plain → Bool
is_white_text (text t) = list_all is_white t
is_white_text v = false

-- what a comparison has on its right
abbrev pub literal_right : Literal → Right
literal_right literals.Empty = right.Empty
literal_right literals.Blank = right.Blank
literal_right _ = right.Value

abbrev pub right_of : operands.Operand → Right
right_of (operands.literal l) = literal_right l
right_of _ = right.Value

-- the same, by the only step of an operand
abbrev pub step_right : Step → Right
step_right (steps.Literal l) = literal_right l
step_right _ = right.Value

abbrev pub equals_right : Right → Plain → Plain → Bool
equals_right right.Empty v w = is_empty v
equals_right right.Blank v w = is_blank v || is_white_text v
equals_right right.Value v w = same_value v w

-- ---- Order

abbrev pub is_nil : Plain → Bool
is_nil nil = true
is_nil v = false

-- whether an order is one that the comparison is for
abbrev pub is_for : Comparison → Ordering → Bool
is_for Less o = is_lt o
is_for Greater o = is_gt o
is_for AtMost o = is_le o
is_for AtLeast o = is_ge o
is_for _ o = false

abbrev pub in_order : Comparison → Option Ordering → Result Bool FaultKind
in_order how (Some o) = Ok (is_for how o)
in_order how None = Err Unlike

-- nil has no order with anything
abbrev pub ordered : Comparison → Plain → Plain → Result Bool FaultKind
ordered how v w = if is_nil v || is_nil w then Ok false else in_order how (order v w)

-- ---- `contains`

-- a text stands somewhere in another
abbrev pub stands_in : List ℕ → List ℕ → Bool
stands_in t [] = begins t []
stands_in t (c ∷ cs) = begins t (c ∷ cs) || stands_in t cs

abbrev pub is_element : Plain → Items → Bool
is_element w is = list_any (same_value w) (item_list is)

abbrev pub holds : Plain → Plain → Bool
holds (text t) w = stands_in (value_text w) t
holds (list is) w = is_element w is
holds (hash ps) w = is_some (get (value_text w) ps)
holds v w = false

abbrev pub contains : Plain → Plain → Bool
contains v w = is_true v && is_true w && holds v w

-- ---- Tests

abbrev pub compare : Comparison → Right → Plain → Plain → Result Bool FaultKind
compare Equal r v w = Ok (equals_right r v w)
compare Unequal r v w = Ok (not (equals_right r v w))
compare Less r v w = ordered Less v w
compare Greater r v w = ordered Greater v w
compare AtMost r v w = ordered AtMost v w
compare AtLeast r v w = ordered AtLeast v w
compare Contains r v w = Ok (contains v w)

-- `and` is decided by what does not hold, `or` by what holds
abbrev pub decides : Joint → Bool → Bool
decides And b = not b
decides Or b = b

module _ (excerpts : Excerpting) where
  -- a value is compared with that of an operand
  abbrev pub compared_with : Place → Pairs → Plain → Comparison → operands.Operand → Query SiteFault Bool
  compared_with p vars v how b = bind (operand excerpts p vars b) (λ w. found_at p (compare how (right_of b) v w))

  abbrev pub test : Place → Pairs → Test → Query SiteFault Bool
  test p vars (Holds e) = bind (operand excerpts p vars e) (λ v. Give (is_true v))
  test p vars (Compares a how b) = bind (operand excerpts p vars a) (λ v. compared_with p vars v how b)

  -- a test, and what is joined to it: read from the right, and no further than needed
  abbrev pub tests : Place → Pairs → Test → List Joined → Query SiteFault Bool
  tests p vars t [] = test p vars t
  tests p vars t (j ∷ js) = bind (test p vars t) (λ b. elim (decides j.joint b) [ true ↦ Give b | false ↦ tests p vars j.test js ])

  abbrev pub condition : Place → Pairs → Condition → Query SiteFault Bool
  condition p vars c = tests p vars c.first c.rest
