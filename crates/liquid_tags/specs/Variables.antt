-- The tags that print or set something and hold no other nodes: outputs, `assign`, `increment`, `decrement`, `cycle`. After the reference of Liquid 4 (Shopify), "Tags", "Variable" and "Iteration".
use Rattle.std.specs.Prelude.{ℕ, suc, pos, negsuc, ℤ, ◌+ℤ◌, ◌-ℤ◌, List, [], ◌∷◌, length, slice_get, Option, Some, None}
use Rattle.site_base.specs.Decimal.{signed}
use Rattle.site_base.specs.Plain.{Plain, int, Pairs, get, set}
use Rattle.site_base.specs.Values.{value_text}
use Rattle.site_base.specs.declared.faults.SiteFault.{SiteFault}
use Rattle.read_record.specs.Queries.{Query, Give, bind}
use Rattle.filter_base.specs.Numerals.{fitting}
use Rattle.liquid_grammar.specs.declared.expression.Expr.{Expr}
use Rattle.liquid_grammar.specs.declared.tag.Assign.{Assign}
use Rattle.liquid_grammar.specs.declared.tag.Cycle.{Cycle}
use Rattle.liquid_grammar.specs.Operands as operands
use Rattle.liquid_values.specs.Places.{Place, found_at}
use Rattle.liquid_values.specs.LoopValues.{column_of}
use Rattle.liquid_values.specs.Members.{count_value}
use Rattle.liquid_values.specs.Names.{Excerpting}
use Rattle.liquid_values.specs.Operands.{operand}
use Rattle.liquid_tags.specs.declared.state.State.{State}
use Rattle.liquid_tags.specs.States.{assign, with_counters, with_turns, written}
use Rattle.liquid_tags.specs.Expressions.{expression}

-- the number that is kept, or 0 where none is
abbrev pub number_or_zero : Option Plain → ℤ
number_or_zero (Some (int n)) = n
number_or_zero _ = pos 0

-- ---- Counters, which are no variables

abbrev pub counter : List ℕ → State → ℤ
counter x s = number_or_zero (get x s.counters)

abbrev pub counted : List ℕ → ℤ → State → State
counted x n s = with_counters (set x (int n) s.counters) s

abbrev pub count : Place → List ℕ → ℤ → State → Query SiteFault State
count p x z s = bind (found_at p (fitting z)) (λ n. Give (counted x n s))

-- prints, and then adds 1
abbrev pub increment : Place → List ℕ → State → Query SiteFault State
increment p x s = bind (written p (signed (counter x s)) s) (λ t. count p x (counter x s +ℤ pos 1) t)

-- subtracts 1, and then prints
abbrev pub decrement : Place → List ℕ → State → Query SiteFault State
decrement p x s = bind (found_at p (fitting (counter x s -ℤ pos 1))) (λ n. written p (signed n) (counted x n s))

-- ---- Cycles

abbrev pub place_or_zero : ℤ → ℕ
place_or_zero (pos n) = n
place_or_zero (negsuc n) = 0

-- the place of the group's next value among so many
abbrev pub turn : List ℕ → ℕ → State → ℕ
turn group count s = column_of count (place_or_zero (number_or_zero (get group s.turns)))

abbrev pub turned : List ℕ → ℕ → State → State
turned group n s = with_turns (set group (count_value n) s.turns) s

module _ (excerpts : Excerpting) where
  abbrev pub output : Place → Expr → State → Query SiteFault State
  output p e s = bind (expression excerpts p s.assigned e) (λ v. written p (value_text v) s)

  abbrev pub assigned : Place → Assign → State → Query SiteFault State
  assigned p a s = bind (expression excerpts p s.assigned a.value) (λ v. Give (assign a.name v s))

  abbrev pub operand_text : Place → Pairs → operands.Operand → Query SiteFault (List ℕ)
  operand_text p vars e = bind (operand excerpts p vars e) (λ v. Give (value_text v))

  -- what names the group: the text of its operand, or what stands in the tag
  abbrev pub group_name : Place → Pairs → Option operands.Operand → List ℕ → Query SiteFault (List ℕ)
  group_name p vars (Some e) tag = operand_text p vars e
  group_name p vars None tag = Give tag

  abbrev pub print_one : Place → operands.Operand → State → Query SiteFault State
  print_one p e s = bind (operand excerpts p s.assigned e) (λ v. written p (value_text v) s)

  abbrev pub printed : Place → Option operands.Operand → State → Query SiteFault State
  printed p (Some e) s = print_one p e s
  printed p None s = Give s

  abbrev pub print_at : Place → List operands.Operand → List ℕ → ℕ → State → Query SiteFault State
  print_at p es group at s = bind (printed p (slice_get es at) s) (λ t. Give (turned group (suc at) t))

  -- the next value of the group, which alone is evaluated
  abbrev pub next_of : Place → List operands.Operand → List ℕ → State → Query SiteFault State
  next_of p es group s = print_at p es group (turn group (length es) s) s

  abbrev pub cycle : Place → List ℕ → Cycle → State → Query SiteFault State
  cycle p tag c s = bind (group_name p s.assigned c.group tag) (λ group. next_of p c.values group s)
