-- Conditions, after the reference of Liquid 4 (Shopify), "Operators"; and the parameters of tags, after Jekyll 4's manual, "Includes".
use Rattle.std.specs.Prelude.{ℕ, ◌+◌, Bool, true, false, List, ◌∷◌, drop, codes, if◌then◌else◌, Option, Some, None, Result}
use Rattle.std.specs.Str.{bytes_eq}
use Rattle.liquid_grammar.specs.declared.mark.Comparison.{Comparison}
use Rattle.liquid_grammar.specs.declared.mark.Comparison.TheVariants.{Contains}
use Rattle.liquid_grammar.specs.declared.mark.Joint.{Joint}
use Rattle.liquid_grammar.specs.declared.mark.Joint.TheVariants.{And, Or}
use Rattle.liquid_grammar.specs.declared.mark.Mark.TheVariants.{Assign, Compare}
use Rattle.liquid_grammar.specs.declared.condition.Test.{Test}
use Rattle.liquid_grammar.specs.declared.condition.Test.TheVariants.{Holds, Compares}
use Rattle.liquid_grammar.specs.declared.condition.Joined.{Joined}
use Rattle.liquid_grammar.specs.declared.condition.Condition.{Condition}
use Rattle.liquid_grammar.specs.declared.expression.Parameter.{Parameter}
use Rattle.liquid_grammar.specs.Operands.{Operand}
use Rattle.liquid_grammar.specs.Tokens.{Token, word, mark}
use Rattle.liquid_grammar.specs.Readings.{Reading, ◌>>=◌, after, More, stop, more_of, many, Refusal, reads}
use Rattle.liquid_grammar.specs.Expressions.{operand, expression, word_at}

-- the comparison at the front
abbrev pub comparison : List Token → Option Comparison
comparison (mark (Compare how) ∷ rest) = Some how
comparison (word name ∷ rest) = if bytes_eq name (codes "contains") then Some Contains else None
comparison _ = None

abbrev pub compared : Operand → Option Comparison → List Token → Reading Test
compared a None ts = Some (Holds a, 0)
compared a (Some how) ts = operand (drop 1 ts) >>= λ b. Some (Compares a how b.0, 1 + b.1)

-- an operand, or two that are compared
unfoldable pub test_at : List Token → Reading Test
test_at ts = operand ts >>= λ a. after a.1 (compared a.0 (comparison (drop a.1 ts)) (drop a.1 ts))

abbrev pub joint_of : List ℕ → Option Joint
joint_of name = if bytes_eq name (codes "and") then Some And else if bytes_eq name (codes "or") then Some Or else None

abbrev pub joint : List Token → Option Joint
joint (word name ∷ rest) = joint_of name
joint _ = None

abbrev pub joined_test : Option Joint → List Token → More Joined
joined_test None ts = stop
joined_test (Some how) ts = more_of (test_at (drop 1 ts) >>= λ t. Some (record { joint = how; test = t.0 }, 1 + t.1))

abbrev pub next_test : List Token → More Joined
next_test ts = joined_test (joint ts) ts

-- a test, and those that are joined to it
unfoldable pub condition : List Token → Reading Condition
condition ts = test_at ts >>= λ t. many next_test (drop t.1 ts) >>= λ js. Some (record { first = t.0; rest = js.0 }, t.1 + js.1)

-- a condition as a whole text
abbrev pub read_condition : List ℕ → Result Condition Refusal
read_condition bytes = reads condition bytes

-- ---- Parameters

abbrev pub is_assign : List Token → Bool
is_assign (mark Assign ∷ rest) = true
is_assign _ = false

abbrev pub assigned : Option (List ℕ) → List Token → More Parameter
assigned (Some name) ts = if is_assign ts then more_of (expression (drop 1 ts) >>= λ e. Some (record { name = name; value = e.0 }, 2 + e.1)) else stop
assigned None ts = stop

abbrev pub next_parameter : List Token → More Parameter
next_parameter ts = assigned (word_at ts) (drop 1 ts)

-- parameters, each `name=expression`, as a whole text
abbrev pub read_parameters : List ℕ → Result (List Parameter) Refusal
read_parameters bytes = reads (many next_parameter) bytes
