-- Worked rows of expressions, conditions and parameters.
use Rattle.std.proofs.Common.{◌≡◌, ℕ, zero, suc, List, [], ◌∷◌, ◌++◌, codes, refl, Ok, Err, Some, None, pos, negsuc}
use Rattle.liquid_grammar.specs.declared.literal.Literal.TheVariants as literals
use Rattle.liquid_grammar.specs.declared.mark.Comparison.TheVariants as comparison
use Rattle.liquid_grammar.specs.declared.mark.Mark.TheVariants.{To, Compare}
use Rattle.liquid_grammar.specs.declared.mark.Joint.TheVariants.{And, Or}
use Rattle.liquid_grammar.specs.Tokens.{word, text, whole, large, mark, tokens, tokens_after}
use Rattle.liquid_grammar.specs.Readings.{many_after, syntax_fault, overflow}
use Rattle.liquid_grammar.specs.declared.expression.Filter.{Filter}
use Rattle.liquid_grammar.specs.declared.expression.Expr.{Expr}
use Rattle.liquid_grammar.specs.declared.condition.Test.TheVariants.{Holds, Compares}
use Rattle.liquid_grammar.specs.Operands.{Operand, literal, range, variable, member, index}
use Rattle.liquid_grammar.specs.Expressions.{filter_of, operand_in, operand, expression, read_expression}
use Rattle.liquid_grammar.specs.Conditions.{test_at, condition, read_condition, read_parameters}

abbrev plain : Operand → List Filter → Expr
plain e fs = record { operand = e; filters = fs }

abbrev v : List ℕ → Operand
v name = variable name

abbrev int : ℕ → Operand
int n = literal (literals.Int (pos n))

a_word : tokens (codes " a-1 .. \"x'\" 1.50 1..-2 99999999999999999999 <> ") ≡ Some (word (codes "a-1") ∷ mark To ∷ text (codes "x'") ∷ text (codes "1.50") ∷ whole (pos 1) ∷ mark To ∷ whole (negsuc 1) ∷ large ∷ mark (Compare comparison.Unequal) ∷ [])
unfolding tokens_after
a_word = refl

no_token : tokens (codes "a - b") ≡ None
unfolding tokens_after
no_token = refl

ends_of_i64 : tokens (codes "9223372036854775807 9223372036854775808 -9223372036854775808 -9223372036854775809") ≡ Some (whole (pos 9223372036854775807) ∷ large ∷ whole (negsuc 9223372036854775807) ∷ large ∷ [])
unfolding tokens_after
ends_of_i64 = refl

path : read_expression (codes "a.b[\"c\"][d.e] . nil") ≡ Ok (plain (member (index (index (member (v (codes "a")) (codes "b")) (literal (literals.Text (codes "c")))) (member (v (codes "d")) (codes "e"))) (codes "nil")) [])
unfolding tokens_after many_after operand operand_in expression
path = refl

filters : read_expression (codes "x|f|g:1 , -2| h: 'y' ") ≡ Ok (plain (v (codes "x")) (filter_of (codes "f") [] ∷ filter_of (codes "g") (int 1 ∷ literal (literals.Int (negsuc 1)) ∷ []) ∷ filter_of (codes "h") (literal (literals.Text (codes "y")) ∷ []) ∷ []))
unfolding tokens_after many_after operand operand_in expression
filters = refl

ranges : read_expression (codes "((1..a.b)..2.5)") ≡ Ok (plain (range (range (int 1) (member (v (codes "a")) (codes "b"))) (literal (literals.Text (codes "2.5")))) [])
unfolding tokens_after many_after operand operand_in expression
ranges = refl

no_filter : read_expression (codes "a |") ≡ Err syntax_fault
unfolding tokens_after many_after operand operand_in expression
no_filter = refl

no_expression : read_expression (codes " ") ≡ Err syntax_fault
unfolding tokens_after many_after operand operand_in expression
no_expression = refl

no_variable : read_expression (codes "contains") ≡ Err syntax_fault
unfolding tokens_after many_after operand operand_in expression
no_variable = refl

literal_member : read_expression (codes "'a'.size") ≡ Err syntax_fault
unfolding tokens_after many_after operand operand_in expression
literal_member = refl

too_large : read_expression (codes "x | plus: 9223372036854775808") ≡ Err overflow
unfolding tokens_after many_after operand operand_in expression
too_large = refl

too_large_and_no_reading : read_expression (codes "9223372036854775808 |") ≡ Err syntax_fault
unfolding tokens_after many_after operand operand_in expression
too_large_and_no_reading = refl

-- the text before, this many times, the one in the middle, and the text after as often
abbrev nested : ℕ → List ℕ → List ℕ → List ℕ → List ℕ
nested zero before middle behind = middle
nested (suc n) before middle behind = before ++ (nested n before middle behind ++ behind)

abbrev nested_operand : ℕ → Operand
nested_operand zero = int 1
nested_operand (suc n) = index (v (codes "a")) (nested_operand n)

hundred_brackets : read_expression (nested 100 (codes "a[") (codes "1") (codes "]")) ≡ Ok (plain (nested_operand 100) [])
unfolding tokens_after many_after operand operand_in expression
hundred_brackets = refl

one_bracket_more : read_expression (nested 101 (codes "a[") (codes "1") (codes "]")) ≡ Err syntax_fault
unfolding tokens_after many_after operand operand_in expression
one_bracket_more = refl

three_tests : read_condition (codes "a and b<>1 or c contains \"d\"") ≡ Ok (record {
  first = Holds (v (codes "a"));
  rest = record { joint = And; test = Compares (v (codes "b")) comparison.Unequal (int 1) } ∷ record { joint = Or; test = Compares (v (codes "c")) comparison.Contains (literal (literals.Text (codes "d"))) } ∷ [];
})
unfolding tokens_after many_after operand operand_in test_at condition
three_tests = refl

no_right_side : read_condition (codes "a ==") ≡ Err syntax_fault
unfolding tokens_after many_after operand operand_in test_at condition
no_right_side = refl

filtered_condition : read_condition (codes "a | size") ≡ Err syntax_fault
unfolding tokens_after many_after operand operand_in test_at condition
filtered_condition = refl

no_joined : read_condition (codes "a and") ≡ Err syntax_fault
unfolding tokens_after many_after operand operand_in test_at condition
no_joined = refl

parameters : read_parameters (codes "a=b | f and-so='x'") ≡ Ok (record { name = codes "a"; value = plain (v (codes "b")) (filter_of (codes "f") [] ∷ []) } ∷ record { name = codes "and-so"; value = plain (literal (literals.Text (codes "x"))) [] } ∷ [])
unfolding tokens_after many_after operand operand_in expression
parameters = refl

no_parameters : read_parameters (codes " ") ≡ Ok []
unfolding tokens_after many_after operand operand_in expression
no_parameters = refl

no_value : read_parameters (codes "x=") ≡ Err syntax_fault
unfolding tokens_after many_after operand operand_in expression
no_value = refl
