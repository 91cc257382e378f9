-- Worked rows of trees and their faults.
use Rattle.std.proofs.Common.{◌≡◌, ℕ, List, [], ◌∷◌, codes, refl, Ok, Err, Some, None, pos}
use Rattle.site_base.specs.Recursion.{down}
use Rattle.site_base.specs.declared.faults.FaultKind.TheVariants.{LiquidSyntax, UnknownTag, Overflow}
use Rattle.liquid_grammar.specs.declared.literal.Literal.TheVariants as literals
use Rattle.liquid_grammar.specs.declared.mark.Comparison.TheVariants as comparison
use Rattle.liquid_grammar.specs.declared.expression.Expr.{Expr}
use Rattle.liquid_grammar.specs.declared.condition.Test.TheVariants.{Holds, Compares}
use Rattle.liquid_grammar.specs.declared.tag.LoopKey.TheVariants.{Limit, Offset, Columns}
use Rattle.liquid_grammar.specs.declared.tag.LoopPart.TheVariants.{Reversed, Number}
use Rattle.liquid_grammar.specs.declared.tag.NamePart.TheVariants as name_part
use Rattle.liquid_grammar.specs.declared.item.Leaf.TheVariants as leaves
use Rattle.liquid_grammar.specs.declared.item.Block.TheVariants as blocks
use Rattle.liquid_grammar.specs.declared.item.Part.TheVariants.{Body, Test, When, Otherwise}
use Rattle.liquid_grammar.specs.Operands.{Operand, literal, variable, member}
use Rattle.liquid_grammar.specs.Pieces.{cut_from}
use Rattle.liquid_grammar.specs.Tokens.{tokens_after}
use Rattle.liquid_grammar.specs.Readings.{many_after}
use Rattle.liquid_grammar.specs.Expressions.{filter_of, operand_in, operand, expression}
use Rattle.liquid_grammar.specs.Conditions.{test_at, condition}
use Rattle.liquid_grammar.specs.Tags.{assignment, cycle, loop_at, name_len}
use Rattle.liquid_grammar.specs.Items.{tag_item, tag_words}
use Rattle.liquid_grammar.specs.Trees.{done, leaf, block, part, fault, tree}

abbrev v : List ℕ → Operand
v name = variable name

abbrev int : ℕ → Operand
int n = literal (literals.Int (pos n))

abbrev plain : Operand → Expr
plain e = record { operand = e; filters = [] }

nothing_at_all : tree (codes "") ≡ Ok done
unfolding cut_from down tokens_after many_after operand operand_in expression test_at condition assignment cycle loop_at name_len tag_item tag_words
nothing_at_all = refl

raw_text : tree (codes "{% raw %}{{ a }}{% endraw %}b") ≡ Ok (leaf 1 (leaves.Text (codes "{{ a }}")) (leaf 1 (leaves.Text (codes "b")) done))
unfolding cut_from down tokens_after many_after operand operand_in expression test_at condition assignment cycle loop_at name_len tag_item tag_words
raw_text = refl

output : tree (codes "a\n{{ b }}") ≡ Ok (leaf 1 (leaves.Text (codes "a\n")) (leaf 2 (leaves.Output (plain (v (codes "b")))) done))
unfolding cut_from down tokens_after many_after operand operand_in expression test_at condition assignment cycle loop_at name_len tag_item tag_words
output = refl

unknown_tag : tree (codes "{% foo %}") ≡ Err (fault 1 UnknownTag)
unfolding cut_from down tokens_after many_after operand operand_in expression test_at condition assignment cycle loop_at name_len tag_item tag_words
unknown_tag = refl

open_block : tree (codes "{% if a %}") ≡ Err (fault 1 LiquidSyntax)
unfolding cut_from down tokens_after many_after operand operand_in expression test_at condition assignment cycle loop_at name_len tag_item tag_words
open_block = refl

innermost_open_block : tree (codes "{% if a %}\n{% for x in y %}") ≡ Err (fault 2 LiquidSyntax)
unfolding cut_from down tokens_after many_after operand operand_in expression test_at condition assignment cycle loop_at name_len tag_item tag_words
innermost_open_block = refl

syntax_before_open_piece : tree (codes "\n\n{{ a | }}\n{{ b") ≡ Err (fault 3 LiquidSyntax)
unfolding cut_from down tokens_after many_after operand operand_in expression test_at condition assignment cycle loop_at name_len tag_item tag_words
syntax_before_open_piece = refl

open_piece : tree (codes "{{ a }}\n{% if b %}\n{{") ≡ Err (fault 3 LiquidSyntax)
unfolding cut_from down tokens_after many_after operand operand_in expression test_at condition assignment cycle loop_at name_len tag_item tag_words
open_piece = refl

overflow_in_output : tree (codes "{{ 9223372036854775808 }}") ≡ Err (fault 1 Overflow)
unfolding cut_from down tokens_after many_after operand operand_in expression test_at condition assignment cycle loop_at name_len tag_item tag_words
overflow_in_output = refl

empty_output : tree (codes "{{ }}") ≡ Err (fault 1 LiquidSyntax)
unfolding cut_from down tokens_after many_after operand operand_in expression test_at condition assignment cycle loop_at name_len tag_item tag_words
empty_output = refl

empty_tag : tree (codes "{% %}") ≡ Err (fault 1 LiquidSyntax)
unfolding cut_from down tokens_after many_after operand operand_in expression test_at condition assignment cycle loop_at name_len tag_item tag_words
empty_tag = refl

other_end : tree (codes "{% if a %}\n{% endfor %}{{ |") ≡ Err (fault 2 LiquidSyntax)
unfolding cut_from down tokens_after many_after operand operand_in expression test_at condition assignment cycle loop_at name_len tag_item tag_words
other_end = refl

end_without_start : tree (codes "a{% endif %}") ≡ Err (fault 1 LiquidSyntax)
unfolding cut_from down tokens_after many_after operand operand_in expression test_at condition assignment cycle loop_at name_len tag_item tag_words
end_without_start = refl

when_after_else : tree (codes "{% case a %}{% when 1 %}\n{% else %}\n{% when 2 %}{% endcase %}") ≡ Err (fault 3 LiquidSyntax)
unfolding cut_from down tokens_after many_after operand operand_in expression test_at condition assignment cycle loop_at name_len tag_item tag_words
when_after_else = refl

else_twice : tree (codes "{% if a %}{% else %}\n{% else %}{% endif %}") ≡ Err (fault 2 LiquidSyntax)
unfolding cut_from down tokens_after many_after operand operand_in expression test_at condition assignment cycle loop_at name_len tag_item tag_words
else_twice = refl

end_of_raw_alone : tree (codes "\n{% endraw %}") ≡ Err (fault 2 LiquidSyntax)
unfolding cut_from down tokens_after many_after operand operand_in expression test_at condition assignment cycle loop_at name_len tag_item tag_words
end_of_raw_alone = refl

open_comment : tree (codes "a\n{% comment %} {% if %} ") ≡ Err (fault 2 LiquidSyntax)
unfolding cut_from down tokens_after many_after operand operand_in expression test_at condition assignment cycle loop_at name_len tag_item tag_words
open_comment = refl

comment_in_comment : tree (codes "{% comment %}{% comment %}{% endcomment %}\n{% endcomment %}") ≡ Err (fault 2 LiquidSyntax)
unfolding cut_from down tokens_after many_after operand operand_in expression test_at condition assignment cycle loop_at name_len tag_item tag_words
comment_in_comment = refl

a_comment : tree (codes "{% comment %}{{ | {% endcomment %}") ≡ Ok done
unfolding cut_from down tokens_after many_after operand operand_in expression test_at condition assignment cycle loop_at name_len tag_item tag_words
a_comment = refl

branches : tree (codes "{% if a %}b{% elsif c == 1 %}\n{% else %}d{% endif %}e") ≡ Ok (block 1 blocks.If (part 1 (Test (record { first = Holds (v (codes "a")); rest = [] })) (leaf 1 (leaves.Text (codes "b")) done) (part 1 (Test (record { first = Compares (v (codes "c")) comparison.Equal (int 1); rest = [] })) (leaf 1 (leaves.Text (codes "\n")) done) (part 2 Otherwise (leaf 2 (leaves.Text (codes "d")) done) done))) (leaf 2 (leaves.Text (codes "e")) done))
unfolding cut_from down tokens_after many_after operand operand_in expression test_at condition assignment cycle loop_at name_len tag_item tag_words
branches = refl

cases : tree (codes "{% case a %} {% when 1, 2 or b %}x{% endcase %}") ≡ Ok (block 1 (blocks.Case (plain (v (codes "a")))) (part 1 Body (leaf 1 (leaves.Text (codes " ")) done) (part 1 (When (int 1 ∷ int 2 ∷ v (codes "b") ∷ [])) (leaf 1 (leaves.Text (codes "x")) done) done)) done)
unfolding cut_from down tokens_after many_after operand operand_in expression test_at condition assignment cycle loop_at name_len tag_item tag_words
cases = refl

loops : tree (codes "{% for x in a.b reversed limit:2 %}{% break %}{% else %}{% endfor %}") ≡ Ok (block 1 (blocks.For (record { name = codes "x"; list = plain (member (v (codes "a")) (codes "b")); parts = Reversed ∷ Number Limit (plain (int 2)) ∷ [] })) (part 1 Body (leaf 1 leaves.Break done) (part 1 Otherwise done done)) done)
unfolding cut_from down tokens_after many_after operand operand_in expression test_at condition assignment cycle loop_at name_len tag_item tag_words
loops = refl

rows : tree (codes "{% tablerow x in a cols:3 offset: 1 %}{% endtablerow %}") ≡ Ok (block 1 (blocks.TableRow (record { name = codes "x"; list = plain (v (codes "a")); parts = Number Columns (plain (int 3)) ∷ Number Offset (plain (int 1)) ∷ [] })) (part 1 Body done done) done)
unfolding cut_from down tokens_after many_after operand operand_in expression test_at condition assignment cycle loop_at name_len tag_item tag_words
rows = refl

limit_twice : tree (codes "{% for x in a limit:1 limit:2 %}{% endfor %}") ≡ Err (fault 1 LiquidSyntax)
unfolding cut_from down tokens_after many_after operand operand_in expression test_at condition assignment cycle loop_at name_len tag_item tag_words
limit_twice = refl

columns_of_for : tree (codes "{% for x in a cols:1 %}{% endfor %}") ≡ Err (fault 1 LiquidSyntax)
unfolding cut_from down tokens_after many_after operand operand_in expression test_at condition assignment cycle loop_at name_len tag_item tag_words
columns_of_for = refl

else_of_row : tree (codes "{% tablerow x in a %}{% else %}{% endtablerow %}") ≡ Err (fault 1 LiquidSyntax)
unfolding cut_from down tokens_after many_after operand operand_in expression test_at condition assignment cycle loop_at name_len tag_item tag_words
else_of_row = refl

cycles : tree (codes "{% cycle g: 1, 2 %}{% cycle 1 %}") ≡ Ok (leaf 1 (leaves.Cycle (codes "g: 1, 2") (record { group = Some (v (codes "g")); values = int 1 ∷ int 2 ∷ [] })) (leaf 1 (leaves.Cycle (codes "1") (record { group = None; values = int 1 ∷ [] })) done))
unfolding cut_from down tokens_after many_after operand operand_in expression test_at condition assignment cycle loop_at name_len tag_item tag_words
cycles = refl

assignments : tree (codes "{% assign a = b | f %}{% increment c %}") ≡ Ok (leaf 1 (leaves.Assign (record { name = codes "a"; value = record { operand = v (codes "b"); filters = filter_of (codes "f") [] ∷ [] } })) (leaf 1 (leaves.Increment (codes "c")) done))
unfolding cut_from down tokens_after many_after operand operand_in expression test_at condition assignment cycle loop_at name_len tag_item tag_words
assignments = refl

reserved_name : tree (codes "{% assign nil = 1 %}") ≡ Err (fault 1 LiquidSyntax)
unfolding cut_from down tokens_after many_after operand operand_in expression test_at condition assignment cycle loop_at name_len tag_item tag_words
reserved_name = refl

includes : tree (codes "{% include a/{{ b | f }}.html c=1 %}") ≡ Ok (leaf 1 (leaves.Include (record { file = name_part.Text (codes "a/") ∷ name_part.Output (record { operand = v (codes "b"); filters = filter_of (codes "f") [] ∷ [] }) ∷ name_part.Text (codes ".html") ∷ []; params = record { name = codes "c"; value = plain (int 1) } ∷ [] })) done)
unfolding cut_from down tokens_after many_after operand operand_in expression test_at condition assignment cycle loop_at name_len tag_item tag_words
includes = refl

no_file : tree (codes "{% include %}") ≡ Err (fault 1 LiquidSyntax)
unfolding cut_from down tokens_after many_after operand operand_in expression test_at condition assignment cycle loop_at name_len tag_item tag_words
no_file = refl

open_output_in_file : tree (codes "{% include a{{ b %}") ≡ Err (fault 1 LiquidSyntax)
unfolding cut_from down tokens_after many_after operand operand_in expression test_at condition assignment cycle loop_at name_len tag_item tag_words
open_output_in_file = refl

links : tree (codes "{% link my page.md %}") ≡ Ok (leaf 1 (leaves.Link (name_part.Text (codes "my page.md") ∷ [])) done)
unfolding cut_from down tokens_after many_after operand operand_in expression test_at condition assignment cycle loop_at name_len tag_item tag_words
links = refl

code : tree (codes "{% highlight c++ linenos %}x{% endhighlight %}") ≡ Ok (block 1 (blocks.Highlight (codes "c++")) (part 1 Body (leaf 1 (leaves.Text (codes "x")) done) done) done)
unfolding cut_from down tokens_after many_after operand operand_in expression test_at condition assignment cycle loop_at name_len tag_item tag_words
code = refl

dashes : tree (codes "a {%- capture x -%} b {%- endcapture %}") ≡ Ok (leaf 1 (leaves.Text (codes "a")) (block 1 (blocks.Capture (codes "x")) (part 1 Body (leaf 1 (leaves.Text (codes "b")) done) done) done))
unfolding cut_from down tokens_after many_after operand operand_in expression test_at condition assignment cycle loop_at name_len tag_item tag_words
dashes = refl
