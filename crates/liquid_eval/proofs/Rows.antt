-- Worked rows.
use Rattle.std.proofs.Common.{◌≡◌, codes, refl}
use Rattle.std.specs.Fmt.{digits}
use Rattle.site_base.specs.Recursion.{down}
use Rattle.site_base.specs.Decimal.{decimal}
use Rattle.site_base.specs.declared.faults.FaultKind.TheVariants as kind
use Rattle.read_record.specs.Queries.{Gave, Failed}
use Rattle.liquid_filters.specs.Table.{rows}
use Rattle.jekyll_filters.specs.Table as jekyll
use Rattle.text_filters.specs.Marks.{marked_after}
use Rattle.liquid_grammar.specs.Pieces.{cut_from}
use Rattle.liquid_grammar.specs.Tokens.{tokens_after}
use Rattle.liquid_grammar.specs.Readings.{many_after}
use Rattle.liquid_grammar.specs.Expressions.{operand_in, operand, expression}
use Rattle.liquid_grammar.specs.Conditions.{test_at, condition}
use Rattle.liquid_grammar.specs.Tags.{assignment, cycle, loop_at, name_len}
use Rattle.liquid_grammar.specs.Items.{tag_item, tag_words}
use Rattle.liquid_values.specs.Places.{site_fault}
use Rattle.liquid_eval.specs.Nodes.{entering}
use Rattle.liquid_eval.specs.Samples.{evaluated_text, strictly}

row_1 : evaluated_text (codes "{% if true or false and false %}y{% else %}n{% endif %}{% if false and false or true %}y{% else %}n{% endif %}") ≡ Gave (codes "yn")
unfolding cut_from down decimal tokens_after many_after operand operand_in expression test_at condition assignment cycle loop_at name_len tag_item tag_words rows jekyll.rows marked_after entering
row_1 = refl

row_2 : evaluated_text (codes "a{{ 1 }}b{{ \"x\" }}{{ nil }}{{ true }}") ≡ Gave (codes "a1bxtrue")
unfolding cut_from down decimal tokens_after many_after operand operand_in expression test_at condition assignment cycle loop_at name_len tag_item tag_words rows jekyll.rows marked_after entering
row_2 = refl

row_3 : evaluated_text (codes "{% assign x = 3 %}{{ x | plus: 4 }}") ≡ Gave (codes "7")
unfolding cut_from down decimal tokens_after many_after operand operand_in expression test_at condition assignment cycle loop_at name_len tag_item tag_words rows jekyll.rows marked_after entering
row_3 = refl

row_4 : evaluated_text (codes "{% for i in (1..3) %}{{ i }}{% endfor %}") ≡ Gave (codes "123")
unfolding cut_from down decimal tokens_after many_after operand operand_in expression test_at condition assignment cycle loop_at name_len tag_item tag_words rows jekyll.rows marked_after entering
row_4 = refl

row_5 : evaluated_text (codes "{% for i in (1..3) reversed %}{{ i }},{% endfor %}") ≡ Gave (codes "3,2,1,")
unfolding cut_from down decimal tokens_after many_after operand operand_in expression test_at condition assignment cycle loop_at name_len tag_item tag_words rows jekyll.rows marked_after entering
row_5 = refl

row_6 : evaluated_text (codes "{% for i in (1..9) limit:2 offset:3 %}{{ i }},{% endfor %}") ≡ Gave (codes "4,5,")
unfolding cut_from down decimal tokens_after many_after operand operand_in expression test_at condition assignment cycle loop_at name_len tag_item tag_words rows jekyll.rows marked_after entering
row_6 = refl

row_7 : evaluated_text (codes "{% for i in (1..3) %}{{ forloop.index }}{{ forloop.index0 }}{{ forloop.rindex }}{{ forloop.rindex0 }}{{ forloop.first }}{{ forloop.last }}{{ forloop.length }};{% endfor %}") ≡ Gave (codes "1032truefalse3;2121falsefalse3;3210falsetrue3;")
unfolding cut_from down decimal tokens_after many_after operand operand_in expression test_at condition assignment cycle loop_at name_len tag_item tag_words rows jekyll.rows marked_after entering
row_7 = refl

row_8 : evaluated_text (codes "{% for i in (1..5) %}{% if i == 3 %}{% break %}{% endif %}{{ i }}{% endfor %}") ≡ Gave (codes "12")
unfolding cut_from down decimal tokens_after many_after operand operand_in expression test_at condition assignment cycle loop_at name_len tag_item tag_words rows jekyll.rows marked_after entering
row_8 = refl

row_9 : evaluated_text (codes "{% for i in (1..5) %}{% if i == 3 %}{% continue %}{% endif %}{{ i }}{% endfor %}") ≡ Gave (codes "1245")
unfolding cut_from down decimal tokens_after many_after operand operand_in expression test_at condition assignment cycle loop_at name_len tag_item tag_words rows jekyll.rows marked_after entering
row_9 = refl

row_10 : evaluated_text (codes "{% for i in (5..1) %}x{% else %}none{% endfor %}") ≡ Gave (codes "none")
unfolding cut_from down decimal tokens_after many_after operand operand_in expression test_at condition assignment cycle loop_at name_len tag_item tag_words rows jekyll.rows marked_after entering
row_10 = refl

row_11 : evaluated_text (codes "{% for i in \"\" %}x{% else %}none{% endfor %}") ≡ Gave (codes "none")
unfolding cut_from down decimal tokens_after many_after operand operand_in expression test_at condition assignment cycle loop_at name_len tag_item tag_words rows jekyll.rows marked_after entering
row_11 = refl

row_12 : evaluated_text (codes "{% for i in \"ab\" %}{{ i }}{% endfor %}") ≡ Gave (codes "ab")
unfolding cut_from down decimal tokens_after many_after operand operand_in expression test_at condition assignment cycle loop_at name_len tag_item tag_words rows jekyll.rows marked_after entering
row_12 = refl

row_13 : evaluated_text (codes "{% for i in (1..2) %}{% for j in (1..2) %}{{ forloop.parentloop.index }}{{ j }} {% endfor %}{% endfor %}") ≡ Gave (codes "11 12 21 22 ")
unfolding cut_from down decimal tokens_after many_after operand operand_in expression test_at condition assignment cycle loop_at name_len tag_item tag_words rows jekyll.rows marked_after entering
row_13 = refl

row_14 : evaluated_text (codes "{% unless false %}a{% else %}b{% endunless %}{% unless true %}a{% elsif true %}c{% endunless %}") ≡ Gave (codes "ac")
unfolding cut_from down decimal tokens_after many_after operand operand_in expression test_at condition assignment cycle loop_at name_len tag_item tag_words rows jekyll.rows marked_after entering
row_14 = refl

row_15 : evaluated_text (codes "{% case \"x\" %}{% when \"y\" or \"z\" %}1{% else %}2{% endcase %}") ≡ Gave (codes "2")
unfolding cut_from down decimal tokens_after many_after operand operand_in expression test_at condition assignment cycle loop_at name_len tag_item tag_words rows jekyll.rows marked_after entering
row_15 = refl

row_16 : evaluated_text (codes "{% capture c %}a{{ 1 }}{% endcapture %}[{{ c }}]") ≡ Gave (codes "[a1]")
unfolding cut_from down decimal tokens_after many_after operand operand_in expression test_at condition assignment cycle loop_at name_len tag_item tag_words rows jekyll.rows marked_after entering
row_16 = refl

row_17 : evaluated_text (codes "{% increment a %}{% increment a %}{% decrement a %}{% assign a = 7 %}{{ a }}") ≡ Gave (codes "0117")
unfolding cut_from down decimal tokens_after many_after operand operand_in expression test_at condition assignment cycle loop_at name_len tag_item tag_words rows jekyll.rows marked_after entering
row_17 = refl

row_18 : evaluated_text (codes "{% cycle \"a\", \"b\" %}{% cycle \"a\", \"b\" %}{% cycle \"a\", \"b\" %}") ≡ Gave (codes "aba")
unfolding cut_from down decimal tokens_after many_after operand operand_in expression test_at condition assignment cycle loop_at name_len tag_item tag_words rows jekyll.rows marked_after entering
row_18 = refl

row_19 : evaluated_text (codes "{% cycle \"g\": 1, 2 %}{% cycle \"h\": 1, 2 %}{% cycle \"g\": 1, 2 %}") ≡ Gave (codes "112")
unfolding cut_from down decimal tokens_after many_after operand operand_in expression test_at condition assignment cycle loop_at name_len tag_item tag_words rows jekyll.rows marked_after entering
row_19 = refl

row_20 : evaluated_text (codes "{% tablerow i in (1..3) cols:2 %}{{ i }}{% endtablerow %}") ≡ Gave (codes "<tr class=\"row1\">\n<td class=\"col1\">1</td><td class=\"col2\">2</td></tr>\n<tr class=\"row2\"><td class=\"col1\">3</td></tr>\n")
unfolding cut_from down decimal digits tokens_after many_after operand operand_in expression test_at condition assignment cycle loop_at name_len tag_item tag_words rows jekyll.rows marked_after entering
row_20 = refl

row_21 : evaluated_text (codes "{% if \"abc\" contains \"b\" %}y{% endif %}{% if nil contains \"b\" %}y{% endif %}") ≡ Gave (codes "y")
unfolding cut_from down decimal tokens_after many_after operand operand_in expression test_at condition assignment cycle loop_at name_len tag_item tag_words rows jekyll.rows marked_after entering
row_21 = refl

row_22 : evaluated_text (codes "{% if 1 < 2 %}a{% endif %}{% if 2 <= 1 %}b{% endif %}{% if \"a\" < \"b\" %}c{% endif %}{% if nil < 1 %}d{% endif %}") ≡ Gave (codes "ac")
unfolding cut_from down decimal tokens_after many_after operand operand_in expression test_at condition assignment cycle loop_at name_len tag_item tag_words rows jekyll.rows marked_after entering
row_22 = refl

row_23 : evaluated_text (codes "{% if true %}  {% assign q = 1 %} {% endif %}[{{ q }}]") ≡ Gave (codes "[1]")
unfolding cut_from down decimal tokens_after many_after operand operand_in expression test_at condition assignment cycle loop_at name_len tag_item tag_words rows jekyll.rows marked_after entering
row_23 = refl

row_24 : evaluated_text (codes "{% for i in (1..3) %} {% endfor %}|") ≡ Gave (codes "|")
unfolding cut_from down decimal tokens_after many_after operand operand_in expression test_at condition assignment cycle loop_at name_len tag_item tag_words rows jekyll.rows marked_after entering
row_24 = refl

row_25 : evaluated_text (codes "{% for i in (1..2) %}{% if true %} {% endif %}x{% endfor %}") ≡ Gave (codes "xx")
unfolding cut_from down decimal tokens_after many_after operand operand_in expression test_at condition assignment cycle loop_at name_len tag_item tag_words rows jekyll.rows marked_after entering
row_25 = refl

row_26 : evaluated_text (codes "{% assign i = 9 %}{% for i in (1..2) %}{{ i }}{% assign i = 5 %}{{ i }}{% endfor %}{{ i }}") ≡ Gave (codes "11225")
unfolding cut_from down decimal tokens_after many_after operand operand_in expression test_at condition assignment cycle loop_at name_len tag_item tag_words rows jekyll.rows marked_after entering
row_26 = refl

row_27 : evaluated_text (codes "{% for i in (1..2) %}{% capture x %}{{ i }}{% break %}{% endcapture %}{% endfor %}{{ x }}") ≡ Gave (codes "1")
unfolding cut_from down decimal tokens_after many_after operand operand_in expression test_at condition assignment cycle loop_at name_len tag_item tag_words rows jekyll.rows marked_after entering
row_27 = refl

row_28 : evaluated_text (codes "{{ \"a\" | append: \"b\" | upcase }}{{ \"a\" | nope: 1 }}") ≡ Gave (codes "ABa")
unfolding cut_from down decimal tokens_after many_after operand operand_in expression test_at condition assignment cycle loop_at name_len tag_item tag_words rows jekyll.rows marked_after entering
row_28 = refl

row_29 : evaluated_text (codes "{% comment %}{{ 1 | plus }}{% endcomment %}ok") ≡ Gave (codes "ok")
unfolding cut_from down decimal tokens_after many_after operand operand_in expression test_at condition assignment cycle loop_at name_len tag_item tag_words rows jekyll.rows marked_after entering
row_29 = refl

row_30 : evaluated_text (codes "{% break %}never") ≡ Gave (codes "")
unfolding cut_from down decimal tokens_after many_after operand operand_in expression test_at condition assignment cycle loop_at name_len tag_item tag_words rows jekyll.rows marked_after entering
row_30 = refl

row_31 : evaluated_text (codes "a{%- if true -%} b {%- endif -%} c") ≡ Gave (codes "abc")
unfolding cut_from down decimal tokens_after many_after operand operand_in expression test_at condition assignment cycle loop_at name_len tag_item tag_words rows jekyll.rows marked_after entering
row_31 = refl

row_32 : evaluated_text (codes "{{ (1..3) }}{{ (1..3) | size }}") ≡ Gave (codes "1..33")
unfolding cut_from down decimal tokens_after many_after operand operand_in expression test_at condition assignment cycle loop_at name_len tag_item tag_words rows jekyll.rows marked_after entering
row_32 = refl

row_33 : evaluated_text (codes "{% assign forloop = 1 %}{% for i in (1..1) %}{{ forloop.index }}{% endfor %}{{ forloop }}") ≡ Gave (codes "11")
unfolding cut_from down decimal tokens_after many_after operand operand_in expression test_at condition assignment cycle loop_at name_len tag_item tag_words rows jekyll.rows marked_after entering
row_33 = refl

row_34 : evaluated_text (codes "{% for i in (1..2) %}{% tablerow j in (1..2) %}{{ forloop.index }}{% endtablerow %}{% endfor %}") ≡ Gave (codes "<tr class=\"row1\">\n<td class=\"col1\">1</td><td class=\"col2\">1</td></tr>\n<tr class=\"row1\">\n<td class=\"col1\">2</td><td class=\"col2\">2</td></tr>\n")
unfolding cut_from down decimal digits tokens_after many_after operand operand_in expression test_at condition assignment cycle loop_at name_len tag_item tag_words rows jekyll.rows marked_after entering
row_34 = refl

row_35 : evaluated_text (codes "{% tablerow i in (1..0) %}{{ i }}{% endtablerow %}") ≡ Gave (codes "<tr class=\"row1\">\n</tr>\n")
unfolding cut_from down decimal tokens_after many_after operand operand_in expression test_at condition assignment cycle loop_at name_len tag_item tag_words rows jekyll.rows marked_after entering
row_35 = refl

empty_right : evaluated_text (codes "{% if x == empty %}e{% endif %}{% if \"\" == empty %}f{% endif %}{% if \"  \" == blank %}g{% endif %}{% if x == blank %}h{% endif %}") ≡ Gave (codes "fgh")
unfolding cut_from down decimal tokens_after many_after operand operand_in expression test_at condition assignment cycle loop_at name_len tag_item tag_words rows jekyll.rows marked_after entering
empty_right = refl

first_when : evaluated_text (codes "{% case 2 %}z{% when 1, 2 %}one-two{% when 2 %}again{% else %}other{% endcase %}") ≡ Gave (codes "one-two")
unfolding cut_from down decimal tokens_after many_after operand operand_in expression test_at condition assignment cycle loop_at name_len tag_item tag_words rows jekyll.rows marked_after entering
first_when = refl

row_whole : evaluated_text (codes "{% tablerow i in (1..2) %}{{ tablerowloop.col }}{{ tablerowloop.col_last }}{% endtablerow %}") ≡ Gave (codes "<tr class=\"row1\">\n<td class=\"col1\">1false</td><td class=\"col2\">2true</td></tr>\n")
unfolding cut_from down decimal digits tokens_after many_after operand operand_in expression test_at condition assignment cycle loop_at name_len tag_item tag_words rows jekyll.rows marked_after entering
row_whole = refl

division : evaluated_text (codes "{{ -7 | divided_by: 2 }} {{ -7 | modulo: 3 }}") ≡ Gave (codes "-4 2")
unfolding cut_from down decimal tokens_after many_after operand operand_in expression test_at condition assignment cycle loop_at name_len tag_item tag_words rows jekyll.rows marked_after entering
division = refl

too_large : evaluated_text (codes "{{ 9223372036854775807 | plus: 1 }}") ≡ Failed (site_fault (codes "p.html") 1 kind.Overflow)
unfolding cut_from down decimal tokens_after many_after operand operand_in expression test_at condition assignment cycle loop_at name_len tag_item tag_words rows jekyll.rows marked_after entering
too_large = refl

by_zero : evaluated_text (codes "x\n{{ 1 | divided_by: 0 }}") ≡ Failed (site_fault (codes "p.html") 2 kind.DividedByZero)
unfolding cut_from down decimal tokens_after many_after operand operand_in expression test_at condition assignment cycle loop_at name_len tag_item tag_words rows jekyll.rows marked_after entering
by_zero = refl

fraction : evaluated_text (codes "{{ \"1.5\" | plus: 1 }}") ≡ Failed (site_fault (codes "p.html") 1 kind.Fraction)
unfolding cut_from down decimal tokens_after many_after operand operand_in expression test_at condition assignment cycle loop_at name_len tag_item tag_words rows jekyll.rows marked_after entering
fraction = refl

include_one : evaluated_text (codes "{% include n.html x=\"1\" %}") ≡ Gave (codes "[1]")
unfolding cut_from down decimal tokens_after many_after operand operand_in expression test_at condition assignment cycle loop_at name_len tag_item tag_words rows jekyll.rows marked_after entering
include_one = refl

include_none : evaluated_text (codes "{% include no.html %}") ≡ Failed (site_fault (codes "p.html") 1 kind.IncludeMissing)
unfolding cut_from down decimal tokens_after many_after operand operand_in expression test_at condition assignment cycle loop_at name_len tag_item tag_words rows jekyll.rows marked_after entering
include_none = refl

include_up : evaluated_text (codes "\n{% include ../no.html %}") ≡ Failed (site_fault (codes "p.html") 2 kind.IncludeMissing)
unfolding cut_from down decimal tokens_after many_after operand operand_in expression test_at condition assignment cycle loop_at name_len tag_item tag_words rows jekyll.rows marked_after entering
include_up = refl

include_name : evaluated_text (codes "{% assign f = \"n\" %}{% include {{ f }}.html x=f %}{{ include.x }}") ≡ Gave (codes "[n]")
unfolding cut_from down decimal tokens_after many_after operand operand_in expression test_at condition assignment cycle loop_at name_len tag_item tag_words rows jekyll.rows marked_after entering
include_name = refl

include_bad : evaluated_text (codes "a\n\n{% include bad.html %}") ≡ Failed (site_fault (codes "_includes/bad.html") 2 kind.UnknownTag)
unfolding cut_from down decimal tokens_after many_after operand operand_in expression test_at condition assignment cycle loop_at name_len tag_item tag_words rows jekyll.rows marked_after entering
include_bad = refl

include_breaks : evaluated_text (codes "{% include b.html %}a{% for i in (1..3) %}{{ i }}{% include b.html %}{% endfor %}") ≡ Gave (codes "<a1<")
unfolding cut_from down decimal tokens_after many_after operand operand_in expression test_at condition assignment cycle loop_at name_len tag_item tag_words rows jekyll.rows marked_after entering
include_breaks = refl

link_one : evaluated_text (codes "{% link a.md %}") ≡ Gave (codes "/b/u")
unfolding cut_from down decimal tokens_after many_after operand operand_in expression test_at condition assignment cycle loop_at name_len tag_item tag_words rows jekyll.rows marked_after entering
link_one = refl

post_none : evaluated_text (codes "{% post_url a %}") ≡ Failed (site_fault (codes "p.html") 1 kind.LinkMissing)
unfolding cut_from down decimal tokens_after many_after operand operand_in expression test_at condition assignment cycle loop_at name_len tag_item tag_words rows jekyll.rows marked_after entering
post_none = refl

page_title : evaluated_text (codes "{{ page.title }}{{ page[\"title\"] }}{{ page.nope }}") ≡ Gave (codes "TT")
unfolding cut_from down decimal tokens_after many_after operand operand_in expression test_at condition assignment cycle loop_at name_len tag_item tag_words rows jekyll.rows marked_after entering
page_title = refl

posts : evaluated_text (codes "{% for p in site.posts %}{{ p.title }}{{ p.content }}{% endfor %}{{ site.posts.size }}{{ site }}") ≡ Gave (codes "Tc1")
unfolding cut_from down decimal tokens_after many_after operand operand_in expression test_at condition assignment cycle loop_at name_len tag_item tag_words rows jekyll.rows marked_after entering
posts = refl

related : evaluated_text (codes "{{ site.related_posts }}.{{ jekyll.environment }}{{ jekyll.version }}") ≡ Gave (codes ".development4")
unfolding cut_from down decimal tokens_after many_after operand operand_in expression test_at condition assignment cycle loop_at name_len tag_item tag_words rows jekyll.rows marked_after entering
related = refl

excerpt : evaluated_text (codes "{{ site.posts[0].excerpt }}{{ page.excerpt }}") ≡ Gave (codes "*a* T")
unfolding cut_from down decimal tokens_after many_after operand operand_in expression test_at condition assignment cycle loop_at name_len tag_item tag_words rows jekyll.rows marked_after entering
excerpt = refl

unlike : evaluated_text (codes "{% if 1 < \"2\" %}{% endif %}") ≡ Failed (site_fault (codes "p.html") 1 kind.Unlike)
unfolding cut_from down decimal tokens_after many_after operand operand_in expression test_at condition assignment cycle loop_at name_len tag_item tag_words rows jekyll.rows marked_after entering
unlike = refl

no_number : evaluated_text (codes "{% for i in (1..2) limit:\"1\" %}{% endfor %}") ≡ Failed (site_fault (codes "p.html") 1 kind.FilterArgument)
unfolding cut_from down decimal tokens_after many_after operand operand_in expression test_at condition assignment cycle loop_at name_len tag_item tag_words rows jekyll.rows marked_after entering
no_number = refl

long_range : evaluated_text (codes "{% for i in (1..1000001) %}{% endfor %}") ≡ Failed (site_fault (codes "p.html") 1 kind.RangeTooLong)
unfolding cut_from down decimal tokens_after many_after operand operand_in expression test_at condition assignment cycle loop_at name_len tag_item tag_words rows jekyll.rows marked_after entering
long_range = refl

highlight : evaluated_text (codes "{% highlight C++ %}\na<b\n{% endhighlight %}") ≡ Gave (codes "<figure class=\"highlight\"><pre><code class=\"language-c--\" data-lang=\"c++\">a&lt;b</code></pre></figure>")
unfolding cut_from down decimal tokens_after many_after operand operand_in expression test_at condition assignment cycle loop_at name_len tag_item tag_words rows jekyll.rows marked_after entering
highlight = refl

elsif_line : evaluated_text (codes "{% if false %}\n{% elsif 1 < \"2\" %}{% endif %}") ≡ Failed (site_fault (codes "p.html") 2 kind.Unlike)
unfolding cut_from down decimal tokens_after many_after operand operand_in expression test_at condition assignment cycle loop_at name_len tag_item tag_words rows jekyll.rows marked_after entering
elsif_line = refl

pairs : evaluated_text (codes "{% for p in jekyll %}{{ p[0] }}={{ p[1] }};{% endfor %}") ≡ Gave (codes "environment=development;version=4;")
unfolding cut_from down decimal tokens_after many_after operand operand_in expression test_at condition assignment cycle loop_at name_len tag_item tag_words rows jekyll.rows marked_after entering
pairs = refl

raw_in_a_silent_block : evaluated_text (codes "{% if true %} {% raw %}  {% endraw %} {% endif %}|") ≡ Gave (codes "|")
unfolding cut_from down decimal tokens_after many_after operand operand_in expression test_at condition assignment cycle loop_at name_len tag_item tag_words rows jekyll.rows marked_after entering
raw_in_a_silent_block = refl

undefined_output : strictly (codes "a\n{{ page.nope }}") ≡ Failed (site_fault (codes "p.html") 2 kind.Undefined)
unfolding cut_from down decimal tokens_after many_after operand operand_in expression test_at condition assignment cycle loop_at name_len tag_item tag_words rows jekyll.rows marked_after entering
undefined_output = refl

unknown_name : strictly (codes "{{ \"a\" | nope: x }}") ≡ Failed (site_fault (codes "p.html") 1 kind.UnknownFilter)
unfolding cut_from down decimal tokens_after many_after operand operand_in expression test_at condition assignment cycle loop_at name_len tag_item tag_words rows jekyll.rows marked_after entering
unknown_name = refl

free_tests : strictly (codes "{% if page.nope.a %}{% elsif x[y] == z %}{% endif %}{% unless x %}{% case y | default: 1 %}{% when z, 1 %}ok{% endcase %}{% endunless %}") ≡ Gave (codes "ok")
unfolding cut_from down decimal tokens_after many_after operand operand_in expression test_at condition assignment cycle loop_at name_len tag_item tag_words rows jekyll.rows marked_after entering
free_tests = refl

tested_branch : strictly (codes "{% if true %}{{ x }}{% endif %}") ≡ Failed (site_fault (codes "p.html") 1 kind.Undefined)
unfolding cut_from down decimal tokens_after many_after operand operand_in expression test_at condition assignment cycle loop_at name_len tag_item tag_words rows jekyll.rows marked_after entering
tested_branch = refl

tested_argument : strictly (codes "{% case x | append: y %}{% when 1 %}{% endcase %}") ≡ Failed (site_fault (codes "p.html") 1 kind.Undefined)
unfolding cut_from down decimal tokens_after many_after operand operand_in expression test_at condition assignment cycle loop_at name_len tag_item tag_words rows jekyll.rows marked_after entering
tested_argument = refl

default_given : strictly (codes "{{ x | default: \"d\" }}") ≡ Gave (codes "d")
unfolding cut_from down decimal tokens_after many_after operand operand_in expression test_at condition assignment cycle loop_at name_len tag_item tag_words rows jekyll.rows marked_after entering
default_given = refl

default_undefined : strictly (codes "{{ x | default: y }}") ≡ Failed (site_fault (codes "p.html") 1 kind.Undefined)
unfolding cut_from down decimal tokens_after many_after operand operand_in expression test_at condition assignment cycle loop_at name_len tag_item tag_words rows jekyll.rows marked_after entering
default_undefined = refl

excerpt_in_a_test : strictly (codes "{% if site.posts[0].excerpt %}{% endif %}") ≡ Failed (site_fault (codes "_posts/a.md") 1 kind.Undefined)
unfolding cut_from down decimal tokens_after many_after operand operand_in expression test_at condition assignment cycle loop_at name_len tag_item tag_words rows jekyll.rows marked_after entering
excerpt_in_a_test = refl
