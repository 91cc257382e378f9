-- The order in which the marks of a line are tried, from each of them on.
use Rattle.std.specs.Prelude.{List, if◌then◌else◌, nat_lt, ℕ}
use Rattle.markdown_grammar.specs.Breaks.{break_at}
use Rattle.markdown_grammar.specs.Fences.{fence_at}
use Rattle.markdown_grammar.specs.Fronts.{is_empty}
use Rattle.markdown_grammar.specs.Headings.{atx_at, underline_at}
use Rattle.markdown_grammar.specs.HtmlStarts.{html_at}
use Rattle.markdown_grammar.specs.LineStarts.{mark_at}
use Rattle.markdown_grammar.specs.ListMarks.{item_at}
use Rattle.markdown_grammar.specs.Places.{Place, is_fresh}
use Rattle.markdown_grammar.specs.Starts.{Start, blank_start, indented_start, text_start, ◌elsewise◌}

abbrev pub break_on : Place → List ℕ → Start
break_on place t = break_at t elsewise item_at place t

abbrev pub underline_on : Place → List ℕ → Start
underline_on place t = underline_at place t elsewise break_on place t

abbrev pub html_on : Place → List ℕ → Start
html_on place t = html_at place t elsewise underline_on place t

abbrev pub fence_on : Place → ℕ → List ℕ → Start
fence_on place i t = fence_at i t elsewise html_on place t

abbrev pub heading_on : Place → ℕ → List ℕ → Start
heading_on place i t = atx_at t elsewise fence_on place i t

-- what a line starts, by its indent and the text behind that
abbrev pub start_at : Place → ℕ → List ℕ → Start
start_at place i t = if is_empty t then blank_start else if nat_lt i 4 then mark_at place i t else if is_fresh place then indented_start else text_start
