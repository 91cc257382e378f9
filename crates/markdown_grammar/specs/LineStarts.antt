-- The order in which a line is tried for what it starts: CommonMark 0.31.2, sections 4 and 5.
use Rattle.std.specs.Prelude.{List, if◌then◌else◌, nat_lt, ℕ, ◌==◌}
use Rattle.markdown_grammar.specs.Breaks.{break_at}
use Rattle.site_text.specs.Bytes.{greater_than}
use Rattle.site_text.specs.Fronts.{first_byte}
use Rattle.markdown_grammar.specs.Columns.{indent}
use Rattle.markdown_grammar.specs.Fences.{fence_at}
use Rattle.markdown_grammar.specs.Headings.{atx_at, underline_at}
use Rattle.markdown_grammar.specs.HtmlStarts.{html_at}
use Rattle.markdown_grammar.specs.Lines.{is_blank, trim_front}
use Rattle.markdown_grammar.specs.ListMarks.{item_at}
use Rattle.markdown_grammar.specs.Places.{Place, is_fresh}
use Rattle.markdown_grammar.specs.Starts.{Start, blank_start, indented_start, quote_start, text_start, ◌elsewise◌}

-- a block quote
abbrev pub quote_at : List ℕ → Start
quote_at t = if first_byte t == greater_than then quote_start else text_start

-- the first in this order: quote, ATX heading, fence, HTML, setext underline, thematic break, item
abbrev pub mark_at : Place → ℕ → List ℕ → Start
mark_at place i t = quote_at t elsewise atx_at t elsewise fence_at i t elsewise html_at place t elsewise underline_at place t elsewise break_at t elsewise item_at place t

-- what a line starts: blank, indented by at most three columns, or indented code where no paragraph is open
abbrev pub start_of : Place → ℕ → List ℕ → Start
start_of place col t = if is_blank t then blank_start else if nat_lt (indent col t) 4 then mark_at place (indent col t) (trim_front t) else if is_fresh place then indented_start else text_start
