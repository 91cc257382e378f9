-- What the call is handed and answers, in the words of the grammar of Markdown.
use Rattle.std.specs.Prelude.{List, ℕ}
use Rattle.markdown_grammar.specs.Columns.{own_line}
use Rattle.markdown_grammar.specs.Containers as grammar
use Rattle.markdown_grammar.specs.Matching as matching
use Rattle.cm_containers.specs.Rests.{rest_text}
use Rattle.cm_containers.specs.declared.kinds.Container.{Container}
use Rattle.cm_containers.specs.declared.kinds.Container.TheVariants.{Item, Quote}
use Rattle.cm_containers.specs.declared.kinds.Matched.{Matched}

-- an open container
abbrev pub as_container : Container → grammar.Container
as_container Quote = grammar.block_quote
as_container (Item indent mark start) = grammar.list_item mark start indent

-- how many containers a line goes on with, and the rest of the line
abbrev pub as_matched : List ℕ → Matched → matching.Matched
as_matched line m = record { kept = m.kept; rest = own_line m.column (rest_text line m.at m.column) }
