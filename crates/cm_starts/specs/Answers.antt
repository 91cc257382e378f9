-- What the calls are handed and answer, in the words of the grammar of Markdown.
use Rattle.markdown_grammar.specs.Places as places
use Rattle.markdown_grammar.specs.Starts as starts
use Rattle.cm_starts.specs.Marks.{mark_byte}
use Rattle.cm_starts.specs.declared.kinds.Place.{Place}
use Rattle.cm_starts.specs.declared.kinds.Place.TheVariants.{Beside, Fresh, Paragraph}
use Rattle.cm_starts.specs.declared.kinds.Start.{Start}
use Rattle.cm_starts.specs.declared.kinds.Start.TheVariants.{Blank, Break, Fence, Heading, Html, Indented, Item, Quote, Text, Underline}

abbrev pub as_place : Place → places.Place
as_place Fresh = places.not_in_paragraph
as_place Beside = places.beside_paragraph
as_place (Paragraph has_text) = places.in_paragraph has_text

abbrev pub as_start : Start → starts.Start
as_start Blank = starts.blank_start
as_start Quote = starts.quote_start
as_start (Heading level text) = starts.atx_start level text.now
as_start (Fence indent mark len info) = starts.fence_start indent mark len info.now
as_start (Html kind) = starts.html_start kind
as_start (Underline level) = starts.underline_start level
as_start Break = starts.break_start
as_start (Item mark number digits) = starts.item_start (mark_byte mark) number digits
as_start Indented = starts.indented_start
as_start Text = starts.text_start
