-- The blocks of a text: CommonMark 0.31.2, sections 3 to 5.
use Rattle.std.specs.Prelude.{List, [], drop, false, ℕ, ◌+◌, ◌∷◌}
use Rattle.markdown_grammar.specs.Columns.{Line, bytes_weight, indent, lazy_line, line_text, own_line, shifted, whole_lines}
use Rattle.markdown_grammar.specs.Containers.{Container, block_quote, entry, list_item, padding}
use Rattle.markdown_grammar.specs.Extents.{BlocksOf, Opening, Rules, blocks_by, opens_container, opens_leaf, opens_nothing}
use Rattle.markdown_grammar.specs.HtmlStarts.{ends_html}
use Rattle.markdown_grammar.specs.Leaves.{Leaf, atx_heading, fenced_code, html_block, indented_code, is_open, more, paragraph, thematic_break}
use Rattle.markdown_grammar.specs.LineStarts.{start_of}
use Rattle.markdown_grammar.specs.Lines.{nul_replaced, text_lines, trim_front}
use Rattle.markdown_grammar.specs.Places.{not_in_paragraph}
use Rattle.markdown_grammar.specs.Starts.{Start, atx_start, blank_start, break_start, fence_start, html_start, indented_start, item_start, quote_start, text_start, underline_start}

-- a mark's last byte is the head of the rest, or stands `digits` bytes into it
abbrev pub item_opening : ℕ → ℕ → ℕ → ℕ → ℕ → List ℕ → Opening Line Leaf Container
item_opening kind number i col digits after =
    let pad = padding col after in opens_container (list_item kind number (i + digits + 1 + pad)) (shifted pad col after)

-- what a line opens, by what it starts: t is the line, and cs what follows the first byte of its text
abbrev pub opening_at : ℕ → List ℕ → List ℕ → Start → Opening Line Leaf Container
opening_at col t cs blank_start = opens_nothing
opening_at col t cs quote_start = opens_container block_quote (shifted 1 (col + indent col t + 1) cs)
opening_at col t cs (atx_start level u) = opens_leaf (atx_heading level u)
opening_at col t cs (fence_start i mark len info) = opens_leaf (fenced_code i mark len info [] false)
opening_at col t cs (html_start kind) = opens_leaf (html_block kind (t ∷ []) (ends_html kind t))
opening_at col t cs (underline_start level) = opens_nothing
opening_at col t cs break_start = opens_leaf thematic_break
opening_at col t cs (item_start kind number digits) = item_opening kind number (indent col t) (col + indent col t + digits + 1) digits (drop digits cs)
opening_at col t cs indented_start = opens_leaf (indented_code (line_text (shifted 4 col t) ∷ []) [])
opening_at col t cs text_start = opens_leaf (paragraph (trim_front t ∷ []))

-- the same, by the text without the white space in front
abbrev pub opening_of : ℕ → List ℕ → List ℕ → Opening Line Leaf Container
opening_of col t [] = opens_nothing
opening_of col t (c ∷ cs) = opening_at col t cs (start_of not_in_paragraph col t)

-- what a line opens where no block is open
abbrev pub opening : Line → Opening Line Leaf Container
opening (lazy_line t) = opens_leaf (paragraph (trim_front t ∷ []))
opening (own_line col t) = opening_of col t (trim_front t)

-- by this a container's inside is lighter than the line
abbrev pub line_weight : Line → ℕ
line_weight l = bytes_weight (line_text l)

-- the rules of leaves and containers
abbrev pub rules : Rules Line Leaf Container
rules = record { weight = line_weight; start = opening; more = more; entry = entry; is_open = is_open }

-- the blocks of a text: each holds those that follow it
abbrev pub Blocks : Type 0
Blocks = BlocksOf Line Leaf Container

-- the blocks of lines
unfoldable pub blocks : List Line → Blocks
unfolding blocks_by
blocks ls = blocks_by rules ls

-- the blocks of a text
unfoldable pub blocks_of : List ℕ → Blocks
blocks_of t = blocks (whole_lines (text_lines (nul_replaced t)))
