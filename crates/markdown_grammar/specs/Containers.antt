-- Container blocks: CommonMark 0.31.2, sections 5.1 and 5.2, and lazy lines.
use Rattle.std.specs.Prelude.{List, [], if◌then◌else◌, nat_le, nat_lt, ℕ, ◌&&◌, ◌+◌, ◌==◌, ◌||◌, ◌∷◌}
use Rattle.site_text.specs.Bytes.{greater_than}
use Rattle.markdown_grammar.specs.Columns.{Line, indent, lazy_line, own_line, shifted}
use Rattle.markdown_grammar.specs.Extents.{Entry, goes_in, goes_in_if_filled, goes_in_if_open, stays_out}
use Rattle.markdown_grammar.specs.LineStarts.{start_of}
use Rattle.markdown_grammar.specs.Lines.{is_blank, trim_front}
use Rattle.markdown_grammar.specs.Places.{beside_paragraph}
use Rattle.markdown_grammar.specs.Starts.{Start, text_start}

-- an item's kind is the last byte of its mark, its number that of an ordered item, and its content starts at a column behind the mark
pub data Container : Type 0 where
  block_quote : Container
  list_item : (kind number content : ℕ) → Container

-- behind a list mark: from one to four columns are taken, and one where more stand there or nothing follows
abbrev pub padding : ℕ → List ℕ → ℕ
padding col after = let n = indent col after in if is_blank after || nat_lt 4 n then 1 else n

-- a line without the container's marks: it is lazy where it starts nothing where it stands
abbrev pub lazily : List ℕ → Start → Entry Line
lazily t text_start = goes_in_if_open (lazy_line t)
lazily t _ = stays_out

-- an item takes a blank line, and one that is indented to its content
abbrev pub item_entry : ℕ → ℕ → List ℕ → Entry Line
item_entry content col t =
    if is_blank t then goes_in_if_filled (shifted content col t) else if nat_le content (indent col t) then goes_in (shifted content col t) else lazily t (start_of beside_paragraph col t)

-- behind `>`, one optional space
abbrev pub quote_entry : ℕ → List ℕ → List ℕ → Entry Line
quote_entry col t [] = stays_out
quote_entry col t (c ∷ cs) = if nat_lt (indent col t) 4 && (c == greater_than) then goes_in (shifted 1 (col + indent col t + 1) cs) else lazily t (start_of beside_paragraph col t)

-- how a line enters an open container
abbrev pub entry : Container → Line → Entry Line
entry c (lazy_line t) = goes_in (lazy_line t)
entry block_quote (own_line col t) = quote_entry col t (trim_front t)
entry (list_item kind number content) (own_line col t) = item_entry content col t
