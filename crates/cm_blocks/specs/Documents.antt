-- What a text's blocks are, as a printer needs them: CommonMark 0.31.2, sections 4 and 5. Blank lines are gone, and so is what only the next line asks for; paragraphs that are definitions alone are none.
use Rattle.std.specs.Prelude.{Bool, List, [], if◌then◌else◌, true, ℕ}
use Rattle.markdown_grammar.specs.Blocks.{Blocks}
use Rattle.markdown_grammar.specs.Containers.{block_quote, list_item}
use Rattle.markdown_grammar.specs.Extents.{blank_line, container, leaf, no_blocks}
use Rattle.markdown_grammar.specs.Fronts.{is_empty}
use Rattle.markdown_grammar.specs.LeafHtml.{prose_text}
use Rattle.markdown_grammar.specs.Leaves as leaves
use Rattle.markdown_grammar.specs.Lines.{ended_lines}
use Rattle.markdown_grammar.specs.Lists.{goes_on, is_loose}

-- blocks, each with those that follow it; a list has items alone in it: the last byte of their marks (which is the list's kind), the first number, and whether it is loose
pub data Document : Type 0 where
  nothing : Document
  paragraph : (text : List ℕ) → (rest : Document) → Document
  heading : (level : ℕ) → (text : List ℕ) → (rest : Document) → Document
  thematic_break : (rest : Document) → Document
  code : (info text : List ℕ) → (rest : Document) → Document
  html : (text : List ℕ) → (rest : Document) → Document
  quote : (body rest : Document) → Document
  list : (kind number : ℕ) → (loose : Bool) → (items rest : Document) → Document
  item : (body rest : Document) → Document

-- an item before other blocks: at the front of the list that comes next, where it goes on with it, else in a list of its own
abbrev pub item_before : (kind number : ℕ) → (loose : Bool) → (body : Document) → (more : Bool) → Document → Document
item_before kind number loose body true (list k n l items rest) = list kind number loose (item body items) rest
item_before kind number loose body more d = list kind number loose (item body nothing) d

-- a leaf before other blocks; a paragraph's text stands behind its definitions, and where none is left there is no paragraph
abbrev pub leaf_before : leaves.Leaf → Document → Document
leaf_before (leaves.paragraph texts) d = if is_empty (prose_text texts) then d else paragraph (prose_text texts) d
leaf_before (leaves.setext_heading level texts) d = heading level (prose_text texts) d
leaf_before (leaves.atx_heading level line) d = heading level line d
leaf_before leaves.thematic_break d = thematic_break d
leaf_before (leaves.indented_code texts pending) d = code [] (ended_lines texts) d
leaf_before (leaves.fenced_code i mark len info texts is_closed) d = code info (ended_lines texts) d
leaf_before (leaves.html_block kind texts is_closed) d = html (ended_lines texts) d

-- the document of blocks
abbrev pub document_of : Blocks → Document
document_of no_blocks = nothing
document_of (blank_line l rest) = document_of rest
document_of (leaf s rest) = leaf_before s (document_of rest)
document_of (container block_quote body rest) = quote (document_of body) (document_of rest)
document_of (container (list_item kind number content) body rest) =
    item_before kind number (is_loose kind (container (list_item kind number content) body rest)) (document_of body) (goes_on kind rest) (document_of rest)
