-- Lists as runs of items of one kind, and which of them are loose: CommonMark 0.31.2, section 5.3.
use Rattle.std.specs.Prelude.{Bool, false, not, true, ℕ, ◌&&◌, ◌==◌, ◌||◌}
use Rattle.markdown_grammar.specs.Blocks.{Blocks}
use Rattle.markdown_grammar.specs.Containers.{Container, block_quote, list_item}
use Rattle.markdown_grammar.specs.Extents.{blank_line, container, has_block, leaf, no_blocks}
use Rattle.markdown_grammar.specs.Fronts.{is_empty}
use Rattle.markdown_grammar.specs.Leaves.{Leaf, indented_code}

-- a blank line comes next
abbrev pub starts_gap : Blocks → Bool
starts_gap (blank_line l rest) = true
starts_gap _ = false

-- another item of the list follows
abbrev pub is_item_of : ℕ → Container → Bool
is_item_of kind block_quote = false
is_item_of kind (list_item k number content) = k == kind

-- an item of the list comes next, behind blank lines or none
abbrev pub goes_on : ℕ → Blocks → Bool
goes_on kind no_blocks = false
goes_on kind (blank_line l rest) = goes_on kind rest
goes_on kind (leaf s rest) = false
goes_on kind (container k body rest) = is_item_of kind k

-- an item of the same list comes after this container
abbrev pub follows : Container → Blocks → Bool
follows block_quote rest = false
follows (list_item kind number content) rest = goes_on kind rest

-- blank lines that a leaf has read, and which are none of its own
abbrev pub leaf_blank : Leaf → Bool
leaf_blank (indented_code texts pending) = not (is_empty pending)
leaf_blank _ = false

-- the last line is blank, in nested lists too; the blank behind a mark alone is no blank line
abbrev pub ends_blank : Blocks → Bool
ends_blank no_blocks = false
ends_blank (blank_line l no_blocks) = true
ends_blank (blank_line l rest) = ends_blank rest
ends_blank (leaf s no_blocks) = leaf_blank s
ends_blank (leaf s rest) = ends_blank rest
ends_blank (container block_quote body no_blocks) = false
ends_blank (container (list_item kind number content) (blank_line l no_blocks) no_blocks) = false
ends_blank (container (list_item kind number content) body no_blocks) = ends_blank body
ends_blank (container k body rest) = ends_blank rest

-- the last line of an item is blank
abbrev pub item_blank : Blocks → Bool
item_blank (blank_line l no_blocks) = false
item_blank body = ends_blank body

-- the last line of a container is blank
abbrev pub container_blank : Container → Blocks → Bool
container_blank block_quote body = false
container_blank (list_item kind number content) body = item_blank body

-- a blank line separates two blocks; items of one list are one block
abbrev pub has_apart : Blocks → Bool
has_apart no_blocks = false
has_apart (blank_line l rest) = has_apart rest
has_apart (leaf s rest) = ((leaf_blank s || starts_gap rest) && has_block rest) || has_apart rest
has_apart (container k body rest) = (not (follows k rest) && ((container_blank k body || starts_gap rest) && has_block rest)) || has_apart rest

-- the list that the blocks go on with is loose: in an item, or between two items
abbrev pub is_loose : ℕ → Blocks → Bool
is_loose kind no_blocks = false
is_loose kind (blank_line l rest) = is_loose kind rest
is_loose kind (leaf s rest) = false
is_loose kind (container k body rest) = is_item_of kind k && ((has_apart body || (goes_on kind rest && (item_blank body || starts_gap rest))) || is_loose kind rest)
