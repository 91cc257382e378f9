-- All definitions of a text, in order: CommonMark 0.31.2, section 4.7.
use Rattle.std.specs.Prelude.{List, [], ◌++◌}
use Rattle.markdown_grammar.specs.Blocks.{Blocks}
use Rattle.markdown_grammar.specs.Definitions.{Definition, definitions}
use Rattle.markdown_grammar.specs.Extents.{blank_line, container, leaf, no_blocks}
use Rattle.markdown_grammar.specs.Leaves.{Leaf, paragraph, setext_heading}
use Rattle.markdown_grammar.specs.Lines.{joined_lines}

-- the definitions of a paragraph, or of one that an underline has made a heading
abbrev pub leaf_links : Leaf → List Definition
leaf_links (paragraph texts) = definitions (joined_lines texts)
leaf_links (setext_heading level texts) = definitions (joined_lines texts)
leaf_links _ = []

-- the definitions of blocks, those of insides too
abbrev pub links_of : Blocks → List Definition
links_of no_blocks = []
links_of (blank_line l rest) = links_of rest
links_of (leaf s rest) = leaf_links s ++ links_of rest
links_of (container k body rest) = links_of body ++ links_of rest
