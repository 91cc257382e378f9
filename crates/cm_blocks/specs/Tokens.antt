-- Blocks as tokens, in the order of the text.
use Rattle.std.specs.Prelude.{List, [], ◌++◌, ◌∷◌}
use Rattle.markdown_grammar.specs.Blocks.{Blocks}
use Rattle.markdown_grammar.specs.Containers as grammar
use Rattle.markdown_grammar.specs.Extents.{blank_line, container, leaf, no_blocks}
use Rattle.cm_containers.specs.declared.kinds.Container.{Container}
use Rattle.cm_containers.specs.declared.kinds.Container.TheVariants.{Item, Quote}
use Rattle.cm_blocks.specs.declared.kinds.Token.{Token}
use Rattle.cm_blocks.specs.declared.kinds.Token.TheVariants.{Blank, Closes, Holds, Opens}
use Rattle.cm_blocks.specs.Leaves.{leaf_of}

abbrev pub container_of : grammar.Container → Container
container_of grammar.block_quote = Quote
container_of (grammar.list_item kind number content) = Item content kind number

-- a container stands between its start and its end; of a blank line nothing is kept
abbrev pub tokens : Blocks → List Token
tokens no_blocks = []
tokens (blank_line l rest) = Blank ∷ tokens rest
tokens (leaf s rest) = Holds (leaf_of s) ∷ tokens rest
tokens (container k body rest) = Opens (container_of k) ∷ (tokens body ++ Closes (container_of k) ∷ tokens rest)
