-- A document as a flat list of nodes, in which quotes, lists and items have the number of nodes inside of them, which follow them.
use Rattle.std.specs.Prelude.{List, [], length, ◌++◌, ◌∷◌}
use Rattle.cm_blocks.specs.Documents as document
use Rattle.cm_blocks.specs.Documents.{Document}
use Rattle.cm_blocks.specs.declared.node.Node.{Node}
use Rattle.cm_blocks.specs.declared.node.Node.TheVariants as node

abbrev pub laid_out : Document → List Node
laid_out document.nothing = []
laid_out (document.paragraph text rest) = node.Paragraph text ∷ laid_out rest
laid_out (document.heading level text rest) = node.Heading level text ∷ laid_out rest
laid_out (document.thematic_break rest) = node.Break ∷ laid_out rest
laid_out (document.code info text rest) = node.Code info text ∷ laid_out rest
laid_out (document.html text rest) = node.Html text ∷ laid_out rest
laid_out (document.quote body rest) = node.Quote (length (laid_out body)) ∷ (laid_out body ++ laid_out rest)
laid_out (document.list kind number loose items rest) = node.List kind number loose (length (laid_out items)) ∷ (laid_out items ++ laid_out rest)
laid_out (document.item body rest) = node.Item (length (laid_out body)) ∷ (laid_out body ++ laid_out rest)
