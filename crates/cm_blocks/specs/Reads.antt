-- What is read of a text.
use Rattle.std.specs.Prelude.{◌≡◌}
use Rattle.markdown_grammar.specs.Blocks as grammar
use Rattle.markdown_grammar.specs.LinksOf as links
use Rattle.cm_blocks.specs.Documents.{document_of}
use Rattle.cm_blocks.specs.Layouts.{laid_out}
use Rattle.cm_blocks.specs.declared.node.Blocks.{Blocks}

-- the document of the blocks, laid out, and their definitions
pub record IsRead (bs : grammar.Blocks) (found : Blocks) : Type 0 where
  pub nodes : found.nodes.items ≡ laid_out (document_of bs)
  pub links : found.links ≡ links.links_of bs
