use Rattle.std.proofs.Common.{ap, ◌∙◌}
use Rattle.markdown_grammar.specs.Blocks.{blocks_of}
use Rattle.cm_blocks.specs.Making.{links_in}
use Rattle.cm_blocks.proofs.MadeLaws.{links_is, nodes_are}
use Rattle.cm_blocks.proofs.reading.read_blocks.Goals as goal

pub returns : goal.returns
returns c = record {
  nodes = nodes_are (blocks_of c.args.text.now) c.in_ok-nodes.nodes.items c.in_ok-tokens.tokens.items c.in_ok-nodes.ensures c.in_ok-tokens.ensures;
  links = c.in_ok-links.ensures ∙ ap links_in (c.deref.ensures.value ∙ c.in_ok-tokens.ensures) ∙ links_is (blocks_of c.args.text.now);
}
