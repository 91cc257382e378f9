-- The first of some nodes alone, and those behind it.
use Rattle.site_base.specs.declared.faults.SiteFault.{SiteFault}
use Rattle.liquid_grammar.specs.Trees.{Tree, done, leaf, block, part}
use Rattle.read_record.specs.Queries.{Query}
use Rattle.liquid_values.specs.Names.{Excerpting}
use Rattle.liquid_values.specs.Places.{Place, at_line, silenced}
use Rattle.liquid_tags.specs.Blanks.{is_silent}
use Rattle.liquid_tags.specs.declared.state.State.{State}
use Rattle.liquid_eval.specs.Nodes.{leaf_node, block_node}
use Rattle.liquid_eval.specs.Reached.{Reached, onward, Enter}

module _ (excerpts : Excerpting) (enter : Enter) where
  -- a part that stands by itself is passed over
  abbrev pub first_node : Place → Tree → State → Query SiteFault Reached
  first_node p done s = onward s
  first_node p (leaf line l rest) s = leaf_node excerpts enter (at_line line p) l s
  first_node p (block line b parts rest) s = block_node excerpts enter (silenced (is_silent b parts) (at_line line p)) b parts s
  first_node p (part line head body rest) s = onward s

abbrev pub behind : Tree → Tree
behind done = done
behind (leaf line l rest) = rest
behind (block line b parts rest) = rest
behind (part line head body rest) = rest
