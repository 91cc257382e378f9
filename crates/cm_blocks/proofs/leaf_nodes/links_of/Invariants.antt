use Rattle.std.proofs.Common.{◌≡◌, ◌++◌, drop}
use Rattle.cm_blocks.specs.Making.{links_in}
use Rattle.cm_blocks.proofs.leaf_nodes.links_of.Given as goal

abbrev pub invariant-loop-token : goal.invariant-loop-token
invariant-loop-token l = l.links ++ links_in (drop l.token-index l.tokens) ≡ links_in l.tokens
