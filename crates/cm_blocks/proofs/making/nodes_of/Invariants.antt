use Rattle.std.proofs.Common.{◌≡◌, vec_len}
use Rattle.cm_blocks.specs.Making.{all_made, made_start}
use Rattle.cm_blocks.specs.MadeViews.{made}
use Rattle.cm_blocks.proofs.making.nodes_of.Given as goal

abbrev pub invariant-loop-token : goal.invariant-loop-token
invariant-loop-token l = all_made l.tokens.items (made l.making) ≡ all_made l.initial.tokens.items made_start

abbrev pub decreases-loop-token : goal.decreases-loop-token
decreases-loop-token l = vec_len l.tokens
