use Rattle.cm_blocks.specs.MadeViews.{made}
use Rattle.cm_blocks.proofs.MadeLaws.{last_made}
use Rattle.cm_blocks.proofs.making.nodes_of.Goals as goal

pub loop-token-preserved : goal.loop-token-preserved
loop-token-preserved c = last_made c.loop-token.tokens.items c.pop.new.self.items c.in-Some.token (made c.loop-token.making) (made c.take.new.self) _ c.in-Some.ensures.items c.in_ok-take.ensures c.loop-token.invariant
