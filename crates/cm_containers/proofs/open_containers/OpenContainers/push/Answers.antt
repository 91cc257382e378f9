use Rattle.std.proofs.Common.{arith}
use Rattle.cm_containers.proofs.QuoteLaws.{before_item, up_to_last}
use Rattle.cm_containers.proofs.open_containers.OpenContainers.push.Goals as goal

pub invariant_of-self-then-is_quote : goal.invariant_of-self-then-is_quote
invariant_of-self-then-is_quote c =
    up_to_last c.args.container c.self.inside.containers.items c.push.new.self.items c.len-self-inside.result c.is_quote.result c.in_ok-push.ensures.items (omega (arith, c.len-self-inside.ensures, c.push.new.self.ok.0)) c.is_quote.ensures c.if-is_quote.true

pub invariant_of-self-else-is_quote : goal.invariant_of-self-else-is_quote
invariant_of-self-else-is_quote c =
    before_item c.args.container c.self.inside.containers.items c.push.new.self.items c.self.inside.quoted c.is_quote.result c.in_ok-push.ensures.items c.self.invariant c.is_quote.ensures c.if-is_quote.false
