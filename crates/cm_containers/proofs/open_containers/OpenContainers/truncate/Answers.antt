use Rattle.cm_containers.proofs.QuoteLaws.{quotes_stay}
use Rattle.cm_containers.proofs.open_containers.OpenContainers.truncate.Goals as goal

pub invariant_of-self-else-kept-self : goal.invariant_of-self-else-kept-self
invariant_of-self-else-kept-self c =
    quotes_stay c.args.kept c.self.inside.containers.items c.truncate.new.self.items c.self.inside.quoted c.truncate.ensures.items c.self.invariant c.if-kept-self.false
