use Rattle.std.proofs.Common.{subst}
use Rattle.render_workers.specs.Turns.{IsAddedNew}
use Rattle.render_workers.proofs.serial.add_new.Goals as goal

pub returns-clause-added : goal.returns-clause-added
returns-clause-added g c = subst (λ e. IsAddedNew e c.args.why c.add_shared.result c.args.progress.now c.add_shared.new.progress c.args.noted.now.entries c.add_shared.new.noted.entries) c.in_ok-entry.ensures c.add_shared.ensures.added
