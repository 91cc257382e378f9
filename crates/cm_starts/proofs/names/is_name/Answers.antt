use Rattle.cm_starts.proofs.Words.{lengths_differ}
use Rattle.cm_starts.proofs.names.is_name.Goals as goal

pub returns-then-known-name : goal.returns-then-known-name
returns-then-known-name c = lengths_differ c.args.known.now c.args.name.now c.if-known-name.true
