use Rattle.std.proofs.Common.{sym, arith}
use Rattle.front_yaml.proofs.FoldLaws.{escaped_on}
use Rattle.front_yaml.proofs.escapes.escape_step.Goals as goal

pub returns-in-Some-clause-value : goal.returns-in-Some-clause-value
returns-in-Some-clause-value c = escaped_on c.args.c c.args.rest.now c.in-Some.len (omega arith) (sym c.in-Some.ensures.value)
