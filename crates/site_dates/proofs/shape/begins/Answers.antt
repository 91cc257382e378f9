use Rattle.std.proofs.Common.{sym, arith}
use Rattle.site_dates.proofs.Shapes.{too_short}
use Rattle.site_dates.proofs.shape.begins.Goals as goal

pub returns-then-text-shape-clause-is : goal.returns-then-text-shape-clause-is
returns-then-text-shape-clause-is c = sym (too_short c.args.shape.now c.args.text.now (omega arith))
