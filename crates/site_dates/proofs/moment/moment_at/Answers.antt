use Rattle.std.proofs.Common.{arith}
use Rattle.std.proofs.lemmas.Int.{ints}
use Rattle.site_dates.proofs.moment.moment_at.Goals as goal

pub returns : goal.returns
returns c = omega (arith, ints)
