use Rattle.std.proofs.lemmas.List.{take_rest}
use Rattle.site_dates.proofs.moment.written_clock.Goals as goal

pub returns-in-Some-clause-is : goal.returns-in-Some-clause-is
returns-in-Some-clause-is c = rw (← c.in-Some.ensures.is) (rw (take_rest c.args.text.now 6) at c.with_seconds.ensures.is)
