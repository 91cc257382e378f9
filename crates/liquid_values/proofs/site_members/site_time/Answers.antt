use Rattle.std.proofs.Common.{subst}
use Rattle.read_record.specs.Answers.{Finds, in_plain}
use Rattle.read_record.specs.Queries.{run}
use Rattle.liquid_values.specs.Standing.{place_of}
use Rattle.liquid_values.proofs.TimeLaws.{time_is}
use Rattle.liquid_values.proofs.site_members.site_time.Goals as goal

pub returns-clause-gives : goal.returns-clause-gives
returns-clause-gives g c =
    subst (λ q. Finds (run (g.L.Look.view c.args.look.now) (g.L.Look.trace c.args.look.now) q) (in_plain c.dated.result) (g.L.Look.trace c.dated.new.look))
    (time_is (place_of c.args.place.now) _ _ c.in_ok-now.ensures c.in_ok-pattern.ensures) c.dated.ensures.gives
