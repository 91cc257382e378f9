use Rattle.std.proofs.Common.{◌∙◌, ap}
use Rattle.site_base.specs.View.{plain}
use Rattle.read_record.specs.Queries.{run}
use Rattle.read_record.proofs.QueryLaws.{run_gave}
use Rattle.liquid_values.specs.Names.{given, site_member, time_query}
use Rattle.liquid_values.specs.Standing.{place_of}
use Rattle.liquid_values.proofs.site_members.site_member.Goals as goal

pub returns-in_ok-site_time-in-time-clause-gives : goal.returns-in_ok-site_time-in-time-clause-gives
returns-in_ok-site_time-in-time-clause-gives g c =
    let view = g.L.Look.view c.args.look.now in let t = g.L.Look.trace c.args.look.now in let p = place_of c.args.place.now in
    ap (λ x. run view t (site_member p x)) c.in-time.is
    ∙ run_gave view t (time_query p) given (plain c.in_ok-site_time-in-time.field-0) (g.L.Look.trace c.site_time.new.look) c.in_ok-site_time-in-time.ensures.gives
