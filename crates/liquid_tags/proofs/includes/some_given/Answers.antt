use Rattle.std.proofs.Common.{Some}
use Rattle.site_base.specs.Plain.{Plain}
use Rattle.site_base.specs.View.{plain}
use Rattle.read_record.proofs.QueryLaws.{run_gave}
use Rattle.read_record.specs.Queries.{Give}
use Rattle.liquid_values.specs.Standing.{place_of}
use Rattle.liquid_tags.specs.Includes as includes
use Rattle.liquid_tags.proofs.includes.some_given.Goals as goal

pub returns-clause-gives : goal.returns-clause-gives
returns-clause-gives g c =
    let ex = g.X.Excerpts.excerpts c.args.place.now.levels in let p = place_of c.args.place.now in let vars = c.args.assigned.now in
    let view = g.L.Look.view c.args.look.now in let t = g.L.Look.trace c.args.look.now in
    run_gave view t (includes.given_value ex p vars c.args.params.now) (λ (v : Plain). Give (Some v)) (plain c.in_ok-value.value) (g.L.Look.trace c.given_value.new.look) c.in_ok-value.ensures.gives
