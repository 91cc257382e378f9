use Rattle.std.proofs.Common.{Option}
use Rattle.std.specs.Option.{option_map}
use Rattle.site_base.specs.Plain.{Plain}
use Rattle.site_base.specs.View.{plain}
use Rattle.site_base.specs.declared.faults.SiteFault.{SiteFault}
use Rattle.read_record.proofs.QueryLaws.{run_gave}
use Rattle.read_record.specs.Queries.{Query, Give}
use Rattle.liquid_values.specs.Standing.{place_of}
use Rattle.liquid_tags.specs.Includes as includes
use Rattle.liquid_tags.proofs.includes.with_given.Goals as goal

pub returns-clause-gives : goal.returns-clause-gives
returns-clause-gives g c =
    let ex = g.X.Excerpts.excerpts c.args.place.now.levels in let p = place_of c.args.place.now in let vars = c.args.assigned.now in
    let view = g.L.Look.view c.args.look.now in let t = g.L.Look.trace c.args.look.now in
    let next : Option Plain → Query SiteFault includes.Included = λ o. Give (record { file = c.args.file; tree = c.args.template; given = o }) in
    run_gave view t (includes.include_value ex p vars c.args.params.now) next (option_map plain c.in_ok-given.given) (g.L.Look.trace c.include_value.new.look) c.in_ok-given.ensures.gives
