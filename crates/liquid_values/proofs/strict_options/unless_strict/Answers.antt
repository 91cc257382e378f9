use Rattle.std.proofs.Common.{codes}
use Rattle.site_base.specs.Plain.{Plain}
use Rattle.site_base.specs.View.{plain}
use Rattle.site_base.specs.declared.faults.SiteFault.{SiteFault}
use Rattle.read_record.proofs.CallLaws.{finds_then}
use Rattle.read_record.specs.Queries.{Ask, Give, Query}
use Rattle.read_record.specs.declared.key.Key.TheVariants.{SiteVar}
use Rattle.liquid_values.specs.Answers.{in_plain}
use Rattle.liquid_values.specs.Places.{found_at}
use Rattle.liquid_values.specs.Standing.{place_of}
use Rattle.liquid_values.specs.StrictOptions.{allowed}
use Rattle.liquid_values.proofs.PlaceLaws.{found_runs}
use Rattle.liquid_values.proofs.strict_options.unless_strict.Goals as goal

pub returns-clause-gives : goal.returns-clause-gives
returns-clause-gives g c =
    let view = g.L.Look.view c.args.look.now in let u = g.L.Look.trace c.site_variable.new.look in
    let p = place_of c.args.place.now in let v = plain c.args.value in let settings = plain c.in_ok-settings.settings in
    let next : Plain → Query SiteFault Plain = λ settings. found_at p (allowed c.args.option v settings) in
    finds_then view (g.L.Look.trace c.args.look.now) (Ask (SiteVar (codes "liquid")) Give) next settings u (in_plain c.allowed.result) u c.in_ok-settings.ensures.gives
    (found_runs view u p (allowed c.args.option v settings) (in_plain c.allowed.result) c.allowed.ensures)
