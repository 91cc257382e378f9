use Rattle.std.proofs.Common.{◌∙◌}
use Rattle.std.proofs.lemmas.Result.{err_from_is_err_and}
use Rattle.site_base.specs.Plain.{Plain}
use Rattle.site_base.specs.View.{plain}
use Rattle.site_base.specs.declared.faults.SiteFault.{SiteFault}
use Rattle.read_record.specs.Queries.{Query, bind}
use Rattle.read_record.proofs.CallLaws.{stops_then}
use Rattle.read_record.proofs.QueryLaws.{run_gave}
use Rattle.liquid_values.specs.Answers.{found_of}
use Rattle.liquid_values.specs.Names.{Found, given, settled}
use Rattle.liquid_values.specs.Operands.{range_of}
use Rattle.liquid_values.specs.Places.{found_at}
use Rattle.liquid_values.specs.Standing.{place_of}
use Rattle.liquid_values.proofs.PlaceLaws.{found_gave, found_stops}
use Rattle.liquid_values.proofs.operands.range_from.Goals as goal

pub returns-in_err-range-clause-gives : goal.returns-in_err-range-clause-gives
returns-in_err-range-clause-gives g c =
    let view = g.L.Look.view c.args.look.now in let t = g.L.Look.trace c.args.look.now in let u = g.L.Look.trace c.into_value.new.look in
    let p = place_of c.args.place.now in let v = plain c.args.first.now in let w = plain c.in_ok-last.last in
    let next : Plain → Query SiteFault Found = λ w. bind (found_at p (range_of v w)) given in
    let stop = c.in_err-range.field-0.0 in let e = err_from_is_err_and c.from_residual-in_err-range.result c.from_residual-in_err-range.ensures.1 in
    rw (e.1, e.2) (stops_then view t (settled p (found_of c.args.last)) next w u stop u c.in_ok-last.ensures.gives (found_stops view u p (range_of v w) given stop c.in_err-range.ensures))

pub returns-clause-gives : goal.returns-clause-gives
returns-clause-gives g c =
    let view = g.L.Look.view c.args.look.now in let t = g.L.Look.trace c.args.look.now in let u = g.L.Look.trace c.into_value.new.look in
    let p = place_of c.args.place.now in let v = plain c.args.first.now in let w = plain c.in_ok-last.last in
    let next : Plain → Query SiteFault Found = λ w. bind (found_at p (range_of v w)) given in
    run_gave view t (settled p (found_of c.args.last)) next w u c.in_ok-last.ensures.gives ∙ found_gave view u p (range_of v w) given (plain c.in_ok-range.range) c.in_ok-range.ensures
