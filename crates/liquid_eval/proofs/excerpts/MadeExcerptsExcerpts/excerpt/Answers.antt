use Rattle.std.proofs.lemmas.Result.{err_from_is_err_and}
use Rattle.site_base.specs.View.{plain}
use Rattle.read_record.proofs.CallLaws.{stops_bind}
use Rattle.read_record.proofs.QueryLaws.{run_gave}
use Rattle.liquid_values.specs.Names.{given}
use Rattle.liquid_values.specs.Standing.{place_of}
use Rattle.liquid_eval.specs.Excerpts as definitions
use Rattle.liquid_eval.specs.Nodes.{entering, none_made}
use Rattle.liquid_eval.proofs.excerpts.MadeExcerptsExcerpts.excerpt.Goals as goal

pub returns-in_err-value-clause-gives : goal.returns-in_err-value-clause-gives
returns-in_err-value-clause-gives g c =
    let enter = entering none_made c.args.place.now.levels in let p = place_of c.args.place.now in let n = c.args.item.now in
    let view = g.L.Look.view c.args.look.now in let t = g.L.Look.trace c.args.look.now in
    let stop = c.in_err-value.field-0.0 in let f = err_from_is_err_and c.from_residual.result c.from_residual.ensures.1 in
    rw (f.1, f.2) (stops_bind view t (definitions.excerpt enter p n) given stop (g.L.Look.trace c.excerpt.new.look) c.in_err-value.ensures.gives)

pub returns-clause-gives : goal.returns-clause-gives
returns-clause-gives g c =
    let enter = entering none_made c.args.place.now.levels in let p = place_of c.args.place.now in let n = c.args.item.now in
    let view = g.L.Look.view c.args.look.now in let t = g.L.Look.trace c.args.look.now in
    run_gave view t (definitions.excerpt enter p n) given (plain c.in_ok-value.value) (g.L.Look.trace c.excerpt.new.look) c.in_ok-value.ensures.gives
