use Rattle.std.proofs.Common.{◌∙◌, ℕ, ap, sym, subst}
use Rattle.std.proofs.lemmas.Result.{err_from_is_err_and}
use Rattle.read_record.specs.Answers.{Stops}
use Rattle.read_record.specs.Queries.{Give, RanTo, run}
use Rattle.read_record.proofs.CallLaws.{stops_bind}
use Rattle.read_record.proofs.QueryLaws.{run_gave}
use Rattle.liquid_values.specs.Standing.{place_of}
use Rattle.liquid_tags.specs.Elements as definitions
use Rattle.liquid_tags.specs.declared.elements.Numbers.{Numbers}
use Rattle.liquid_tags.proofs.elements.with_part.Goals as goal

pub returns-in_err-number-in-Number-clause-gives : goal.returns-in_err-number-in-Number-clause-gives
returns-in_err-number-in-Number-clause-gives g c =
    let view = g.L.Look.view c.args.look.now in let t = g.L.Look.trace c.args.look.now in let s = g.L.Look.trace c.given_number.new.look in
    let ex = g.X.Excerpts.excerpts c.args.place.now.levels in let p = place_of c.args.place.now in let vars = c.args.assigned.now in
    let made : Numbers = c.args.numbers.now in let stop = c.in_err-number-in-Number.field-0.0 in
    let e = err_from_is_err_and c.from_residual.result c.from_residual.ensures.1 in
    rw (e.1, e.2)
    (subst (λ q. Stops (run view t (definitions.with_part ex p vars made q)) stop s) (sym c.in-Number.is)
    (stops_bind view t (definitions.given_number ex p vars c.in-Number.expr) (λ (n : ℕ). Give (definitions.with_number c.in-Number.key n made)) stop s c.in_err-number-in-Number.ensures.gives))

pub returns-in_ok-number-in-Number-clause-gives : goal.returns-in_ok-number-in-Number-clause-gives
returns-in_ok-number-in-Number-clause-gives g c =
    let view = g.L.Look.view c.args.look.now in let t = g.L.Look.trace c.args.look.now in let s = g.L.Look.trace c.given_number.new.look in
    let ex = g.X.Excerpts.excerpts c.args.place.now.levels in let p = place_of c.args.place.now in let vars = c.args.assigned.now in
    let made : Numbers = c.args.numbers.now in let n : ℕ = c.in_ok-number-in-Number.number in
    ap (λ q. run view t (definitions.with_part ex p vars made q)) c.in-Number.is
    ∙ run_gave view t (definitions.given_number ex p vars c.in-Number.expr) (λ (n : ℕ). Give (definitions.with_number c.in-Number.key n made)) n s c.in_ok-number-in-Number.ensures.gives
    ∙ ap (λ ns. RanTo ns s) (sym c.with_number.ensures)
