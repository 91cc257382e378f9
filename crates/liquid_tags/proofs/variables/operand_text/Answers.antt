use Rattle.std.proofs.Common.{◌∙◌, ap, sym, List, ℕ}
use Rattle.site_base.specs.Plain.{Plain}
use Rattle.site_base.specs.Values.{value_text}
use Rattle.site_base.specs.View.{plain}
use Rattle.read_record.specs.Queries.{Give, RanTo}
use Rattle.read_record.proofs.QueryLaws.{run_gave}
use Rattle.liquid_values.specs.Operands.{operand}
use Rattle.liquid_values.specs.Standing.{place_of}
use Rattle.liquid_tags.proofs.variables.operand_text.Goals as goal

pub returns-clause-gives : goal.returns-clause-gives
returns-clause-gives g c =
    let s = g.L.Look.trace c.operand.new.look in
    run_gave (g.L.Look.view c.args.look.now) (g.L.Look.trace c.args.look.now) (operand (g.X.Excerpts.excerpts c.args.place.now.levels) (place_of c.args.place.now) c.args.assigned.now c.args.each.now)
    (λ (v : Plain). Give (value_text v)) (plain c.in_ok-value.value) s c.in_ok-value.ensures.gives
    ∙ ap (λ (t : List ℕ). RanTo t s) (sym c.in_ok-value_text.ensures)
