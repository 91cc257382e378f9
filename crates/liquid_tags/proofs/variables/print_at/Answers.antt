use Rattle.std.proofs.Common.{◌≡◌, ◌∙◌, ◌+◌, suc, ap, sym, arith}
use Rattle.std.specs.Prelude.{slice_get}
use Rattle.site_base.specs.Plain.{Plain, Pairs, set}
use Rattle.read_record.specs.Queries.{Give, RanTo}
use Rattle.read_record.proofs.QueryLaws.{run_gave}
use Rattle.liquid_values.specs.Members.{count_value}
use Rattle.liquid_values.specs.Standing.{place_of}
use Rattle.liquid_tags.specs.States.{with_turns}
use Rattle.liquid_tags.specs.Variables.{printed, turned}
use Rattle.liquid_tags.specs.declared.state.State.{State}
use Rattle.liquid_tags.proofs.variables.print_at.Goals as goal

pub returns-clause-gives : goal.returns-clause-gives
returns-clause-gives g c =
    let ex = g.X.Excerpts.excerpts c.args.place.now.levels in let p = place_of c.args.place.now in let at = c.args.at in let u = g.L.Look.trace c.print.new.look in
    let left : State = c.print.new.state in
    let more : c.from.result + 1 ≡ suc at = omega (arith, c.from.ensures) in
    let turns : c.set.new.self ≡ set c.args.group (count_value (suc at)) left.turns = c.in_ok-set.ensures.ok ∙ ap (λ (v : Plain). set c.args.group v left.turns) (c.count_value.ensures ∙ ap count_value more) in
    run_gave (g.L.Look.view c.args.look.now) (g.L.Look.trace c.args.look.now) (printed ex p (slice_get c.args.values.now at) c.args.state.now) (λ (x : State). Give (turned c.args.group (suc at) x)) left u c.in_ok-print.ensures.gives
    ∙ ap (λ (ts : Pairs). RanTo (with_turns ts left) u) (sym turns)
