use Rattle.std.proofs.Common.{sym, subst, arith}
use Rattle.read_record.specs.Answers.{Finds}
use Rattle.read_record.specs.Queries.{run}
use Rattle.liquid_values.specs.Standing.{place_of}
use Rattle.liquid_tags.proofs.IncludeLaws.{given_some}
use Rattle.liquid_tags.specs.Answers.{in_given}
use Rattle.liquid_tags.proofs.includes.include_value.Goals as goal

pub returns-in-len1-up-clause-gives : goal.returns-in-len1-up-clause-gives
returns-in-len1-up-clause-gives g c =
    let ex = g.X.Excerpts.excerpts c.args.place.now.levels in let p = place_of c.args.place.now in let vars = c.args.assigned.now in
    let view = g.L.Look.view c.args.look.now in let t = g.L.Look.trace c.args.look.now in
    subst (λ q. Finds (run view t q) (in_given c.some_given.result) (g.L.Look.trace c.some_given.new.look)) (sym (given_some ex p vars c.args.params.now (omega (arith, c.in-len1-up.len_at_least)))) c.some_given.ensures.gives
