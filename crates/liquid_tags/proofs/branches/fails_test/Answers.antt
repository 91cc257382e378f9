use Rattle.std.proofs.Common.{◌∙◌, ap, sym}
use Rattle.std.specs.Prelude.{not}
use Rattle.read_record.specs.Queries.{Give, run}
use Rattle.read_record.proofs.QueryLaws.{run_gave}
use Rattle.liquid_grammar.specs.declared.item.Part.TheVariants.{Test}
use Rattle.liquid_values.specs.Standing.{place_of}
use Rattle.liquid_tags.specs.Branches.{fails_test}
use Rattle.liquid_tags.specs.Conditions.{condition}
use Rattle.liquid_tags.proofs.branches.fails_test.Goals as goal

pub returns-in_ok-holds-in-Test-clause-gives : goal.returns-in_ok-holds-in-Test-clause-gives
returns-in_ok-holds-in-Test-clause-gives g c =
    let view = g.L.Look.view c.args.look.now in let t = g.L.Look.trace c.args.look.now in let s = g.L.Look.trace c.condition.new.look in
    let ex = g.X.Excerpts.excerpts c.args.place.now.levels in let p = place_of c.args.place.now in let vars = c.args.assigned.now in
    ap (λ x. run view t (fails_test ex vars p x)) (c.in-Test.is ∙ ap Test (sym c.get.ensures))
    ∙ run_gave view t (condition ex p vars c.get.result.now) (λ b. Give (not b)) c.in_ok-holds-in-Test.holds s c.in_ok-holds-in-Test.ensures.gives
