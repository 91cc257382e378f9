use Rattle.std.proofs.Common.{subst}
use Rattle.site_base.specs.Plain.{Pairs, no_pairs, hash}
use Rattle.read_record.proofs.CallLaws.{finds_then}
use Rattle.filter_base.specs.Limits.{fits}
use Rattle.liquid_values.proofs.PlaceLaws.{found_runs}
use Rattle.liquid_values.specs.Answers.{FoundAt, in_plain}
use Rattle.liquid_values.specs.Places.{found_at}
use Rattle.liquid_values.specs.Standing.{place_of}
use Rattle.liquid_tags.specs.Includes as includes
use Rattle.liquid_tags.proofs.includes.given_value.Goals as goal

pub returns-clause-gives : goal.returns-clause-gives
returns-clause-gives g c =
    let ex = g.X.Excerpts.excerpts c.args.place.now.levels in let p = place_of c.args.place.now in let vars = c.args.assigned.now in
    let view = g.L.Look.view c.args.look.now in let t = g.L.Look.trace c.args.look.now in
    let u = g.L.Look.trace c.parameters.new.look in let made : Pairs = c.in_ok-made.made in
    finds_then view t (includes.parameters ex p vars no_pairs c.args.params.now) (λ (ps : Pairs). found_at p (fits (hash ps))) made u (in_plain c.fitted.result) u c.in_ok-made.ensures.gives
    (found_runs view u p (fits (hash made)) (in_plain c.fitted.result) (subst (λ (ps : Pairs). FoundAt p (fits (hash ps)) (in_plain c.fitted.result)) c.in_ok-shared.ensures c.fitted.ensures))
