use Rattle.std.proofs.Common.{subst, List, ℕ}
use Rattle.liquid_values.specs.Answers.{Advances}
use Rattle.read_record.specs.Queries.{run}
use Rattle.liquid_values.specs.Standing.{place_of}
use Rattle.liquid_values.proofs.NextLaws.{advances_next}
use Rattle.liquid_tags.specs.FileNames.{name_text}
use Rattle.liquid_tags.specs.Links.{linked}
use Rattle.liquid_tags.proofs.links.link.Goals as goal

pub returns-clause-gives : goal.returns-clause-gives
returns-clause-gives g c =
    let ex = g.X.Excerpts.excerpts c.args.place.now.levels in let p = place_of c.args.place.now in
    let view = g.L.Look.view c.args.look.now in let t = g.L.Look.trace c.args.look.now in
    advances_next view (g.L.Look.view c.name_text.new.look) t (name_text ex p c.args.state.now.assigned c.args.parts.now) (λ (x : List ℕ). linked p c.args.state.now x) c.in_ok-name.name (g.L.Look.trace c.name_text.new.look)
    c.in_ok-name.ensures.same c.in_ok-name.ensures.gives c.linked.result c.linked.new.state (g.L.Look.trace c.linked.new.look) (subst (λ (x : List ℕ). Advances (run (g.L.Look.view c.name_text.new.look) (g.L.Look.trace c.name_text.new.look) (linked p c.args.state.now x)) c.linked.result c.linked.new.state (g.L.Look.trace c.linked.new.look)) c.as_str.ensures c.linked.ensures.gives)
