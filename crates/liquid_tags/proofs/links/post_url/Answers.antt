use Rattle.std.proofs.Common.{List, ℕ}
use Rattle.liquid_values.specs.Standing.{place_of}
use Rattle.liquid_values.proofs.NextLaws.{advances_next}
use Rattle.liquid_tags.specs.FileNames.{name_text}
use Rattle.liquid_tags.specs.Links.{post_linked}
use Rattle.liquid_tags.proofs.links.post_url.Goals as goal

pub returns-clause-gives : goal.returns-clause-gives
returns-clause-gives g c =
    let ex = g.X.Excerpts.excerpts c.args.place.now.levels in let p = place_of c.args.place.now in
    let view = g.L.Look.view c.args.look.now in let t = g.L.Look.trace c.args.look.now in
    advances_next view (g.L.Look.view c.name_text.new.look) t (name_text ex p c.args.state.now.assigned c.args.parts.now) (λ (x : List ℕ). post_linked p c.args.state.now x) c.in_ok-name.name (g.L.Look.trace c.name_text.new.look)
    c.in_ok-name.ensures.same c.in_ok-name.ensures.gives c.post_linked.result c.post_linked.new.state (g.L.Look.trace c.post_linked.new.look) c.post_linked.ensures.gives
