use Rattle.std.proofs.Common.{List, ℕ}
use Rattle.site_base.specs.Plain.{Plain}
use Rattle.site_base.specs.declared.faults.SiteFault.{SiteFault}
use Rattle.read_record.specs.Answers.{in_plain}
use Rattle.read_record.specs.Queries.{Query}
use Rattle.liquid_values.specs.Standing.{place_of}
use Rattle.liquid_values.proofs.NextLaws.{finds_next}
use Rattle.liquid_eval.specs.Excerpts as definitions
use Rattle.liquid_eval.specs.Nodes.{entering, none_made}
use Rattle.liquid_eval.proofs.excerpts.excerpt_before.Goals as goal

pub returns-clause-gives : goal.returns-clause-gives
returns-clause-gives g c =
    let enter = entering none_made c.args.place.now.levels in let p = place_of c.args.place.now in let n = c.args.item.now in
    let view = g.L.Look.view c.args.look.now in let t = g.L.Look.trace c.args.look.now in
    let other = g.L.Look.view c.front_text.new.look in let u = g.L.Look.trace c.front_text.new.look in let next : List ℕ → Query SiteFault Plain = λ text. definitions.converted p n text in
    finds_next view other t (definitions.front_text enter p n c.args.mark.now) next c.in_ok-text.text u c.in_ok-text.ensures.same c.in_ok-text.ensures.gives
    (in_plain c.converted.result) (g.L.Look.trace c.converted.new.look) c.converted.ensures.gives
