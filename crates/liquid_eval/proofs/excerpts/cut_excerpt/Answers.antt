use Rattle.std.proofs.Common.{List, ℕ}
use Rattle.site_base.specs.Plain.{Plain}
use Rattle.site_base.specs.View.{plain}
use Rattle.site_base.specs.declared.faults.SiteFault.{SiteFault}
use Rattle.read_record.specs.Answers.{in_plain}
use Rattle.read_record.specs.Queries.{Query}
use Rattle.liquid_values.specs.Standing.{place_of}
use Rattle.liquid_values.proofs.NextLaws.{finds_next}
use Rattle.liquid_eval.specs.Excerpts as definitions
use Rattle.liquid_eval.specs.Nodes.{entering, none_made}
use Rattle.liquid_eval.proofs.excerpts.cut_excerpt.Goals as goal

pub returns-clause-gives : goal.returns-clause-gives
returns-clause-gives g c =
    let enter = entering none_made c.args.place.now.levels in let p = place_of c.args.place.now in let n = c.args.item.now in
    let view = g.L.Look.view c.args.look.now in let t = g.L.Look.trace c.args.look.now in
    let other = g.L.Look.view c.separator.new.look in let u = g.L.Look.trace c.separator.new.look in let next : List ℕ → Query SiteFault Plain = λ mark. definitions.excerpt_before enter p n mark in
    finds_next view other t (definitions.separator (plain c.args.own)) next c.in_ok-mark.mark u c.in_ok-mark.ensures.same c.in_ok-mark.ensures.gives
    (in_plain c.excerpt_before.result) (g.L.Look.trace c.excerpt_before.new.look) c.excerpt_before.ensures.gives
