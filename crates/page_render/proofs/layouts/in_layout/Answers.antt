use Rattle.std.proofs.Common.{◌≡◌, ◌∙◌, subst, sym, List, ℕ, Option}
use Rattle.site_base.specs.Plain.{Plain}
use Rattle.site_base.specs.View.{plain}
use Rattle.site_base.specs.declared.faults.SiteFault.{SiteFault}
use Rattle.liquid_values.proofs.NextLaws.{finds_next}
use Rattle.page_render.specs.Layouts.{in_found, layout_of}
use Rattle.page_render.specs.declared.around.Around.{Around}
use Rattle.page_render.specs.declared.layout.Layout.{Layout}
use Rattle.read_record.specs.Answers.{Finds}
use Rattle.read_record.specs.Queries.{Query, Ask, Give, RanTo, run}
use Rattle.read_record.specs.declared.key.Key.TheVariants as key
use Rattle.page_render.proofs.layouts.in_layout.Goals as goal

pub returns-in-Some-clause-gives : goal.returns-in-Some-clause-gives
returns-in-Some-clause-gives g c =
    let n = c.args.item.now in let own = c.args.own.now in let a = c.args.around in let name = c.args.name.now in
    let view = g.L.Look.view c.args.look.now in let t = g.L.Look.trace c.args.look.now in
    let other = g.L.Look.view c.ask.new.look in let u = g.L.Look.trace c.ask.new.look in let s = g.L.Look.trace c.in_found.new.look in
    let next : Plain → Query SiteFault Around = λ v. in_found n own a name (layout_of v) in
    let gave = subst (λ (x : List ℕ). run view t (Ask (key.Layout x) Give) ≡ RanTo (plain c.in_ok-found.found) u) c.in_ok-share.ensures c.in_ok-found.ensures.gives in
    let is = sym c.in-Some.is ∙ c.in_ok-layout.ensures in
    finds_next view other t (Ask (key.Layout name) Give) next (plain c.in_ok-found.found) u c.in_ok-found.ensures.same gave c.in_found.result s
    (subst (λ (o : Option Layout). Finds (run other u (in_found n own a name o)) c.in_found.result s) is c.in_found.ensures.gives)
