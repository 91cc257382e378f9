use Rattle.std.proofs.Common.{[], map, subst, List}
use Rattle.site_base.specs.Plain.{Plain}
use Rattle.site_base.specs.View.{plain}
use Rattle.site_base.specs.declared.faults.SiteFault.{SiteFault}
use Rattle.site_base.specs.declared.value.Value.{Value}
use Rattle.jekyll_filters.specs.Table as jekyll
use Rattle.filter_base.specs.Answers.{limited}
use Rattle.liquid_filters.specs.Table as liquid
use Rattle.liquid_grammar.specs.Operands.{Operand}
use Rattle.liquid_values.specs.Answers.{in_plain}
use Rattle.liquid_values.specs.Places.{placed}
use Rattle.liquid_values.specs.Standing.{place_of}
use Rattle.read_record.specs.Answers.{Finds}
use Rattle.read_record.specs.Queries.{Query, bind, run}
use Rattle.liquid_values.proofs.NextLaws.{finds_next}
use Rattle.liquid_tags.specs.Expressions.{values_behind}
use Rattle.liquid_tags.proofs.expressions.by_jekyll.Goals as goal

pub returns-clause-gives : goal.returns-clause-gives
returns-clause-gives g c =
    let ex = g.X.Excerpts.excerpts c.args.place.now.levels in let p = place_of c.args.place.now in let vars = c.args.assigned.now in
    let view = g.L.Look.view c.args.look.now in let t = g.L.Look.trace c.args.look.now in
    let other = g.L.Look.view c.values.new.look in let u = g.L.Look.trace c.values.new.look in
    let r = in_plain c.apply_jekyll.result in let s = g.L.Look.trace c.apply_jekyll.new.look in
    let next : List Plain → Query SiteFault Plain = λ ws. placed p (limited (jekyll.meaning_of c.args.name (plain c.args.input.now) ws)) in
    subst (λ (es : List Operand). Finds (run view t (bind (values_behind ex p vars [] es) next)) r s) c.as_slice.ensures
    (finds_next view other t (values_behind ex p vars [] c.as_slice.result.now) next (map plain c.in_ok-args.args.items) u c.in_ok-args.ensures.same c.in_ok-args.ensures.gives r s
    (subst (λ (vs : List Value). Finds (run other u (next (map plain vs))) r s) c.as_slice-2.ensures.value c.apply_jekyll.ensures.gives))
