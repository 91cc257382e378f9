use Rattle.std.proofs.Common.{List, ℕ, Option, Some, ap, sym, subst, ◌∙◌}
use Rattle.read_record.specs.Queries.{Give, bind, run}
use Rattle.site_base.specs.View.{plain}
use Rattle.filter_base.specs.Answers.{Finds}
use Rattle.filter_base.specs.Elements.{elements}
use Rattle.filter_base.specs.Keyed.{keys, source}
use Rattle.filter_base.specs.Taken.{found_source, item_values}
use Rattle.filter_base.proofs.CallLaws.{after_made}
use Rattle.filter_base.proofs.keyed.Source.keyed.Goals as goal

pub returns-in-Some-clause-gives : goal.returns-in-Some-clause-gives
returns-in-Some-clause-gives g c =
    let view = g.L.Look.view c.args.look.now in let t = g.L.Look.trace c.args.look.now in
    let is = item_values c.in_ok-elements.elements in
    after_made view t _ (elements (plain c.args.input.now)) is (λ is. bind (keys c.args.name is) (λ ks. Give (source is ks))) _ c.in_ok-elements.ensures
    (subst (λ (name : Option (List ℕ)). Finds (run view t (bind (keys name is) (λ ks. Give (source is ks)))) (found_source c.with_properties.result) (g.L.Look.trace c.with_properties.new.look))
    (ap Some c.as_str.ensures ∙ sym c.in-Some.is) c.with_properties.ensures.gives)
