use Rattle.std.proofs.Common.{◌≡◌, ◌∙◌, ap, sym, subst, Option, Some, None}
use Rattle.std.specs.Option.{option_or}
use Rattle.site_base.specs.View.{plain}
use Rattle.jekyll_filters.specs.Table as jekyll
use Rattle.filter_base.specs.Answers.{Meaning}
use Rattle.liquid_filters.specs.Table as liquid
use Rattle.liquid_values.specs.Answers.{in_plain}
use Rattle.liquid_values.specs.Standing.{place_of}
use Rattle.read_record.specs.Answers.{Finds}
use Rattle.read_record.specs.Queries.{run}
use Rattle.liquid_tags.specs.Expressions.{filtered_by, meaning_named}
use Rattle.liquid_tags.proofs.expressions.filtered_by.Goals as goal

pub returns-in-Some-clause-gives : goal.returns-in-Some-clause-gives
returns-in-Some-clause-gives g c =
    let ex = g.X.Excerpts.excerpts c.args.place.now.levels in let p = place_of c.args.place.now in let vars = c.args.assigned.now in
    let view = g.L.Look.view c.args.look.now in let t = g.L.Look.trace c.args.look.now in
    let name = c.args.filter.now.name in
    let first : jekyll.filter_named name ≡ Some (jekyll.meaning_of c.in-Some.name) = ap jekyll.filter_named (sym c.as_str.ensures) ∙ sym c.in-Some.ensures in
    let is : meaning_named name ≡ Some (jekyll.meaning_of c.in-Some.name) = ap (λ (o : Option Meaning). option_or o (liquid.filter_named name)) first in
    subst (λ (o : Option Meaning). Finds (run view t (filtered_by ex p vars o c.args.filter.now (plain c.args.input.now))) (in_plain c.by_jekyll.result) (g.L.Look.trace c.by_jekyll.new.look)) (sym is) c.by_jekyll.ensures.gives

pub returns-in-Some-named-clause-gives : goal.returns-in-Some-named-clause-gives
returns-in-Some-named-clause-gives g c =
    let ex = g.X.Excerpts.excerpts c.args.place.now.levels in let p = place_of c.args.place.now in let vars = c.args.assigned.now in
    let view = g.L.Look.view c.args.look.now in let t = g.L.Look.trace c.args.look.now in
    let name = c.args.filter.now.name in
    let first : jekyll.filter_named name ≡ None = ap jekyll.filter_named (sym c.as_str.ensures) ∙ sym c.in_default.ensures in
    let second : liquid.filter_named name ≡ Some (liquid.meaning_of c.in-Some-named.name) = ap liquid.filter_named (sym c.as_str-2.ensures) ∙ sym c.in-Some-named.ensures in
    let is : meaning_named name ≡ Some (liquid.meaning_of c.in-Some-named.name) = ap (λ (o : Option Meaning). option_or o (liquid.filter_named name)) first ∙ second in
    subst (λ (o : Option Meaning). Finds (run view t (filtered_by ex p vars o c.args.filter.now (plain c.args.input.now))) (in_plain c.by_liquid.result) (g.L.Look.trace c.by_liquid.new.look)) (sym is) c.by_liquid.ensures.gives

pub returns-clause-gives : goal.returns-clause-gives
returns-clause-gives g c =
    let ex = g.X.Excerpts.excerpts c.args.place.now.levels in let p = place_of c.args.place.now in let vars = c.args.assigned.now in
    let view = g.L.Look.view c.args.look.now in let t = g.L.Look.trace c.args.look.now in
    let name = c.args.filter.now.name in
    let first : jekyll.filter_named name ≡ None = ap jekyll.filter_named (sym c.as_str.ensures) ∙ sym c.in_default.ensures in
    let second : liquid.filter_named name ≡ None = ap liquid.filter_named (sym c.as_str-2.ensures) ∙ sym c.in_default-named.ensures in
    let is : meaning_named name ≡ None = ap (λ (o : Option Meaning). option_or o (liquid.filter_named name)) first ∙ second in
    subst (λ (o : Option Meaning). Finds (run view t (filtered_by ex p vars o c.args.filter.now (plain c.args.input.now))) (in_plain c.unknown_filter.result) (g.L.Look.trace c.unknown_filter.new.look)) (sym is) c.unknown_filter.ensures.gives
