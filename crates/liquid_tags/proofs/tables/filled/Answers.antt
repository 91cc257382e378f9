use Rattle.std.proofs.Common.{◌≡◌, ◌∙◌, None, Some, Ok, List, ap, sym, subst}
use Rattle.std.proofs.lemmas.Result.{err_from_is_err_and}
use Rattle.std.specs.List.{list_any}
use Rattle.site_base.specs.Plain.{Plain}
use Rattle.site_base.specs.View.{plain}
use Rattle.read_record.specs.Answers.{Stops}
use Rattle.read_record.specs.Queries.{RanTo, run}
use Rattle.liquid_grammar.specs.Tags.{has_key}
use Rattle.liquid_values.specs.Answers.{FoundAt}
use Rattle.liquid_values.specs.Standing.{place_of}
use Rattle.liquid_tags.specs.Elements as definitions
use Rattle.liquid_tags.specs.Tables as tables
use Rattle.liquid_tags.specs.declared.elements.Numbers.{Numbers}
use Rattle.liquid_tags.specs.declared.tables.Grid.{Grid}
use Rattle.liquid_tags.proofs.NumberLaws.{both_gave, both_stops}
use Rattle.liquid_tags.proofs.tables.filled.Goals as goal

pub returns-in_err-numbers-clause-gives : goal.returns-in_err-numbers-clause-gives
returns-in_err-numbers-clause-gives g c =
    let view = g.L.Look.view c.args.look.now in let t = g.L.Look.trace c.args.look.now in let s = g.L.Look.trace c.given_numbers.new.look in
    let ex = g.X.Excerpts.excerpts c.args.place.now.levels in let p = place_of c.args.place.now in let vars = c.args.assigned.now in
    let turns = list_any (has_key None) c.args.tag.now.parts in
    let stop = c.in_err-numbers.field-0.0 in
    let e = err_from_is_err_and c.from_residual-in_err-numbers.result c.from_residual-in_err-numbers.ensures.1 in
    rw (e.1, e.2)
    (both_stops view t p (definitions.elements (plain c.args.value)) (definitions.numbers ex p vars definitions.no_numbers c.args.tag.now.parts) (λ (vs : List Plain) (ns : Numbers). Some (tables.cut_grid ns turns vs))
    c.in_ok-whole.whole (subst (λ r. FoundAt p r (Ok c.in_ok-whole.whole)) c.of.ensures c.in_ok-whole.ensures)
    stop s (subst (λ qs. Stops (run view t (definitions.numbers ex p vars definitions.no_numbers qs)) stop s) c.as_slice.ensures c.in_err-numbers.ensures.gives))

pub returns-clause-gives : goal.returns-clause-gives
returns-clause-gives g c =
    let view = g.L.Look.view c.args.look.now in let t = g.L.Look.trace c.args.look.now in let s = g.L.Look.trace c.given_numbers.new.look in
    let ex = g.X.Excerpts.excerpts c.args.place.now.levels in let p = place_of c.args.place.now in let vars = c.args.assigned.now in
    let turns = list_any (has_key None) c.args.tag.now.parts in
    let ns : Numbers = c.in_ok-numbers.numbers in
    both_gave view t p (definitions.elements (plain c.args.value)) (definitions.numbers ex p vars definitions.no_numbers c.args.tag.now.parts) (λ (vs : List Plain) (ns : Numbers). Some (tables.cut_grid ns turns vs))
    c.in_ok-whole.whole (subst (λ r. FoundAt p r (Ok c.in_ok-whole.whole)) c.of.ensures c.in_ok-whole.ensures)
    ns s (subst (λ qs. run view t (definitions.numbers ex p vars definitions.no_numbers qs) ≡ RanTo ns s) c.as_slice.ensures c.in_ok-numbers.ensures.gives)
    ∙ ap (λ (made : Grid). RanTo (Some made) s) (sym (c.cut_grid.ensures ∙ ap (λ b. tables.cut_grid ns b c.in_ok-whole.whole) (c.is_reversed.ensures ∙ ap (list_any (has_key None)) c.as_slice-2.ensures)))
