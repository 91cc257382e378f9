use Rattle.std.proofs.Common.{◌∙◌, ℕ, List, Some, ap, sym}
use Rattle.site_base.specs.Plain.{list}
use Rattle.site_base.specs.View.{plain}
use Rattle.read_record.specs.Queries.{Give, bind, run}
use Rattle.filter_base.specs.Keyed.{Source, entries, keyed}
use Rattle.filter_base.specs.Taken.{source_of}
use Rattle.list_filters.specs.Choosing.{chosen, is_wanted}
use Rattle.list_filters.proofs.SelectionLaws.{selected}
use Rattle.list_filters.proofs.selections.where_property.Goals as goal

pub returns-clause-gives : goal.returns-clause-gives
returns-clause-gives g c =
    let view = g.L.Look.view c.args.look.now in let t = g.L.Look.trace c.args.look.now in let v = plain c.args.input.now in
    let makes = λ (s : Source). chosen (is_wanted (plain c.args.wanted.now)) (entries s) in
    ap (λ (name : List ℕ). run view t (bind (keyed (Some name) v) (λ s. Give (list (makes s))))) (sym c.in_ok-name.ensures)
    ∙ selected view t (g.L.Look.trace c.keyed.new.look) (Some c.in_ok-name.name) v makes (source_of c.in_ok-source.source) c.in_ok-wanted_of.field-0 c.in_ok-source.ensures.gives c.in_ok-wanted_of.ensures
