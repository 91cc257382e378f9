use Rattle.site_base.specs.View.{plain}
use Rattle.filter_base.specs.Answers.{given}
use Rattle.filter_base.specs.Keyed.{name_given}
use Rattle.filter_base.specs.Taken.{source_of}
use Rattle.list_filters.specs.Sortings.{naturally_sorted}
use Rattle.list_filters.proofs.SelectionLaws.{selected}
use Rattle.list_filters.proofs.sortings.sort_natural.Goals as goal

pub returns-clause-gives : goal.returns-clause-gives
returns-clause-gives g c =
    selected (g.L.Look.view c.args.look.now) (g.L.Look.trace c.args.look.now) (g.L.Look.trace c.keyed_by.new.look) (name_given (given c.args.property)) (plain c.args.input.now)
    naturally_sorted (source_of c.in_ok-source.source) c.in_ok-naturally_sorted.field-0 c.in_ok-source.ensures.gives c.in_ok-naturally_sorted.ensures
