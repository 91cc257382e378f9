use Rattle.std.proofs.Common.{map}
use Rattle.site_base.specs.View.{plain}
use Rattle.filter_base.proofs.AnswerLaws.{replies_finished}
use Rattle.liquid_filters.specs.Table.{meaning_of}
use Rattle.liquid_filters.proofs.filter_name.FilterName.apply.Goals as goal

pub returns-clause-gives : goal.returns-clause-gives
returns-clause-gives g c =
    rw c.finished.ensures
    (replies_finished (g.L.Look.view c.args.look.now) (g.L.Look.trace c.args.look.now) (g.L.Look.trace c.value.new.look) (meaning_of c.args.self (plain c.args.input.now) (map plain c.args.args.now)) c.value.result c.value.ensures.gives)
