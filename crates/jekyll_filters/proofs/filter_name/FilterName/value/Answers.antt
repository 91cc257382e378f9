use Rattle.std.proofs.Common.{map}
use Rattle.site_base.specs.View.{plain}
use Rattle.filter_base.proofs.AnswerLaws.{makes_gives}
use Rattle.jekyll_filters.specs.Lists.{list_filter}
use Rattle.jekyll_filters.proofs.filter_name.FilterName.value.Goals as goal

pub returns-in-List-clause-gives : goal.returns-in-List-clause-gives
returns-in-List-clause-gives g c =
    rw c.in-List.is (makes_gives (g.L.Look.view c.args.look.now) (g.L.Look.trace c.args.look.now) (list_filter c.in-List.filter (plain c.args.input.now) (map plain c.args.args.now)) c.list_filter.result c.list_filter.ensures)
