use Rattle.std.proofs.Common.{◌∙◌}
use Rattle.markdown_grammar.specs.Columns.{own_line}
use Rattle.cm_containers.proofs.Walking.{all_filled, all_quoted, named}
use Rattle.cm_containers.proofs.matching.match_line.Goals as goal

pub enter_all-kept-requires : goal.enter_all-kept-requires
enter_all-kept-requires c = all_quoted c.args.containers.now

pub returns-clause-value : goal.returns-clause-value
returns-clause-value c =
    named c.args.line.now c.enter_all-kept.result _ c.enter_all-kept.ensures.spot (c.enter_all-kept.ensures.value ∙ all_filled c.args.containers.now (own_line 0 c.args.line.now))
