use Rattle.markdown_grammar.specs.Blocks.{rules}
use Rattle.markdown_grammar.proofs.LazyLaws.{open_end, lazy_step}
use Rattle.markdown_grammar.proofs.lines.lazy_lines_reach_their_paragraph.Goals as goal

pub returns-clause-seen : goal.returns-clause-seen
returns-clause-seen c = open_end rules

pub returns-clause-taken : goal.returns-clause-taken
returns-clause-taken c = lazy_step
