use Rattle.markdown_grammar.proofs.LightRules.{walk, machine}
use Rattle.markdown_grammar.proofs.lines.blocks_in_one_walk.Goals as goal

pub returns-clause-walk : goal.returns-clause-walk
returns-clause-walk c = machine

pub returns-clause-line : goal.returns-clause-line
returns-clause-line c = walk
